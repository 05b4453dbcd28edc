-- The types of functions as kinds of values, and the temps of arguments.
use Rattle.std.specs.Prelude.{◌≡◌, ℕ, ◌<◌, true, false, List, [], ◌∷◌, length, Option, Some, None, slice_get}
use Rattle.ck_int.specs.declared.kinds.IntKind.TheVariants as int
use Rattle.c_tree.specs.Types.{Ty, Tys, no_types, also}
use Rattle.c_tree.specs.WellTyped.{type_in}
use Rattle.c_tree.specs.declared.typed.FunDef.{FunDef}
use Rattle.c_tree.specs.declared.typed.Typed.{Typed}
use Rattle.cheri_c_sem.specs.Kinds.{Kind}
use Rattle.cheri_c_sem.specs.Programs.{lengths_of}
use Rattle.tac_ir.specs.Effects.{kind_of}
use Rattle.tac_ir.specs.WellFormed.{Signature, type_of_param}
use Rattle.tac_ir.specs.declared.code.LibOp.{LibOp}
use Rattle.tac_ir.specs.declared.code.LibOp.TheVariants as lib
use Rattle.tac_ir.specs.declared.code.TacInstr.{TacInstr}
use Rattle.tac_ir.specs.declared.code.TacInstr.TheVariants as instr
use Rattle.tac_ir.specs.declared.code.TacKind.{TacKind}
use Rattle.tac_ir.specs.declared.code.TacKind.TheVariants as kind
use Rattle.tac_emit.specs.declared.emitter.Emitter.{Emitter}
use Rattle.tac_emit.specs.Emitted.{HasKind}
use Rattle.tac_lower.specs.Nodes.{kept_as, or_int}

abbrev pub given_kind : Option TacKind → Option Kind
given_kind None = None
given_kind (Some k) = Some (kind_of k)

abbrev pub taken_kinds : Tys → List Kind
taken_kinds no_types = []
taken_kinds (also t ts) = kind_of (or_int (kept_as t)) ∷ taken_kinds ts

abbrev pub signed : Option Kind → List Kind → Signature
signed gives params = record { gives = gives; params = params }

-- what a function of a type gives and takes
abbrev pub signature_as : Ty → Tys → Signature
signature_as r ps = signed (given_kind (kept_as r)) (taken_kinds ps)

-- the number is that of a type
pub record NamesType (p : Typed) (number : Option ℕ) (t : Ty) : Type 0 where
  pub type : ℕ
  pub is : number ≡ Some type
  pub names : type_in p type ≡ t

-- how a parameter is kept, by its variable
abbrev pub kept_parameter : Typed → FunDef → ℕ → TacKind
kept_parameter p d x = or_int (kept_as (type_in p (type_of_param (slice_get d.vars x))))

-- temps have values of some kinds, one by one
abbrev pub HaveKinds : Emitter → List ℕ → List TacKind → Type 0
HaveKinds e [] [] = Unit {0}
HaveKinds e (t ∷ ts) (k ∷ ks) = HasKind e t k × HaveKinds e ts ks
HaveKinds e ts ks = ⊥

-- a result is named only where there is one
abbrev pub ResultFits : Emitter → (to : Option ℕ) → Option TacKind → Type 0
ResultFits e None gives = Unit {0}
ResultFits e (Some t) None = ⊥
ResultFits e (Some t) (Some k) = HasKind e t k

-- a value is given back exactly where there is one
abbrev pub ReturnFits : Emitter → Option TacKind → (value : Option ℕ) → Type 0
ReturnFits e None None = Unit {0}
ReturnFits e (Some k) (Some t) = HasKind e t k
ReturnFits e gives value = ⊥

-- a library function, by its arguments and its result
abbrev pub ServiceFits : Emitter → LibOp → Option ℕ → List ℕ → Type 0
ServiceFits e lib.PutChar to args = HaveKinds e args (kind.Int int.I32 ∷ []) × ResultFits e to (Some (kind.Int int.I32))
ServiceFits e lib.GetChar to args = HaveKinds e args [] × ResultFits e to (Some (kind.Int int.I32))
ServiceFits e lib.Malloc to args = HaveKinds e args (kind.Int int.U64 ∷ []) × ResultFits e to (Some (kind.Cap false))
ServiceFits e lib.Exit to args = HaveKinds e args (kind.Int int.I32 ∷ []) × ResultFits e to None

-- an instruction that names a global, a literal, a function or an object of the function
abbrev pub ProgramFits : Typed → FunDef → Emitter → TacInstr → Type 0
ProgramFits p d e (instr.Global to n true) = HasKind e to (kind.Cap false) × (n < length p.literals)
ProgramFits p d e (instr.Global to n false) = HasKind e to (kind.Cap false) × (n < length p.globals)
ProgramFits p d e (instr.Function to n) = HasKind e to (kind.Cap false) × (n < length p.funs)
ProgramFits p d e (instr.Local to v) = HasKind e to (kind.Cap false) × (v < length (lengths_of p d.vars))
ProgramFits p d e (instr.Zero v) = v < length (lengths_of p d.vars)
ProgramFits p d e i = ⊥
