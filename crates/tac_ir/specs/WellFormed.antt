-- Which three-address code is well formed for a program.
use Rattle.std.specs.Prelude.{ℕ, ◌%◌, ◌==◌, ◌&&◌, ◌||◌, pos, not, nat_lt, nat_le, Bool, true, false, List, [], ◌∷◌}
use Rattle.std.specs.Prelude.{length, map, Option, Some, None, slice_get, if◌then◌else◌}
use Rattle.ck_int.specs.Kinds.{wrapped}
use Rattle.ck_int.specs.declared.kinds.IntKind.TheVariants as int
use Rattle.c_tree.specs.Layout.{bare}
use Rattle.c_tree.specs.declared.typed.CType.{CType}
use Rattle.c_tree.specs.declared.typed.CType.TheVariants as types
use Rattle.c_tree.specs.declared.typed.FunDef.{FunDef}
use Rattle.c_tree.specs.declared.typed.Typed.{Typed}
use Rattle.c_tree.specs.declared.typed.VarDef.{VarDef}
use Rattle.cheri_c_sem.specs.Compatible.{kind_number, same_bool}
use Rattle.cheri_c_sem.specs.Kinds.{Kind, Plain, Capability}
use Rattle.cheri_c_sem.specs.Programs.{lengths_of}
use Rattle.cheri_c_sem.specs.Types.{scalar_of, is_shift}
use Rattle.tac_ir.specs.Effects.{kind_of, kind_at}
use Rattle.tac_ir.specs.Meaning.{is_label}
use Rattle.tac_ir.specs.declared.code.Amount.{Amount}
use Rattle.tac_ir.specs.declared.code.Amount.TheVariants as amount
use Rattle.tac_ir.specs.declared.code.CapWork.{CapWork}
use Rattle.tac_ir.specs.declared.code.CapWork.TheVariants as cap
use Rattle.tac_ir.specs.declared.code.LibOp.{LibOp}
use Rattle.tac_ir.specs.declared.code.LibOp.TheVariants as lib
use Rattle.tac_ir.specs.declared.code.Tac.{Tac}
use Rattle.tac_ir.specs.declared.code.TacFun.{TacFun}
use Rattle.tac_ir.specs.declared.code.TacInstr.{TacInstr}
use Rattle.tac_ir.specs.declared.code.TacInstr.TheVariants as instr
use Rattle.tac_ir.specs.declared.code.TacKind.{TacKind}
use Rattle.tac_ir.specs.declared.code.TacKind.TheVariants as kind

-- ---- kinds

abbrev pub same_kind : Kind → Kind → Bool
same_kind (Plain j) (Plain k) = kind_number j == kind_number k
same_kind (Capability s) (Capability s') = same_bool s s'
same_kind (Plain j) (Capability s) = false
same_kind (Capability s) (Plain j) = false

abbrev pub is_int : Kind → Bool
is_int (Plain k) = true
is_int (Capability s) = false

abbrev pub is_capability : Kind → Bool
is_capability (Plain k) = false
is_capability (Capability s) = true

abbrev pub pointer : Kind
pointer = Capability false

abbrev pub int_result : Kind
int_result = Plain int.I32

abbrev pub word : Kind
word = Plain int.U64

-- ---- numbers

-- a constant of an integer kind keeps a number of it; one of a capability's kind is any address, of null
abbrev pub constant_fits : TacKind → ℕ → Bool
constant_fits (kind.Int k) v = wrapped k (pos v) == v
constant_fits (kind.Cap signed) v = true

-- as many bytes as one load or store moves
abbrev pub is_unit : ℕ → Bool
is_unit n = n == 1 || n == 2 || n == 4 || n == 8 || n == 16

-- so many bytes are whole units of that length
abbrev pub units_fit : (bytes unit : ℕ) → Bool
units_fit bytes unit = is_unit unit && bytes % unit == 0

-- ---- function types

-- what a function type gives, where that is a value, and the kinds of its parameters
pub record Signature : Type 0 where
  pub gives : Option Kind
  pub params : List Kind

abbrev pub kind_or_int : Option Kind → Kind
kind_or_int None = int_result
kind_or_int (Some k) = k

abbrev pub signature_by : List CType → Option CType → Option Signature
signature_by all (Some (types.Function t ps)) =
    Some (record { gives = scalar_of (bare all t); params = map (λ q. kind_or_int (scalar_of (bare all q))) ps })
signature_by all t = None

abbrev pub signature_of : Typed → ℕ → Option Signature
signature_of p t = signature_by p.types (bare p.types t)

abbrev pub signature_of_def : Typed → Option FunDef → Option Signature
signature_of_def p None = None
signature_of_def p (Some f) = signature_of p f.of

abbrev pub signature_of_function : Typed → ℕ → Option Signature
signature_of_function p f = signature_of_def p (slice_get p.funs f)

-- ---- one function, whose temps have these kinds

abbrev pub all_have : (ℕ → Kind → Bool) → List ℕ → List Kind → Bool
all_have has [] [] = true
all_have has [] (k ∷ ks) = false
all_have has (t ∷ ts) [] = false
all_have has (t ∷ ts) (k ∷ ks) = has t k && all_have has ts ks

abbrev pub all_of : {A : Type 0} → (A → Bool) → List A → Bool
all_of f [] = true
all_of f (x ∷ xs) = f x && all_of f xs

abbrev pub has_label : List TacInstr → ℕ → Bool
has_label [] l = false
has_label (i ∷ is) l = is_label i l || has_label is l

module _ (p : Typed) (d : FunDef) (kinds : List TacKind) (code : List TacInstr) where
  abbrev pub is_temp : ℕ → Bool
  is_temp t = nat_lt t (length kinds)

  abbrev pub has : ℕ → Kind → Bool
  has t k = is_temp t && same_kind (kind_at kinds t) k

  abbrev pub has_int : ℕ → Bool
  has_int t = is_temp t && is_int (kind_at kinds t)

  abbrev pub has_capability : ℕ → Bool
  has_capability t = is_temp t && is_capability (kind_at kinds t)

  abbrev pub amount_fits : Amount → Bool
  amount_fits (amount.Temp t) = has_int t
  amount_fits (amount.Number n) = true

  -- a result is named only where there is one
  abbrev pub result_fits : Option ℕ → Option Kind → Bool
  result_fits None k = true
  result_fits (Some t) None = false
  result_fits (Some t) (Some k) = has t k

  abbrev pub second_is : Option ℕ → Kind → Bool
  second_is None k = false
  second_is (Some t) k = has t k

  abbrev pub second_is_capability : Option ℕ → Bool
  second_is_capability None = false
  second_is_capability (Some t) = has_capability t

  -- an address has either 64-bit kind
  abbrev pub second_is_address : Option ℕ → Bool
  second_is_address b = second_is b word || second_is b (Plain int.I64)

  abbrev pub no_second : Option ℕ → Bool
  no_second None = true
  no_second (Some t) = false

  -- an intrinsic: the kinds of its result and of its operands
  abbrev pub work_fits : CapWork → (to a : ℕ) → Option ℕ → Bool
  work_fits cap.Base to a b = has to word && has_capability a && no_second b
  work_fits cap.Offset to a b = has to word && has_capability a && no_second b
  work_fits cap.Length to a b = has to word && has_capability a && no_second b
  work_fits cap.Tag to a b = has to (Plain int.Bool) && has_capability a && no_second b
  work_fits cap.Perms to a b = has to word && has_capability a && no_second b
  work_fits cap.Clear to a b = has to (kind_at kinds a) && has_capability a && no_second b
  work_fits cap.SetAddress to a b = has to (kind_at kinds a) && has_capability a && second_is_address b
  work_fits cap.AndPerms to a b = has to (kind_at kinds a) && has_capability a && second_is b word
  work_fits cap.EqualExact to a b = has to (Plain int.Bool) && has_capability a && second_is_capability b
  work_fits cap.Rounded to a b = has to word && has a word && no_second b
  work_fits cap.Mask to a b = has to word && has a word && no_second b

  abbrev pub service_fits : LibOp → Option ℕ → List ℕ → Bool
  service_fits lib.PutChar to args = all_have has args (int_result ∷ []) && result_fits to (Some int_result)
  service_fits lib.GetChar to args = all_have has args [] && result_fits to (Some int_result)
  service_fits lib.Malloc to args = all_have has args (word ∷ []) && result_fits to (Some pointer)
  service_fits lib.Exit to args = all_have has args (int_result ∷ []) && result_fits to None

  abbrev pub call_fits : Option Signature → Option ℕ → List ℕ → Bool
  call_fits None to args = false
  call_fits (Some s) to args = all_have has args s.params && result_fits to s.gives

  -- a Return has a value exactly where its function gives one
  abbrev pub return_by : Option Kind → Option ℕ → Bool
  return_by None None = true
  return_by None (Some t) = false
  return_by (Some k) None = false
  return_by (Some k) (Some t) = has t k

  abbrev pub return_fits : Option Signature → Option ℕ → Bool
  return_fits None v = false
  return_fits (Some s) v = return_by s.gives v

  abbrev pub is_local : ℕ → Bool
  is_local v = nat_lt v (length (lengths_of p d.vars))

  -- each temp, label, function, global, literal and local that it names is there, the kinds agree, constants are kept
  -- and copies are whole units
  abbrev pub instruction_fits : TacInstr → Bool
  instruction_fits (instr.Const to k v) = has to (kind_of k) && constant_fits k v
  instruction_fits (instr.Copy to from) = has to (kind_at kinds from) && is_temp from
  instruction_fits (instr.Int op k to a b) =
      has to (Plain k) && has a (Plain k) && (if is_shift op then has_int b else has b (Plain k))
  instruction_fits (instr.Cmp op k to a b) = has to int_result && has a (kind_of k) && has b (kind_of k)
  instruction_fits (instr.Convert to from old new) = has to (kind_of new) && has from (kind_of old)
  instruction_fits (instr.Cap op to a b) = work_fits op to a b
  instruction_fits (instr.Offset to base by) = has to (kind_at kinds base) && has_capability base && amount_fits by
  instruction_fits (instr.Narrow to base length exact) =
      has to (kind_at kinds base) && has_capability base && amount_fits length
  instruction_fits (instr.Load to from k place) = has to (kind_of k) && has_capability from
  instruction_fits (instr.Store at v k place) = has_capability at && has v (kind_of k)
  instruction_fits (instr.Local to var) = has to pointer && is_local var
  instruction_fits (instr.Global to number literal) =
      has to pointer && nat_lt number (if literal then length p.literals else length p.globals)
  instruction_fits (instr.Function to fun) = has to pointer && nat_lt fun (length p.funs)
  instruction_fits (instr.Zero var) = is_local var
  instruction_fits (instr.CopyUnits from to bytes unit from_pos to_pos) =
      has_capability from && has_capability to && units_fit bytes unit
  instruction_fits (instr.Label l) = true
  instruction_fits (instr.Jump l) = has_label code l
  instruction_fits (instr.Branch on when l) = is_temp on && has_label code l
  instruction_fits (instr.Call to fun args) = call_fits (signature_of_function p fun) to args
  instruction_fits (instr.CallValue to v of args place) = has_capability v && call_fits (signature_of p of) to args
  instruction_fits (instr.Lib op to args) = service_fits op to args
  instruction_fits instr.Turn = true
  instruction_fits (instr.Return v) = return_fits (signature_of p d.of) v

-- ---- labels, turns and the end of the code

-- each label stands once
abbrev pub label_is_new : TacInstr → List TacInstr → Bool
label_is_new (instr.Label l) is = not (has_label is l)
label_is_new i is = true

abbrev pub labels_differ : List TacInstr → Bool
labels_differ [] = true
labels_differ (i ∷ is) = label_is_new i is && labels_differ is

-- the last instruction is a Return or a Jump
abbrev pub ends_there : TacInstr → Bool
ends_there (instr.Return v) = true
ends_there (instr.Jump l) = true
ends_there i = false

abbrev pub ends_well : List TacInstr → Bool
ends_well [] = false
ends_well (i ∷ []) = ends_there i
ends_well (i ∷ j ∷ is) = ends_well (j ∷ is)

abbrev pub is_turn : TacInstr → Bool
is_turn instr.Turn = true
is_turn i = false

-- a Turn stands directly before a jump or branch to a label that isn't later, and before nothing else
abbrev pub turn_fits : (turned : Bool) → TacInstr → List TacInstr → Bool
turn_fits turned (instr.Jump l) later = same_bool turned (not (has_label later l))
turn_fits turned (instr.Branch on when l) later = same_bool turned (not (has_label later l))
turn_fits turned i later = not turned

abbrev pub turns_fit : (turned : Bool) → List TacInstr → Bool
turns_fit turned [] = not turned
turns_fit turned (i ∷ is) = turn_fits turned i is && turns_fit (is_turn i) is

-- ---- functions and programs

abbrev pub type_of_param : Option VarDef → ℕ
type_of_param None = 0
type_of_param (Some v) = v.of

-- the kinds of the parameters
abbrev pub param_kinds : Typed → FunDef → List Kind
param_kinds p d = map (λ x. kind_or_int (scalar_of (bare p.types (type_of_param (slice_get d.vars x))))) d.params

-- the first temps have these kinds
abbrev pub begins_with : List TacKind → List Kind → Bool
begins_with kinds [] = true
begins_with [] (k ∷ ks) = false
begins_with (j ∷ js) (k ∷ ks) = same_kind (kind_of j) k && begins_with js ks

abbrev pub function_fits : Typed → FunDef → TacFun → Bool
function_fits p d f =
    f.params == length d.params && nat_le f.params f.temps && length f.kinds == f.temps
    && begins_with f.kinds (param_kinds p d)
    && all_of (instruction_fits p d f.kinds f.code) f.code && labels_differ f.code && ends_well f.code
    && turns_fit false f.code

-- the program's functions in their order
abbrev pub functions_fit : Typed → List FunDef → List TacFun → Bool
functions_fit p [] [] = true
functions_fit p [] (f ∷ fs) = false
functions_fit p (d ∷ ds) [] = false
functions_fit p (d ∷ ds) (f ∷ fs) = function_fits p d f && functions_fit p ds fs

unfoldable pub is_well_formed : Tac → Typed → Bool
is_well_formed t p = functions_fit p p.funs t.funs
