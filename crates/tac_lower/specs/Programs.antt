-- Whose code the lowering of functions and of a program makes: where a function's variables stand, how its arguments
-- are taken, and how it ends; and what a program has to be.
use Rattle.std.specs.Prelude.{◌≡◌, ℕ, ◌+◌, ◌<◌, ◌≤◌, ◌⊎◌, ◌++◌, true, false, List, [], ◌∷◌, length, map, nat_lt, Option}
use Rattle.std.specs.Prelude.{Some, slice_get, if◌then◌else◌}
use Rattle.ck_base.specs.declared.positions.Pos.{Pos}
use Rattle.ck_int.specs.declared.kinds.IntKind.TheVariants as int
use Rattle.c_tree.specs.Types.{Ty}
use Rattle.c_tree.specs.WellTyped.{type_in, outside}
use Rattle.c_tree.specs.declared.typed.ExprKind.{ExprKind}
use Rattle.c_tree.specs.declared.typed.ExprKind.TheVariants as exprs
use Rattle.c_tree.specs.declared.typed.FunDef.{FunDef}
use Rattle.c_tree.specs.declared.typed.Typed.{Typed}
use Rattle.c_tree.specs.declared.typed.VarDef.{VarDef}
use Rattle.cheri_c_sem.specs.Programs.{stmt_tree}
use Rattle.cheri_c_sem.specs.Types.{is_simple, objects_before}
use Rattle.tac_ir.specs.declared.code.TacInstr.TheVariants as instr
use Rattle.tac_ir.specs.declared.code.TacKind.{TacKind}
use Rattle.tac_ir.specs.declared.code.TacKind.TheVariants as kinds
use Rattle.tac_lower.specs.declared.context.Home.{Home}
use Rattle.tac_lower.specs.declared.context.Home.TheVariants as home
use Rattle.tac_emit.specs.declared.emitter.Emitter.{Emitter}
use Rattle.cheri_c_sem.specs.Expressions.{expr_tree}
use Rattle.c_tree.specs.declared.typed.StmtKind.TheVariants as stmts
use Rattle.lower_runs.specs.Expressions.{Signature, position_in}
use Rattle.lower_runs.specs.Fitting.{CallsFit}
use Rattle.lower_runs.specs.Functions.{end_code, HasEndTemp}
use Rattle.lower_runs.specs.Operating.{Code}
use Rattle.lower_runs.specs.Shortened.{IsShort}
use Rattle.lower_runs.specs.States.{Scene}
use Rattle.lower_runs.specs.Trees.{HasSpot}
use Rattle.tac_lower.specs.Nodes.{kept_as, or_int, frame, IsTyped}
use Rattle.tac_lower.specs.Signed.{kept_parameter}
use Rattle.tac_lower.specs.Stating.{Routine, Does, IsStmt, IsWhole}
use Rattle.tac_lower.specs.Tables.{IsSmall, type_at}
use Rattle.tac_lower.specs.Trees.{pos_in, signature_by, signatures, handed_on, HasRecord, IsNode, IsTagged}
use Rattle.tac_lower.specs.Trees.{Takes, TypesFit}
use Rattle.tac_lower.specs.Trees.{AreScalars}

-- ---- the homes of variables

abbrev pub temp_of : Home → ℕ
temp_of (home.Temp t k) = t
temp_of (home.Object n t) = t

-- The home of variable i, where number n is the next object's and number top the next temp's: a parameter that is no
-- object has the temp of its number
abbrev pub IsNext : (params i n top : ℕ) → VarDef → Home → Type 0
IsNext params i n top v (home.Temp t k) = (v.simple ≡ true) × (t ≡ (if nat_lt i params then i else top))
IsNext params i n top v (home.Object m t) = (v.simple ≡ false) × (m ≡ n) × (t ≡ top)

-- the temps of parameters are the first ones
abbrev pub IsPlaced : (params x : ℕ) → Home → Type 0
IsPlaced params x (home.Temp t k) = ((x < params) × (t ≡ x)) ⊎ ((params ≤ x) × (params ≤ t))
IsPlaced params x (home.Object n t) = params ≤ t

-- the first variables of a function have homes of their own, in temps below a number
pub record AreHomes (p : Typed) (d : FunDef) (homes : List Home) (top : ℕ) : Type 0 where
  pub value : (x t : ℕ) (k : TacKind) → slice_get homes x ≡ Some (home.Temp t k) →
      (is_simple (slice_get d.vars x) ≡ true) ×
      ((v : VarDef) → slice_get d.vars x ≡ Some v → or_int (kept_as (type_in p v.of)) ≡ k)
  pub object : (x n t : ℕ) → slice_get homes x ≡ Some (home.Object n t) →
      (is_simple (slice_get d.vars x) ≡ false) × (objects_before d.vars x ≡ n)
  pub below : (x : ℕ) (h : Home) → slice_get homes x ≡ Some h → temp_of h < top
  pub placed : (x : ℕ) (h : Home) → slice_get homes x ≡ Some h → IsPlaced (length d.params) x h
  pub differ : (x y : ℕ) (h i : Home) → slice_get homes x ≡ Some h → slice_get homes y ≡ Some i →
      temp_of h ≡ temp_of i → x ≡ y

-- ---- the arguments

-- the argument in temp i comes into a parameter
abbrev pub taken_code : Option Home → (i : ℕ) → TacKind → Pos → Code
taken_code (Some (home.Object n at)) i k q rest =
    instr.Zero n ∷ instr.Local at n ∷ instr.Store at i k q ∷ rest
taken_code h i k q rest = rest

-- those from temp i on come into parameters
abbrev pub taking : List Home → (ℕ → TacKind) → Pos → List ℕ → (i : ℕ) → Code
taking homes kind q [] i rest = rest
taking homes kind q (x ∷ xs) i rest =
    taken_code (slice_get homes x) i (kind x) q (taking homes kind q xs (i + 1) rest)

-- ---- the end

-- how a function's value is kept, if it gives one
abbrev pub gives_in : Typed → FunDef → Option TacKind
gives_in p d = let s : Signature = signature_by (type_in p d.of) in s.gives

-- code ends as that of a function which gives this does, but for what stands behind a return
pub record EndsWith (gives : Option TacKind) (old new : Emitter) : Type 0 where
  pub at : ℕ
  pub room : HasEndTemp gives at (length new.kinds.items)
  pub short : IsShort new.code.items (old.code.items ++ end_code gives at)

-- ---- what a program has to be

-- the parameters of a function that are objects have been entered
abbrev pub HasParameters : FunDef → Scene → Type 0
HasParameters d g = (x : ℕ) → x < length d.params → is_simple (slice_get d.vars x) ≡ false →
    HasSpot (g.spot (objects_before d.vars x))

-- Of function n of a program: the nodes of its expressions are no larger than an object may be; what takes the place of
-- a scalar has its position; no struct or union, and nothing that stands for a place further on, is a variable without
-- an object; its body is made of values and places, whose objects have been entered; `main` gives an `int`; and its
-- parameters are kept as its type says
pub record Stands (p : Typed) (n : ℕ) (d : FunDef) : Type 0 where
  pub small : (t : Ty) (k : ℕ) → IsTyped (frame p d t) k → IsSmall p.types (type_at p k)
  pub placed : (k a : ℕ) → Takes p k a → position_in (expr_tree p d.vars a) ≡ Some (pos_in p a)
  pub located : (t : Ty) (k x : ℕ) → IsTyped (frame p d t) k → HasRecord p k → IsNode p k (exprs.Var x) →
      is_simple (slice_get d.vars x) ≡ false
  pub handed : (t : Ty) (k a j x : ℕ) (of : ExprKind) → IsTyped (frame p d t) a → IsNode p k of →
      slice_get (handed_on of) j ≡ Some a → IsNode p a (exprs.Var x) → is_simple (slice_get d.vars x) ≡ false
  pub does : (r : Routine) → r.setting.vars ≡ d.vars → r.params ≡ length d.params → (g : Scene) →
      HasParameters d g → Does r outside g (stmt_tree p d.vars d.body)
  pub main : n ≡ p.main → gives_in p d ≡ Some (kinds.Int int.I32)
  pub takes : (let g : Signature = signatures p n in g.takes) ≡ map (kept_parameter p d) d.params

-- Of a program: calls and types fit, arguments are scalars, what variables begin with is whole, and its functions stand
pub record Standing (p : Typed) : Type 0 where
  pub calls : CallsFit p
  pub types : TypesFit p
  pub records : (k : ℕ) → IsTagged p k → HasRecord p k
  pub passed : (k f : ℕ) (args : List ℕ) → IsNode p k (exprs.Call f args) → AreScalars p args
  pub initial : (k x offset a : ℕ) → IsStmt p k (stmts.Init x offset a) → IsWhole p a
  pub functions : (n : ℕ) (d : FunDef) → slice_get p.funs n ≡ Some d → Stands p n d
