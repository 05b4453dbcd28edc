-- The operation that an expression is, by its types.
use Rattle.std.specs.Prelude.{◌≡◌, ℕ, not, Bool, true, false, List, Option, Some, None, if◌then◌else◌}
use Rattle.c_tree.specs.declared.typed.CType.{CType}
use Rattle.c_tree.specs.declared.typed.CType.TheVariants as types
use Rattle.c_tree.specs.declared.typed.Expr.{Expr}
use Rattle.c_tree.specs.declared.typed.ExprKind.{ExprKind}
use Rattle.c_tree.specs.declared.typed.ExprKind.TheVariants as exprs
use Rattle.c_tree.specs.declared.typed.Typed.{Typed}
use Rattle.c_tree.specs.declared.typed.VarDef.{VarDef}
use Rattle.ck_int.specs.declared.kinds.IntKind.TheVariants as int
use Rattle.ck_int.specs.declared.kinds.IntOp.{IntOp}
use Rattle.cheri_c_sem.specs.Tree as tree
use Rattle.cheri_c_sem.specs.Tree.{Ex, Binary}
use Rattle.cheri_c_sem.specs.Expressions.{bare_type, expr_tree, from_plain, kind_at, kind_tree}
use Rattle.cheri_c_sem.specs.Kinds.{Kind, Plain, Capability}
use Rattle.cheri_c_sem.specs.Types.{adds_or_takes, derived, is_plain, promoted, size_in, takes_away}
use Rattle.mean_operations.specs.Views.{operation_of}
use Rattle.mean_operations.specs.declared.arithmetic.Operation.{Operation}

abbrev pub is_capability_integer : Option CType → Bool
is_capability_integer (Some (types.Cap signed)) = true
is_capability_integer t = false

-- the operand of a conversion
abbrev pub converts : ExprKind → Option ℕ
converts (exprs.Convert a) = Some a
converts e = None

abbrev pub operand_of : Option Expr → Option ℕ
operand_of None = None
operand_of (Some e) = converts e.kind

-- the expressions that are binary operations with a result of the kind of their computation
abbrev pub is_binary : ExprKind → Bool
is_binary (exprs.Int op a b) = true
is_binary (exprs.Capability op a b right) = true
is_binary (exprs.Plus a b minus) = true
is_binary (exprs.Difference a b) = true
is_binary e = false

abbrev pub IsBinaryBy : Typed → List VarDef → Expr → Option Operation → Type 0
IsBinaryBy p vars e None = is_binary e.kind ≡ false
IsBinaryBy p vars e (Some o) =
    (x : Ex) × (y : Ex) × (kind_tree p vars (expr_tree p vars) e.of e.pos e.kind ≡ Binary e.pos (operation_of o) x y)

-- the operation of a compound assignment, by whether it is computed in a pointer's type, to what, and in which kind
abbrev pub compound_in : Typed → List VarDef → IntOp → (pointer : Bool) → (target : ℕ) → Kind → (a b : ℕ) → Ex →
    tree.Operation
compound_in p vars op true target k a b y = tree.Moved (size_in p.types target) (takes_away op) false (kind_at p vars b)
compound_in p vars op false target (Capability signed) a b y =
    derived op signed (kind_at p vars b) (is_plain (bare_type p vars a))
    (if is_plain (bare_type p vars b) then true else from_plain y)
compound_in p vars op false target (Plain k) a b y = tree.Whole op k (kind_at p vars b)

-- and that of a step
abbrev pub step_in : Typed → (adds pointer : Bool) → (target : ℕ) → Kind → tree.Operation
step_in p adds true target k = tree.Moved (size_in p.types target) (not adds) false (Plain int.I32)
step_in p adds false target (Capability signed) =
    tree.Derived (adds_or_takes adds) signed (Plain int.I32) false true
step_in p adds false target (Plain k) = tree.Whole (adds_or_takes adds) (promoted k) (Plain int.I32)
