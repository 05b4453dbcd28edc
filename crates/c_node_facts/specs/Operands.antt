-- What an expression with other operands is.
use Rattle.std.specs.Prelude.{◌≡◌, ℕ, Bool, true, false, List, ◌∷◌}
use Rattle.c_tree.specs.declared.typed.ExprKind.{ExprKind}
use Rattle.c_tree.specs.declared.typed.ExprKind.TheVariants as exprs
use Rattle.c_tree.specs.Types.{Ty}
use Rattle.c_tree.specs.Terms as tree
use Rattle.c_tree.specs.Terms.{Shape}
use Rattle.c_tree.specs.Views.{type_at, operands}
use Rattle.c_tree.specs.Programs.{shape_with}
use Rattle.c_tree.specs.Programs as programs

-- what an expression is beside its operands
abbrev pub expr_shape : List Ty → ExprKind → Shape
expr_shape ts (exprs.Constant n) = tree.Constant n
expr_shape ts (exprs.Literal k) = tree.Literal k
expr_shape ts (exprs.Var k) = tree.Var k
expr_shape ts (exprs.Global k) = tree.Global k
expr_shape ts (exprs.Fun k) = tree.Fun k
expr_shape ts (exprs.Load a) = tree.Load
expr_shape ts (exprs.Decay a) = tree.Decay
expr_shape ts (exprs.Deref a) = tree.Deref
expr_shape ts (exprs.Member a k) = tree.Member k
expr_shape ts (exprs.Address a) = tree.Address
expr_shape ts (exprs.Convert a) = tree.Convert
expr_shape ts (exprs.Unary o a) = tree.Unary o
expr_shape ts (exprs.Int o a b) = tree.Arithmetic o
expr_shape ts (exprs.Capability o a b r) = tree.Capability o r
expr_shape ts (exprs.Plus a b m) = tree.Plus m
expr_shape ts (exprs.Difference a b) = tree.Difference
expr_shape ts (exprs.Compare o a b) = tree.Compare o
expr_shape ts (exprs.And a b) = tree.And
expr_shape ts (exprs.Or a b) = tree.Or
expr_shape ts (exprs.Conditional a b c) = tree.Conditional
expr_shape ts (exprs.Comma a b) = tree.Comma
expr_shape ts (exprs.Assign a b) = tree.Assign
expr_shape ts (exprs.Compound o a b of) = tree.Compound o (type_at ts of)
expr_shape ts (exprs.Step a adds in_front) = tree.Step adds in_front
expr_shape ts (exprs.Call f xs) = tree.Call
expr_shape ts (exprs.Library k xs) = tree.Library k

-- it has one operand, and two, and is no call
abbrev pub is_step : ExprKind → Bool
is_step (exprs.Load a) = true
is_step (exprs.Decay a) = true
is_step (exprs.Deref a) = true
is_step (exprs.Member a k) = true
is_step (exprs.Address a) = true
is_step (exprs.Convert a) = true
is_step (exprs.Unary o a) = true
is_step (exprs.Step a adds in_front) = true
is_step k = false

abbrev pub is_join : ExprKind → Bool
is_join (exprs.Int o a b) = true
is_join (exprs.Capability o a b r) = true
is_join (exprs.Plus a b m) = true
is_join (exprs.Difference a b) = true
is_join (exprs.Compare o a b) = true
is_join (exprs.And a b) = true
is_join (exprs.Or a b) = true
is_join (exprs.Comma a b) = true
is_join (exprs.Assign a b) = true
is_join (exprs.Compound o a b of) = true
is_join k = false

-- it is none of those that never have operands
abbrev pub is_inner : ExprKind → Bool
is_inner (exprs.Constant n) = false
is_inner (exprs.Literal k) = false
is_inner (exprs.Var k) = false
is_inner (exprs.Global k) = false
is_inner (exprs.Fun k) = false
is_inner k = true

-- the same expression with these operands, of one that names no object or function
pub record IsPlainWith (old : ExprKind) (xs : List ℕ) (new : ExprKind) : Type 0 where
  pub operands : operands new ≡ xs
  pub shape : (n : programs.Numbers) (ts : List Ty) → expr_shape ts new ≡ shape_with n (expr_shape ts old)

abbrev pub IsCallOf : List ℕ → ExprKind → Type 0
IsCallOf xs k = (f : ℕ) × (ys : List ℕ) × (k ≡ exprs.Call f ys) × (xs ≡ f ∷ ys)
