-- What expressions write, by what their operands do.
use Rattle.std.specs.Prelude.{ℕ, ◌==◌, List, [], ◌∷◌, Option, Some, None, if◌then◌else◌, slice_get}
use Rattle.c_tree.specs.declared.typed.Expr.{Expr}
use Rattle.c_tree.specs.declared.typed.ExprKind.{ExprKind}
use Rattle.c_tree.specs.declared.typed.ExprKind.TheVariants as exprs
use Rattle.c_tree.specs.declared.typed.Typed.{Typed}
use Rattle.tac_lower.specs.declared.writes.Written.{Written}
use Rattle.tac_lower.specs.declared.writes.Written.TheVariants.{Nothing, One, Any}

abbrev pub both : Written → Written → Written
both Nothing w = w
both Any w = Any
both (One x) Nothing = One x
both (One x) Any = Any
both (One x) (One y) = if x == y then One x else Any

-- that of some, behind what is written so far
abbrev pub written_on : (ℕ → Written) → Written → List ℕ → Written
written_on at w [] = w
written_on at w (k ∷ ks) = written_on at (both w (at k)) ks

-- the variable of a place, if it is one; a conversion may leave a place as it is
abbrev pub kind_target : ExprKind → Written
kind_target (exprs.Var x) = One x
kind_target (exprs.Convert a) = Any
kind_target of = Nothing

abbrev pub target_by : Option Expr → Written
target_by None = Any
target_by (Some e) = kind_target e.kind

abbrev pub target_in : Typed → ℕ → Written
target_in p a = target_by (slice_get p.exprs a)

abbrev pub writes_by : (at target : ℕ → Written) → ExprKind → Written
writes_by at target (exprs.Load a) = at a
writes_by at target (exprs.Decay a) = at a
writes_by at target (exprs.Deref a) = at a
writes_by at target (exprs.Member a m) = at a
writes_by at target (exprs.Address a) = at a
writes_by at target (exprs.Convert a) = at a
writes_by at target (exprs.Unary op a) = at a
writes_by at target (exprs.Int op a b) = both (at a) (at b)
writes_by at target (exprs.Capability op a b right) = both (at a) (at b)
writes_by at target (exprs.Plus a b minus) = both (at a) (at b)
writes_by at target (exprs.Difference a b) = both (at a) (at b)
writes_by at target (exprs.Compare op a b) = both (at a) (at b)
writes_by at target (exprs.And a b) = both (at a) (at b)
writes_by at target (exprs.Or a b) = both (at a) (at b)
writes_by at target (exprs.Comma a b) = both (at a) (at b)
writes_by at target (exprs.Conditional c a b) = both (both (at c) (at a)) (at b)
writes_by at target (exprs.Assign a b) = both (both (target a) (at a)) (at b)
writes_by at target (exprs.Compound op a b of) = both (both (target a) (at a)) (at b)
writes_by at target (exprs.Step a adds front) = both (target a) (at a)
writes_by at target (exprs.Call f args) = both (at f) (written_on at Nothing args)
writes_by at target (exprs.Library n args) = written_on at Nothing args
writes_by at target of = Nothing
