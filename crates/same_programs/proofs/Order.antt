-- The nodes that a node names stand before it.
use Rattle.std.proofs.Common.{◌≡◌, ℕ, suc, ◌<◌, List, [], ◌∷◌, ◌++◌, Some, None, refl}
use Rattle.std.specs.Prelude.{slice_get}
use Rattle.std.specs.List.{AllByRecursion}
use Rattle.c_tree.specs.declared.typed.ExprKind.{ExprKind}
use Rattle.c_tree.specs.declared.typed.ExprKind.TheVariants as exprs
use Rattle.c_tree.specs.declared.typed.StmtKind.{StmtKind}
use Rattle.c_tree.specs.declared.typed.StmtKind.TheVariants as stmts
use Rattle.c_tree.specs.declared.typed.Typed.{Typed}
use Rattle.c_tree.specs.Views.{operands, parts, IsOrdered}
use Rattle.cheri_c_sem.specs.Order.{IsAfterOperands, IsAfterParts, Ordered}

all_from : (P : ℕ → Type 0) (xs : List ℕ) → ((j a : ℕ) → slice_get xs j ≡ Some a → P a) → AllByRecursion P xs
all_from P [] h = tt
all_from P (x ∷ xs) h = (h 0 x refl, all_from P xs (λ j a e. h (suc j) a e))

front_and_last : (P : ℕ → Type 0) (xs : List ℕ) (y : ℕ) → ((j a : ℕ) → slice_get (xs ++ y ∷ []) j ≡ Some a → P a) →
    AllByRecursion P xs × P y
front_and_last P [] y h = (tt, h 0 y refl)
front_and_last P (x ∷ xs) y h = let r = front_and_last P xs y (λ j a e. h (suc j) a e) in ((h 0 x refl, r.0), r.1)

after_operands : (k : ℕ) (kind : ExprKind) → ((j a : ℕ) → slice_get (operands kind) j ≡ Some a → a < k) →
    IsAfterOperands k kind
after_operands k (exprs.Load a) h = h 0 a refl
after_operands k (exprs.Decay a) h = h 0 a refl
after_operands k (exprs.Deref a) h = h 0 a refl
after_operands k (exprs.Member a m) h = h 0 a refl
after_operands k (exprs.Address a) h = h 0 a refl
after_operands k (exprs.Convert a) h = h 0 a refl
after_operands k (exprs.Unary op a) h = h 0 a refl
after_operands k (exprs.Int op a b) h = (h 0 a refl, h 1 b refl)
after_operands k (exprs.Capability op a b right) h = (h 0 a refl, h 1 b refl)
after_operands k (exprs.Plus a b minus) h = (h 0 a refl, h 1 b refl)
after_operands k (exprs.Difference a b) h = (h 0 a refl, h 1 b refl)
after_operands k (exprs.Compare op a b) h = (h 0 a refl, h 1 b refl)
after_operands k (exprs.And a b) h = (h 0 a refl, h 1 b refl)
after_operands k (exprs.Or a b) h = (h 0 a refl, h 1 b refl)
after_operands k (exprs.Conditional c a b) h = (h 0 c refl, h 1 a refl, h 2 b refl)
after_operands k (exprs.Comma a b) h = (h 0 a refl, h 1 b refl)
after_operands k (exprs.Assign a b) h = (h 0 a refl, h 1 b refl)
after_operands k (exprs.Compound op a b t) h = (h 0 a refl, h 1 b refl)
after_operands k (exprs.Step a adds front) h = h 0 a refl
after_operands k (exprs.Call f args) h = (h 0 f refl, all_from (λ c. c < k) args (λ j a e. h (suc j) a e))
after_operands k (exprs.Library n args) h = all_from (λ c. c < k) args h
after_operands k (exprs.Constant n) h = tt
after_operands k (exprs.Literal n) h = tt
after_operands k (exprs.Var x) h = tt
after_operands k (exprs.Global g) h = tt
after_operands k (exprs.Fun f) h = tt

after_parts : (k : ℕ) (kind : StmtKind) → ((j a : ℕ) → slice_get (parts kind) j ≡ Some a → a < k) → IsAfterParts k kind
after_parts k (stmts.Block xs ks) h = all_from (λ c. c < k) ks h
after_parts k (stmts.If c a None) h = (h 0 a refl, tt)
after_parts k (stmts.If c a (Some b)) h = (h 0 a refl, h 1 b refl)
after_parts k (stmts.While c a) h = h 0 a refl
after_parts k (stmts.Do a c) h = h 0 a refl
after_parts k (stmts.For xs first test step a) h = front_and_last (λ c. c < k) first a h
after_parts k (stmts.Switch on xs labels ks) h = all_from (λ c. c < k) ks h
after_parts k (stmts.Expr a) h = tt
after_parts k (stmts.Init x offset a) h = tt
after_parts k stmts.Break h = tt
after_parts k stmts.Continue h = tt
after_parts k (stmts.Return a) h = tt
after_parts k stmts.Empty h = tt

pub ordered_of : (p : Typed) → IsOrdered p → Ordered p
ordered_of p o = record {
  exprs = λ k e h. after_operands k e.kind (λ j a g. o.operands_before k j a e h g);
  stmts = λ k s h. after_parts k s.kind (λ j a g. o.parts_before k j a s h g);
}
