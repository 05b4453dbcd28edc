-- Typed programs in whose lists operands and parts of a statement stand before the node that has them.
use Rattle.std.specs.Prelude.{◌≡◌, ℕ, ◌<◌, Option, Some, None, slice_get}
use Rattle.std.specs.List.{AllByRecursion}
use Rattle.c_tree.specs.declared.typed.Expr.{Expr}
use Rattle.c_tree.specs.declared.typed.ExprKind.{ExprKind}
use Rattle.c_tree.specs.declared.typed.ExprKind.TheVariants as exprs
use Rattle.c_tree.specs.declared.typed.Stmt.{Stmt}
use Rattle.c_tree.specs.declared.typed.StmtKind.{StmtKind}
use Rattle.c_tree.specs.declared.typed.StmtKind.TheVariants as stmts
use Rattle.c_tree.specs.declared.typed.Typed.{Typed}

-- the operands of an expression have smaller numbers
abbrev pub IsAfterOperands : ℕ → ExprKind → Type 0
IsAfterOperands k (exprs.Load a) = a < k
IsAfterOperands k (exprs.Decay a) = a < k
IsAfterOperands k (exprs.Deref a) = a < k
IsAfterOperands k (exprs.Member a m) = a < k
IsAfterOperands k (exprs.Address a) = a < k
IsAfterOperands k (exprs.Convert a) = a < k
IsAfterOperands k (exprs.Unary op a) = a < k
IsAfterOperands k (exprs.Int op a b) = (a < k) × (b < k)
IsAfterOperands k (exprs.Capability op a b right) = (a < k) × (b < k)
IsAfterOperands k (exprs.Plus a b minus) = (a < k) × (b < k)
IsAfterOperands k (exprs.Difference a b) = (a < k) × (b < k)
IsAfterOperands k (exprs.Compare op a b) = (a < k) × (b < k)
IsAfterOperands k (exprs.And a b) = (a < k) × (b < k)
IsAfterOperands k (exprs.Or a b) = (a < k) × (b < k)
IsAfterOperands k (exprs.Conditional c a b) = (c < k) × (a < k) × (b < k)
IsAfterOperands k (exprs.Comma a b) = (a < k) × (b < k)
IsAfterOperands k (exprs.Assign a b) = (a < k) × (b < k)
IsAfterOperands k (exprs.Compound op a b t) = (a < k) × (b < k)
IsAfterOperands k (exprs.Step a adds front) = a < k
IsAfterOperands k (exprs.Call f args) = (f < k) × AllByRecursion (λ c. c < k) args
IsAfterOperands k (exprs.Library n args) = AllByRecursion (λ c. c < k) args
IsAfterOperands k (exprs.Constant n) = Unit {0}
IsAfterOperands k (exprs.Literal n) = Unit {0}
IsAfterOperands k (exprs.Var x) = Unit {0}
IsAfterOperands k (exprs.Global g) = Unit {0}
IsAfterOperands k (exprs.Fun f) = Unit {0}

abbrev pub IsBefore : ℕ → Option ℕ → Type 0
IsBefore k None = Unit {0}
IsBefore k (Some c) = c < k

-- the statements in a statement have smaller numbers
abbrev pub IsAfterParts : ℕ → StmtKind → Type 0
IsAfterParts k (stmts.Block xs ks) = AllByRecursion (λ c. c < k) ks
IsAfterParts k (stmts.If c a b) = (a < k) × IsBefore k b
IsAfterParts k (stmts.While c a) = a < k
IsAfterParts k (stmts.Do a c) = a < k
IsAfterParts k (stmts.For xs first test step a) = AllByRecursion (λ c. c < k) first × (a < k)
IsAfterParts k (stmts.Switch on xs labels ks) = AllByRecursion (λ c. c < k) ks
IsAfterParts k (stmts.Expr a) = Unit {0}
IsAfterParts k (stmts.Init x offset a) = Unit {0}
IsAfterParts k stmts.Break = Unit {0}
IsAfterParts k stmts.Continue = Unit {0}
IsAfterParts k (stmts.Return a) = Unit {0}
IsAfterParts k stmts.Empty = Unit {0}

pub record Ordered (p : Typed) : Type 0 where
  pub exprs : (k : ℕ) (e : Expr) → slice_get p.exprs k ≡ Some e → IsAfterOperands k e.kind
  pub stmts : (k : ℕ) (s : Stmt) → slice_get p.stmts k ≡ Some s → IsAfterParts k s.kind
