-- What expressions and statements are with other numbers.
use Rattle.std.specs.Prelude.{◌≡◌, ℕ, ◌<◌, List, ◌++◌, length, map, Option, Some, None, slice_get, slice_index_or}
use Rattle.c_tree.specs.declared.typed.Expr.{Expr}
use Rattle.c_tree.specs.declared.typed.ExprKind.{ExprKind}
use Rattle.c_tree.specs.declared.typed.ExprKind.TheVariants as exprs
use Rattle.c_tree.specs.declared.typed.Stmt.{Stmt}
use Rattle.c_tree.specs.declared.typed.StmtKind.{StmtKind}
use Rattle.c_tree.specs.declared.typed.StmtKind.TheVariants as stmts
use Rattle.c_tree.specs.declared.typed.Target.{Target}
use Rattle.c_tree.specs.Types.{Ty}
use Rattle.c_tree.specs.Terms as tree
use Rattle.c_tree.specs.Terms.{Form, Term, Action}
use Rattle.c_tree.specs.Views.{forest, expr_from, no_term, stmt_from, no_action, values, parts, is_some, listed}
use Rattle.c_tree.specs.Views.{same_number, label_of, aim_of}
use Rattle.c_tree.specs.Programs.{aim_with}
use Rattle.c_tree.specs.Programs as programs
pub use Rattle.c_node_facts.specs.Operands.{expr_shape, IsPlainWith}
use Rattle.c_copy.specs.declared.numbers.Numbers.{Numbers}

-- ---- numbers

-- the lists have the new numbers, and any number behind them has the next one
pub record AreNumbers (t : Numbers) (n : programs.Numbers) : Type 0 where
  pub objects : (k : ℕ) → n.0 k ≡ slice_index_or t.objects.items k t.object_count
  pub functions : (k : ℕ) → n.1 k ≡ slice_index_or t.functions.items k t.function_count

abbrev pub AllBelow : ℕ → List ℕ → Type 0
AllBelow k xs = (j a : ℕ) → slice_get xs j ≡ Some a → a < k

abbrev pub IsTargetWith : Numbers → Target → Target → Type 0
IsTargetWith t old new = (n : programs.Numbers) → AreNumbers t n → aim_of new ≡ aim_with n (aim_of old)

-- ---- expressions by the new numbers

abbrev pub kind_with : programs.Numbers → ExprKind → ExprKind
kind_with n (exprs.Global k) = exprs.Global (n.0 k)
kind_with n (exprs.Fun k) = exprs.Fun (n.1 k)
kind_with n k = k

abbrev pub expr_with : programs.Numbers → Expr → Expr
expr_with n e = record e { kind = kind_with n e.kind }

-- none, where it names no object and no function
abbrev pub IsKindWith : Numbers → ExprKind → Option ExprKind → Type 0
IsKindWith t old None = (n : programs.Numbers) → kind_with n old ≡ old
IsKindWith t old (Some new) = (n : programs.Numbers) → AreNumbers t n → kind_with n old ≡ new

abbrev pub IsRenumbered : Numbers → Expr → Expr → Type 0
IsRenumbered t old new = (n : programs.Numbers) → AreNumbers t n → new ≡ expr_with n old

abbrev pub AreRenumbered : Numbers → List Expr → List Expr → Type 0
AreRenumbered t old new = (n : programs.Numbers) → AreNumbers t n → new ≡ map (expr_with n) old

-- ---- what a statement is beside what it names

abbrev pub stmt_form : StmtKind → Form
stmt_form (stmts.Expr a) = tree.Evaluate
stmt_form (stmts.Init var offset a) = tree.Init var offset
stmt_form (stmts.Block vars body) = tree.Block vars
stmt_form (stmts.If a x y) = tree.If
stmt_form (stmts.While a x) = tree.While
stmt_form (stmts.Do x a) = tree.Do
stmt_form (stmts.For vars first a b x) = tree.For vars (length first) (is_some a) (is_some b)
stmt_form (stmts.Switch a vars labels body) = tree.Switch vars (map label_of labels)
stmt_form stmts.Break = tree.Break
stmt_form stmts.Continue = tree.Continue
stmt_form (stmts.Return a) = tree.Return
stmt_form stmts.Empty = tree.Empty

-- the same statement with these expressions and statements
pub record IsStmtWith (old : StmtKind) (xs ys : List ℕ) (new : StmtKind) : Type 0 where
  pub values : values new ≡ xs
  pub parts : parts new ≡ ys
  pub form : stmt_form new ≡ stmt_form old

-- two numbers, each there where another one is, and that they are these
pub record AreMaybes (a b : Option ℕ) (xs : List ℕ) (new : Option ℕ × Option ℕ) : Type 0 where
  pub are : xs ≡ listed same_number new.0 ++ listed same_number new.1
  pub first : is_some new.0 ≡ is_some a
  pub second : is_some new.1 ≡ is_some b

-- ---- lists

abbrev pub terms_in : List Ty → List Expr → List Term
terms_in ts es = forest (expr_from ts) no_term es

abbrev pub actions_in : List Ty → List Expr → List Stmt → List Action
actions_in ts es ss = forest (stmt_from (terms_in ts es)) no_action ss

-- the second list goes on from the first
abbrev pub Extends : {A : Type 0} → List A → List A → Type 0
Extends xs ys = (more : List _) × (ys ≡ xs ++ more)
