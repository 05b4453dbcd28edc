-- Nodes by their numbers.
use Rattle.std.proofs.Common.{Bool, ◌≡◌, ℕ, length, ltb, List, Some, None, true, false, sym, ap, ◌∙◌}
use Rattle.std.specs.Prelude.{slice_get, get_or, if◌then◌else◌}
use Rattle.std.proofs.lemmas.Bool.{ltb-true, ltb-false}
use Rattle.std.proofs.lemmas.Option.{slice_get-get_or, slice_get_past}
use Rattle.c_tree.specs.declared.typed.Expr.{Expr}
use Rattle.c_tree.specs.declared.typed.Stmt.{Stmt}
use Rattle.c_tree.specs.declared.typed.Typed.{Typed}
use Rattle.c_tree.specs.declared.typed.VarDef.{VarDef}
use Rattle.cheri_c_sem.specs.Expressions.{expr_tree, levels, node_tree}
use Rattle.cheri_c_sem.specs.Order.{Ordered}
use Rattle.cheri_c_sem.specs.Programs.{stmt_tree, stmt_levels, stmt_node_tree}
use Rattle.cheri_c_sem.specs.Tree.{Number, St, Empty}
use Rattle.cheri_c_sem.proofs.Unfold.{expression_node, statement_node}
use Rattle.mean_run.specs.Sources.{IsNode, IsStatement}

pub there : {A : Type 0} (xs : List A) (k : ℕ) (x : A) → true ≡ ltb k (length xs) → x ≡ get_or xs k x →
    slice_get xs k ≡ Some x
there xs k x lt e = slice_get-get_or xs k x (ltb-true k (length xs) (sym lt)) ∙ ap Some (sym e)

pub past : {A : Type 0} (xs : List A) (k : ℕ) → false ≡ ltb k (length xs) → slice_get xs k ≡ None
past xs k lt = slice_get_past xs k (ltb-false k (length xs) (sym lt))

-- an expression that is there, and one that is not
pub node_at : (p : Typed) (k : ℕ) (e : Expr) → Ordered p → true ≡ ltb k (length p.exprs) → e ≡ get_or p.exprs k e →
    IsNode p k e
node_at p k e o lt at = λ vars. expression_node p vars o k e (there p.exprs k e lt at)

pub no_node : (p : Typed) (vars : List VarDef) (k : ℕ) → false ≡ ltb k (length p.exprs) → expr_tree p vars k ≡ Number 0
unfolding expr_tree
no_node p vars k lt = ap (node_tree p vars (levels p vars k)) (past p.exprs k lt)

-- a statement
pub statement_at : (p : Typed) (k : ℕ) (a : Stmt) → Ordered p → slice_get p.stmts k ≡ Some a → IsStatement p k a
statement_at p k a o at = λ vars. statement_node p vars o k a at

pub no_statement : (p : Typed) (vars : List VarDef) (k : ℕ) → slice_get p.stmts k ≡ None → stmt_tree p vars k ≡ Empty
unfolding stmt_tree
no_statement p vars k at = ap (stmt_node_tree p vars (expr_tree p vars) (stmt_levels p vars k)) at

-- what holds of each of three trees
pub of_either : {A : Type 0} (g : St → A) (x : A) (c d : Bool) (a b e : St) → g a ≡ x → g b ≡ x → g e ≡ x →
    g (if c then a else if d then b else e) ≡ x
of_either g x true d a b e p q r = p
of_either g x false true a b e p q r = q
of_either g x false false a b e p q r = r
