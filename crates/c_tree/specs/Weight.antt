-- The weight of a program, which bounds the size of its code. It is a sum over the trees of its functions.
use Rattle.std.specs.Prelude.{ℕ, ◌+◌, ◌-◌, ◌^◌, min, length, sum_by}
use Rattle.c_tree.specs.declared.typed.Typed.{Typed}
use Rattle.c_tree.specs.declared.typed.Expr.{Expr}
use Rattle.c_tree.specs.declared.typed.ExprKind.{ExprKind}
use Rattle.c_tree.specs.declared.typed.ExprKind.TheVariants.{Call, Library}
use Rattle.c_tree.specs.declared.typed.Stmt.{Stmt}
use Rattle.c_tree.specs.declared.typed.StmtKind.{StmtKind}
use Rattle.c_tree.specs.declared.typed.StmtKind.TheVariants.{Switch}
use Rattle.c_tree.specs.declared.typed.FunDef.{FunDef}

-- a call weighs 4, one of a library function among them; another expression weighs 1
abbrev pub kind_weight : ExprKind → ℕ
kind_weight (Call f xs) = 4
kind_weight (Library n xs) = 4
kind_weight _ = 1

abbrev pub expr_weight : Expr → ℕ
expr_weight e = kind_weight e.kind

-- a statement weighs 1, and each label of a `switch` weighs 1 beside it
abbrev pub labels_of : StmtKind → ℕ
labels_of (Switch on vars labels body) = length labels
labels_of _ = 0

abbrev pub stmt_weight : Stmt → ℕ
stmt_weight s = 1 + labels_of s.kind

-- a function weighs 8, and each of its parameters and other locals weighs 1
abbrev pub fun_weight : FunDef → ℕ
fun_weight f = 8 + length f.vars

unfoldable pub weight : Typed → ℕ
weight p = sum_by expr_weight p.exprs + sum_by stmt_weight p.stmts + sum_by fun_weight p.funs

-- a sum as 64 bits count it: it stops at their greatest number
abbrev pub counted : ℕ → ℕ
counted n = min n (2 ^ 64 - 1)
