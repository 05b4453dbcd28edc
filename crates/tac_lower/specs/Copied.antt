-- The parts of 16 bytes that the structs and unions in expressions and statements have copied.
use Rattle.std.specs.Prelude.{ℕ, ◌+◌, List, slice_get, slice_index_or, sum_by}
use Rattle.c_tree.specs.Counts.{value_copies, expr_copies, stmt_copies}
use Rattle.c_tree.specs.Views.{forest, operands, values, parts}
use Rattle.c_tree.specs.declared.typed.CType.{CType}
use Rattle.c_tree.specs.declared.typed.Expr.{Expr}
use Rattle.c_tree.specs.declared.typed.Stmt.{Stmt}
use Rattle.c_tree.specs.declared.typed.Typed.{Typed}

-- those of the value of expression k, where it is a struct or a union
unfoldable pub copied_in : Typed → ℕ → ℕ
copied_in p k = value_copies p.types (slice_get p.exprs k)

-- ---- an expression with its operands

abbrev pub copies_from : List CType → Expr → (ℕ → ℕ) → ℕ
copies_from types e go = expr_copies types e + sum_by go (operands e.kind)

unfoldable pub copies_in : Typed → ℕ → ℕ
copies_in p k = slice_index_or (forest (copies_from p.types) 0 p.exprs) k 0

abbrev pub all_copies_in : Typed → List ℕ → ℕ
all_copies_in p ks = sum_by (λ k. copies_in p k) ks

-- ---- a statement with its expressions and the statements in it

abbrev pub part_from : Typed → Stmt → (ℕ → ℕ) → ℕ
part_from p s go = stmt_copies p.types p.exprs s + sum_by (copies_in p) (values s.kind) + sum_by go (parts s.kind)

unfoldable pub part_copies : Typed → ℕ → ℕ
part_copies p k = slice_index_or (forest (part_from p) 0 p.stmts) k 0

abbrev pub all_part_copies : Typed → List ℕ → ℕ
all_part_copies p ks = sum_by (λ k. part_copies p k) ks
