use Rattle.std.proofs.Common.{◌≡◌, ℕ, ◌<◌, Some, take}
use Rattle.std.specs.Prelude.{slice_get}
use Rattle.c_tree.specs.declared.typed.Expr.{Expr}
use Rattle.c_tree.specs.Views.{operands}
use Rattle.ordered_programs.specs.Uses.{MarksEach}
use Rattle.ordered_programs.proofs.expressions.are_exprs_ordered.Given as goal

abbrev pub invariant-loop-k : goal.invariant-loop-k
invariant-loop-k l = record {
  typed : (j : ℕ) (e : Expr) → j < l.k → slice_get l.exprs j ≡ Some e → e.of < l.types;
  operands : MarksEach (λ (e : Expr). operands e.kind) (λ k. k) (take l.k l.exprs) l.initial.marks.items l.marks.items;
}
