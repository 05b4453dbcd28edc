use Rattle.std.proofs.Common.{◌≡◌, List, length}
use Rattle.c_tree.specs.declared.typed.VarDef.{VarDef}
use Rattle.cheri_c_sem.specs.Expressions.{expr_tree}
use Rattle.cheri_c_sem.specs.Order.{Ordered}
use Rattle.tac_lower.specs.Trees.{AreCovered}
use Rattle.tac_lower.proofs.writes.writes_table.Given as goal

abbrev pub invariant-loop-e : goal.invariant-loop-e
invariant-loop-e l = record {
  many : length l.table.items ≡ l.e-index;
  covers : Ordered l.p → (vars : List VarDef) → AreCovered l.table.items (expr_tree l.p vars);
}
