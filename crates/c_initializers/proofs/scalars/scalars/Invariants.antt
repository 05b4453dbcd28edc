use Rattle.std.proofs.Common.{◌≡◌}
use Rattle.c_tree.specs.Initializers.{scalars}
use Rattle.c_expressions.specs.Nodes.{type_in}
use Rattle.c_initializers.specs.Covering.{IsCursor}
use Rattle.c_initializers.specs.Rows.{rows_steps}
use Rattle.c_initializers.proofs.RowLaws.{AllWalked}
use Rattle.c_initializers.proofs.scalars.scalars.Given as goal

abbrev pub invariant-steps : goal.invariant-steps
invariant-steps l = record {
  cursor : IsCursor l.cursor;
  of : l.cursor.extents.now ≡ l.extents;
  walked : AllWalked l.work l.extents l.rows.items l.places.items (λ s. scalars s (type_in l.work.nodes l.of));
}

abbrev pub decreases-steps : goal.decreases-steps
decreases-steps l = rows_steps l.work l.rows.items
