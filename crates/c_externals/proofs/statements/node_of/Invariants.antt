use Rattle.std.proofs.Common.{◌≤◌, drop}
use Rattle.c_tree.specs.Syntax.{Syns}
use Rattle.c_externals.specs.Blocks.{AreLow, AreMeant, HoldsUpTo}
use Rattle.c_externals.proofs.statements.node_of.Given as goal

abbrev pub invariant-loop-part : goal.invariant-loop-part
invariant-loop-part l = record {
  low : l.all.height ≤ l.below;
  small : AreLow l.below (drop l.part-index l.parts);
  holds : (xs : Syns) → AreMeant l.cursor.nodes.items l.parts xs →
      HoldsUpTo l.cursor.nodes.items l.all (drop l.part-index l.parts) xs;
}
