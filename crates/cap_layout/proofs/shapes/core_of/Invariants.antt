use Rattle.std.proofs.Common.{◌<◌, ◌≤◌}
use Rattle.c_tree.specs.Layout.{extent_within}
use Rattle.cap_layout.specs.Walks.{IsRow}
use Rattle.cap_layout.proofs.shapes.core_of.Given as goal

abbrev pub invariant-loop-left : goal.invariant-loop-left
invariant-loop-left l = record {
  within : l.left ≤ l.depth;
  positive : 0 < l.count;
  small : l.count ≤ 67108865;
  row : IsRow (extent_within l.depth l.types l.t) (extent_within l.left l.types l.of) l.count;
}

abbrev pub decreases-loop-left : goal.decreases-loop-left
decreases-loop-left l = l.left
