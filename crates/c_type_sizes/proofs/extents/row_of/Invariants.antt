use Rattle.std.proofs.Common.{◌<◌, ◌≤◌, List}
use Rattle.c_tree.specs.Scopes.{TagState}
use Rattle.cap_layout.specs.Walks.{IsRow}
use Rattle.c_type_sizes.specs.Sizes.{numbered_extent}
use Rattle.c_type_sizes.proofs.extents.row_of.Given as goal

abbrev pub invariant-loop-base : goal.invariant-loop-base
invariant-loop-base l = record {
  positive : 0 < l.count;
  small : l.count ≤ 67108865;
  row : (tags : List TagState) → IsRow (numbered_extent tags l.types l.t) (numbered_extent tags l.types l.of) l.count;
}

abbrev pub decreases-loop-base : goal.decreases-loop-base
decreases-loop-base l = l.of
