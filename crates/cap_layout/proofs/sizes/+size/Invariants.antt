use Rattle.std.proofs.Common.{◌+◌, ◌*◌, drop}
use Rattle.c_tree.specs.Layout.{extent_within}
use Rattle.cap_layout.specs.Walks.{Walk, placing}
use Rattle.cap_layout.proofs.sizes.+size.Given as goal

abbrev pub decreases-measure : goal.decreases-measure
decreases-measure l = 2 * l.depth

abbrev pub decreases-fields : goal.decreases-fields
decreases-fields l = 2 * l.depth + 1

abbrev pub invariant-fields-loop-m : goal.invariant-fields-loop-m
invariant-fields-loop-m l =
    Walk l.large (placing l.shared) (extent_within l.depth l.types) l.ms (drop l.m-index l.ms) l.end
