use Rattle.std.proofs.Common.{◌≡◌}
use Rattle.c_tree.specs.Layout.{bare_within, extent_within}
use Rattle.cap_layout.proofs.records.record_at.Given as goal

abbrev pub invariant-loop-left : goal.invariant-loop-left
invariant-loop-left l = record {
  bare_is : bare_within l.depth l.types l.t ≡ bare_within l.left l.types l.of;
  extent_is : extent_within l.depth l.types l.t ≡ extent_within l.left l.types l.of;
}

abbrev pub decreases-loop-left : goal.decreases-loop-left
decreases-loop-left l = l.left
