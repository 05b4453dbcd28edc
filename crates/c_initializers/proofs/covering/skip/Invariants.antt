use Rattle.std.proofs.Common.{◌-◌, ◌≤◌, length}
use Rattle.c_initializers.specs.Covering.{EndBefore}
use Rattle.c_initializers.proofs.covering.skip.Given as goal

abbrev pub invariant-loop-k : goal.invariant-loop-k
invariant-loop-k l = record {
  bound : l.k ≤ length l.extents;
  passed : EndBefore l.extents l.next l.at → EndBefore l.extents l.k l.at;
}

abbrev pub decreases-loop-k : goal.decreases-loop-k
decreases-loop-k l = length l.extents - l.k
