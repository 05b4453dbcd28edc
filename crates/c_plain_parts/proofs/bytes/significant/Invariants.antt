use Rattle.std.proofs.Common.{◌≡◌, ◌+◌, ◌-◌, ◌≤◌}
use Rattle.c_tree.specs.Statics.{significant}
use Rattle.c_plain_parts.proofs.bytes.significant.Given as goal

abbrev pub invariant-loop-left : goal.invariant-loop-left
invariant-loop-left l = record {
  rest : significant l.width l.number ≡ significant (l.width - l.count) l.left + l.count;
  within : l.count ≤ l.width;
}

abbrev pub decreases-loop-left : goal.decreases-loop-left
decreases-loop-left l = l.left
