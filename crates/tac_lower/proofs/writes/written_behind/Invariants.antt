use Rattle.std.proofs.Common.{◌≤◌, length, drop}
use Rattle.tac_lower.specs.Trees.{AreBehind, SparesAll}
use Rattle.tac_lower.proofs.writes.written_behind.Given as goal

abbrev pub invariant-loop-left : goal.invariant-loop-left
invariant-loop-left l = record {
  least : l.left ≤ length l.ks;
  behind : AreBehind l.table (drop l.left l.ks) l.behind.items;
  spares : SparesAll l.table l.w (drop l.left l.ks);
}

abbrev pub decreases-loop-left : goal.decreases-loop-left
decreases-loop-left l = l.left
