use Rattle.std.proofs.Common.{◌≡◌}
use Rattle.std.specs.BTreeMap.{get}
use Rattle.std.specs.Ordering.{nat_cmp}
use Rattle.tac_live.specs.Loops.{ArePlaces, AreReaches}
use Rattle.tac_live.proofs.loops.reaches.Given as goal

abbrev pub invariant-loop-i : goal.invariant-loop-i
invariant-loop-i l = record {
  at : l.at ≡ l.i-index;
  places : ArePlaces l.code l.at (λ k. get nat_cmp l.places k);
  reach : AreReaches l.code l.at l.reach.items;
}
