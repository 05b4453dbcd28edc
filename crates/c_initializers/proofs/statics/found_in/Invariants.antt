use Rattle.std.proofs.Common.{◌≡◌, ◌++◌, drop, map}
use Rattle.c_tree.specs.Scopes.{State}
use Rattle.c_elaborator.specs.Work.{Shows, aiming_of}
use Rattle.c_initializers.specs.Found.{found_of}
use Rattle.c_plain_rules.specs.Placing.{placed_of}
use Rattle.c_initializers.specs.Slots.{slots_in}
use Rattle.c_initializers.specs.Starts.{known_of}
use Rattle.c_initializers.proofs.statics.found_in.Given as goal

abbrev pub invariant-loop-k : goal.invariant-loop-k
invariant-loop-k l = record {
  numbers : (s : State) → Shows l.work s →
      map placed_of l.found.numbers.items ++ (found_of s (slots_in l.work.nodes (drop l.k l.slots))
      (map known_of (drop l.k l.known))).0 ≡ (found_of s (slots_in l.work.nodes l.slots) (map known_of l.known)).0;
  starts : (s : State) → Shows l.work s →
      map aiming_of l.found.starts.items ++ (found_of s (slots_in l.work.nodes (drop l.k l.slots))
      (map known_of (drop l.k l.known))).1 ≡ (found_of s (slots_in l.work.nodes l.slots) (map known_of l.known)).1;
}
