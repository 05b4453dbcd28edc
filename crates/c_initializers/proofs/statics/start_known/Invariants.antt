use Rattle.std.proofs.Common.{◌≤◌, length, drop, map}
use Rattle.c_initializers.specs.Found.{Waits, all_asked}
use Rattle.c_initializers.specs.Slots.{slots_in}
use Rattle.c_initializers.specs.Starts.{known_of}
use Rattle.c_initializers.proofs.statics.start_known.Given as goal

abbrev pub invariant-loop-left : goal.invariant-loop-left
invariant-loop-left l = record {
  within : l.left ≤ length l.slots;
  waits : Waits l.fn.work l.work (all_asked (slots_in l.fn.work.nodes (drop l.left l.slots))
      (map known_of (drop l.left l.known)));
}

abbrev pub decreases-loop-left : goal.decreases-loop-left
decreases-loop-left l = l.left
