use Rattle.std.proofs.Common.{◌≡◌, ◌≤◌, ◌++◌, length, take, map}
use Rattle.std.specs.Prelude.{reverse}
use Rattle.c_elaborator.specs.Work.{pending_of}
use Rattle.c_initializers.specs.Found.{pendings}
use Rattle.c_initializers.proofs.statics.ask.Given as goal

abbrev pub invariant-loop-left : goal.invariant-loop-left
invariant-loop-left l = record {
  within : l.left ≤ length l.asks;
  asked : map pending_of l.waiting.items ++ pendings l.pos l.object (reverse (take l.left l.asks))
      ≡ map pending_of l.fn.waiting.items ++ pendings l.pos l.object (reverse l.asks);
}

abbrev pub decreases-loop-left : goal.decreases-loop-left
decreases-loop-left l = l.left
