use Rattle.std.proofs.Common.{◌-◌}
use Rattle.purecap_abi.proofs.Placing.{Turn, Round}
use Rattle.purecap_abi.proofs.frames.place.Given as goal

abbrev pub invariant-loop-k : goal.invariant-loop-k
invariant-loop-k l = Turn l.locals l.starts.items l.from l.next l.align l.k l.initial.next

abbrev pub invariant-loop-half : goal.invariant-loop-half
invariant-loop-half l = Round l.locals l.starts.items l.from l.next l.half

abbrev pub decreases-loop-half : goal.decreases-loop-half
decreases-loop-half l = l.most - l.half
