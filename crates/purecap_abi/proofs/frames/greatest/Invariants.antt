use Rattle.std.proofs.Common.{◌≡◌, take}
use Rattle.purecap_abi.specs.Placing.{greatest_of}
use Rattle.purecap_abi.proofs.frames.greatest.Given as goal

abbrev pub invariant-loop-o : goal.invariant-loop-o
invariant-loop-o l = l.greatest ≡ greatest_of (take l.o-index l.locals)
