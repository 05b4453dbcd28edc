use Rattle.std.proofs.Common.{◌≡◌, length}
use Rattle.purecap_abi.proofs.frames.no_starts.Given as goal

abbrev pub invariant-loop-o : goal.invariant-loop-o
invariant-loop-o l = length l.starts.items ≡ l._o-index
