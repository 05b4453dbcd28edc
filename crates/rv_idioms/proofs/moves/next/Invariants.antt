use Rattle.std.proofs.Common.{◌≡◌}
use Rattle.rv_idioms.specs.Moves.{AreFree}
use Rattle.rv_idioms.proofs.moves.next.Given as goal

abbrev pub invariant-loop-k : goal.invariant-loop-k
invariant-loop-k l = record { free : AreFree l.moves → l.k ≡ 0 }
