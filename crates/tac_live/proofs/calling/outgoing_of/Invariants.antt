use Rattle.std.proofs.Common.{◌≡◌, max, drop}
use Rattle.tac_live.specs.Calls.{most_places}
use Rattle.tac_live.proofs.calling.outgoing_of.Given as goal

abbrev pub invariant-loop-i : goal.invariant-loop-i
invariant-loop-i l = max l.most (most_places (drop l.i-index l.code)) ≡ most_places l.code
