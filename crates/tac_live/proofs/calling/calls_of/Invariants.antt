use Rattle.std.proofs.Common.{◌≡◌}
use Rattle.tac_live.proofs.CallSteps.{CallsUpto}
use Rattle.tac_live.proofs.calling.calls_of.Given as goal

abbrev pub invariant-loop-i : goal.invariant-loop-i
invariant-loop-i l = record { at : l.at ≡ l.i-index; calls : CallsUpto l.code l.at l.calls.items }
