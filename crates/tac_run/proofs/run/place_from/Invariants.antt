use Rattle.std.proofs.Common.{◌≡◌, ◌+◌, ◌-◌, length, drop}
use Rattle.tac_ir.specs.Meaning.{up_to}
use Rattle.tac_run.proofs.run.place_from.Given as goal

abbrev pub invariant-loop-i : goal.invariant-loop-i
invariant-loop-i l = l.from + up_to l.label (drop l.from l.code) ≡ l.at + up_to l.label (drop l.at l.code)

abbrev pub decreases-loop-i : goal.decreases-loop-i
decreases-loop-i l = length l.code - l.at
