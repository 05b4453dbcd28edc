use Rattle.std.proofs.Common.{◌≡◌, false, length}
use Rattle.tac_ir.specs.WellFormed.{turns_fit}
use Rattle.tac_ir.proofs.labels.turns_fit.Given as goal

abbrev pub invariant-loop-i : goal.invariant-loop-i
invariant-loop-i l = turns_fit false l.code ≡ turns_fit l.turned l.left

abbrev pub decreases-loop-i : goal.decreases-loop-i
decreases-loop-i l = length l.left
