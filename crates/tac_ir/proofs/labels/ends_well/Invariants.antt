use Rattle.std.proofs.Common.{◌≡◌, length}
use Rattle.tac_ir.specs.WellFormed.{ends_well}
use Rattle.tac_ir.proofs.Endings.{ends_after}
use Rattle.tac_ir.proofs.labels.ends_well.Given as goal

-- what was passed ends well or not, and then the rest decides
abbrev pub invariant-loop-i : goal.invariant-loop-i
invariant-loop-i l = ends_well l.code ≡ ends_after l.ends l.left

abbrev pub decreases-loop-i : goal.decreases-loop-i
decreases-loop-i l = length l.left
