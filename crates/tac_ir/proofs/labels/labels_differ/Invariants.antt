use Rattle.std.proofs.Common.{◌≡◌, length}
use Rattle.tac_ir.specs.WellFormed.{labels_differ}
use Rattle.tac_ir.proofs.labels.labels_differ.Given as goal

abbrev pub invariant-loop-i : goal.invariant-loop-i
invariant-loop-i l = labels_differ l.code ≡ labels_differ l.left

abbrev pub decreases-loop-i : goal.decreases-loop-i
decreases-loop-i l = length l.left
