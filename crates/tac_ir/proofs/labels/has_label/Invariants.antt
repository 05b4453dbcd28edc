use Rattle.std.proofs.Common.{◌≡◌, length}
use Rattle.tac_ir.specs.WellFormed.{has_label}
use Rattle.tac_ir.proofs.labels.has_label.Given as goal

abbrev pub invariant-loop-i : goal.invariant-loop-i
invariant-loop-i l = has_label l.code l.label ≡ has_label l.left l.label

abbrev pub decreases-loop-i : goal.decreases-loop-i
decreases-loop-i l = length l.left
