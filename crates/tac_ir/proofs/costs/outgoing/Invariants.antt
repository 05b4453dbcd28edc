use Rattle.std.proofs.Common.{◌≡◌, length, max}
use Rattle.tac_ir.specs.Costs.{outgoing}
use Rattle.tac_ir.proofs.costs.outgoing.Given as goal

abbrev pub invariant-loop-i : goal.invariant-loop-i
invariant-loop-i l = max l.most (outgoing l.left) ≡ outgoing l.code

abbrev pub decreases-loop-i : goal.decreases-loop-i
decreases-loop-i l = length l.left
