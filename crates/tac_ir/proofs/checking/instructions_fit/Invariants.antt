use Rattle.std.proofs.Common.{◌≡◌, length}
use Rattle.tac_ir.specs.Bodies.{in_body}
use Rattle.tac_ir.specs.WellFormed.{all_of, instruction_fits}
use Rattle.tac_ir.proofs.checking.instructions_fit.Given as goal

abbrev pub invariant-loop-i : goal.invariant-loop-i
invariant-loop-i l = all_of (in_body instruction_fits l.body) l.body.code.now
    ≡ all_of (in_body instruction_fits l.body) l.left

abbrev pub decreases-loop-i : goal.decreases-loop-i
decreases-loop-i l = length l.left
