use Rattle.std.proofs.Common.{◌≡◌, length}
use Rattle.tac_ir.specs.WellFormed.{functions_fit}
use Rattle.tac_ir.proofs.checking.functions_fit.Given as goal

abbrev pub invariant-loop-d : goal.invariant-loop-d
invariant-loop-d l = functions_fit l.p l.defs l.funs ≡ functions_fit l.p l.left l.given

abbrev pub decreases-loop-d : goal.decreases-loop-d
decreases-loop-d l = length l.left
