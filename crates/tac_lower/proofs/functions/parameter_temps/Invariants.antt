use Rattle.tac_lower.proofs.Homes.{ParametersTo}
use Rattle.tac_lower.proofs.functions.parameter_temps.Given as goal

abbrev pub invariant-loop-x : goal.invariant-loop-x
invariant-loop-x l = ParametersTo l.program.p.now l.d l.fn.out l.out l.x-index
