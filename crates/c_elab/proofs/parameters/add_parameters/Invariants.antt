use Rattle.std.proofs.Common.{take}
use Rattle.c_elab.specs.Functions.{AddsParameters}
use Rattle.c_elab.proofs.parameters.add_parameters.Given as goal

abbrev pub invariant-loop-p : goal.invariant-loop-p
invariant-loop-p l = AddsParameters l.fn.scopes l.scopes (take l.p-index l.params)
