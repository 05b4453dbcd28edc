use Rattle.std.proofs.Common.{take}
use Rattle.passing_steps.proofs.blocks.variables.Given as goal
use Rattle.passing_nodes.specs.Steps.{AreVariables}

abbrev pub invariant-loop-k : goal.invariant-loop-k
invariant-loop-k l = AreVariables l.source (take l.k-index l.ks) l.list.items
