use Rattle.std.proofs.Common.{take}
use Rattle.c_passing.proofs.Naming.{GathersParts}
use Rattle.c_passing.proofs.names.+gather.Given as goal

abbrev pub decreases-gather : goal.decreases-gather
decreases-gather l = l.levels

abbrev pub invariant-loop-kid : goal.invariant-loop-kid
invariant-loop-kid l = GathersParts l.tree l.initial.names l.names (take l.kid-index l.kid-items)
