use Rattle.std.proofs.Common.{take}
use Rattle.c_passing.specs.Numbered.{AreParameters}
use Rattle.c_passing.proofs.types.parameters.Given as goal

abbrev pub invariant-loop-t : goal.invariant-loop-t
invariant-loop-t l = AreParameters l.types l.into (take l.t-index l.ts) l.initial.list.items l.list.items
