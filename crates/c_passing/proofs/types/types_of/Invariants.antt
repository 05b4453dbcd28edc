use Rattle.std.proofs.Common.{take}
use Rattle.c_passing.specs.Numbered.{Follows}
use Rattle.c_passing.proofs.types.types_of.Given as goal

abbrev pub invariant-loop-k : goal.invariant-loop-k
invariant-loop-k l = Follows (take l.k l.types) l.passed
