use Rattle.std.proofs.Common.{◌≡◌, ◌++◌, replicate, drop}
use Rattle.object_memory.proofs.object.fill.Given as goal

abbrev pub invariant-loop-k : goal.invariant-loop-k
invariant-loop-k o l = l.items.items ≡ replicate l.k l.each ++ drop l.k l.fn.items.items
