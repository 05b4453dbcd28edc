use Rattle.std.proofs.Common.{◌≡◌, ◌+◌, ◌++◌, take, length}
use Rattle.object_memory.proofs.bytes.bytes_of_pair.Given as goal

abbrev pub invariant-loop-k : goal.invariant-loop-k
invariant-loop-k l = (take (8 + l.k) l.items ≡ take 8 l.initial.items ++ take l.k l.high.items) × (length l.items ≡ 16)
