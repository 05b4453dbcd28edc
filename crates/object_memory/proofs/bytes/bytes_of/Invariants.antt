use Rattle.std.proofs.Common.{◌≡◌, ◌-◌, ◌++◌, take, map, length}
use Rattle.obj_mem.specs.Access.{bytes_of as low_bytes}
use Rattle.object_memory.specs.Answers.{plain_cell}
use Rattle.object_memory.proofs.bytes.bytes_of.Given as goal

abbrev pub invariant-loop-k : goal.invariant-loop-k
invariant-loop-k l =
    (map plain_cell (take l.k l.items) ++ low_bytes (l.n - l.k) l.left ≡ low_bytes l.n l.number) × (length l.items ≡ 16)
