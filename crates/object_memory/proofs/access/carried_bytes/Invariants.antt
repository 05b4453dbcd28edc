use Rattle.std.proofs.Common.{◌≡◌, ◌+◌, ◌-◌, ◌++◌, map, take, length}
use Rattle.obj_mem.specs.Access.{has_part}
use Rattle.obj_mem.specs.Objects.{bytes_at}
use Rattle.object_memory.specs.Answers.{mode_of, plain_cell, shapes_of}
use Rattle.object_memory.proofs.access.carried_bytes.Given as goal

abbrev pub invariant-loop-k : goal.invariant-loop-k
invariant-loop-k l =
    (map plain_cell (take l.k l.items) ++ bytes_at (mode_of l.mode) (shapes_of l.objects) l.o.content (l.at + l.k)
    (l.n - l.k) ≡ bytes_at (mode_of l.mode) (shapes_of l.objects) l.o.content l.at l.n)
    × (has_part (bytes_at (mode_of l.mode) (shapes_of l.objects) l.o.content (l.at + l.k) (l.n - l.k))
    ≡ has_part (bytes_at (mode_of l.mode) (shapes_of l.objects) l.o.content l.at l.n))
    × (length l.items ≡ 16)
