use Rattle.std.proofs.Common.{◌≡◌, ◌+◌, drop, map}
use Rattle.obj_mem.specs.Objects.{put_at}
use Rattle.object_memory.specs.Answers.{plain_cell}
use Rattle.object_memory.proofs.object.Object.put_bytes.Given as goal

abbrev pub invariant-loop-k : goal.invariant-loop-k
invariant-loop-k l =
    (put_at l.self.content.cells (l.at + l.k) (drop l.k (map plain_cell l.items))
    ≡ put_at l.fn.self.content.cells l.at (map plain_cell l.items))
    × (l.self.content.values ≡ l.fn.self.content.values) × (l.self.shape ≡ l.fn.self.shape)
