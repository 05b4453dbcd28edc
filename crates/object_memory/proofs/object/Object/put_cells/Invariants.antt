use Rattle.std.proofs.Common.{◌≡◌, ◌+◌, drop}
use Rattle.obj_mem.specs.Objects.{put_at}
use Rattle.object_memory.specs.Answers.{cells_of}
use Rattle.object_memory.proofs.object.Object.put_cells.Given as goal

abbrev pub invariant-loop-k : goal.invariant-loop-k
invariant-loop-k l =
    (put_at l.self.content.cells (l.at + l.k) (drop l.k (cells_of l.cells))
    ≡ put_at l.fn.self.content.cells l.at (cells_of l.cells))
    × (l.self.content.values ≡ l.fn.self.content.values) × (l.self.shape ≡ l.fn.self.shape)
