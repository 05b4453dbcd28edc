use Rattle.std.proofs.Common.{◌∙◌}
use Rattle.object_memory.specs.Views.{cell_of}
use Rattle.object_memory.proofs.Puts.{put_more}
use Rattle.object_memory.proofs.object.Object.put_cells.Goals as goal

pub loop-k-preserved : goal.loop-k-preserved
loop-k-preserved c =
    let i = c.loop-k.invariant in
    let more = put_more cell_of c.loop-k.self.content.cells c.args.at c.loop-k.k c.args.cells.now _ c.loop-k-test.true
    in
    rw (c.put_cell.ensures, c.from.ensures) (more ∙ i.0, i.1, i.2)
