use Rattle.std.proofs.Common.{◌∙◌}
use Rattle.object_memory.specs.Answers.{plain_cell}
use Rattle.object_memory.proofs.Puts.{put_more}
use Rattle.object_memory.proofs.object.Object.put_bytes.Goals as goal

pub loop-k-preserved : goal.loop-k-preserved
loop-k-preserved c =
    let i = c.loop-k.invariant in
    let e = c.plain.ensures in
    let more = put_more plain_cell c.loop-k.self.content.cells c.args.at c.loop-k.k _ _ c.loop-k-test.true in
    rw (c.put_cell.ensures, e, c.from.ensures) (more ∙ i.0, i.1, i.2)
