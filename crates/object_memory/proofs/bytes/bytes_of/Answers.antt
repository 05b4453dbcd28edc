use Rattle.std.proofs.Common.{◌∙◌, arith}
use Rattle.std.proofs.lemmas.List.{length-set}
use Rattle.object_memory.proofs.Spelled.{low_more}
use Rattle.object_memory.proofs.bytes.bytes_of.Goals as goal

pub loop-k-preserved : goal.loop-k-preserved
loop-k-preserved c =
    let i = c.loop-k.invariant in
    let long = i.1 in
    let room = c.requires in (
      low_more c.loop-k.items c.loop-k.k c.args.n c.loop-k.left c.loop-k-test.true
          (omega (arith, long, room, c.loop-k-test.true)) ∙ i.0,
      length-set c.loop-k.items c.loop-k.k _ ∙ long,
    )
