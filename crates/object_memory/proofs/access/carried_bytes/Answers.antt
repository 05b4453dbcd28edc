use Rattle.std.proofs.Common.{◌≡◌, ◌+◌, ◌<◌, length, ap, ◌∙◌, arith}
use Rattle.std.proofs.lemmas.List.{length-set}
use Rattle.obj_mem.specs.Objects.{byte_at}
use Rattle.object_memory.specs.Answers.{mode_of, plain_cell, shapes_of}
use Rattle.object_memory.proofs.Copies.{carry_more, part_more}
use Rattle.object_memory.proofs.access.carried_bytes.Goals as goal

pub loop-k-preserved : goal.loop-k-preserved
loop-k-preserved c =
    let i = c.loop-k.invariant in
    let long = i.2 in
    let few = c.requires.few in
    let test = c.loop-k-test.true in
    let room : c.loop-k.k < length c.loop-k.items = omega (arith, long, few, test) in
    let d = mode_of c.args.mode in
    let s = shapes_of c.args.objects.now in
    let o = c.args.o.now.content in
    let same : plain_cell c.in-Some.byte ≡ byte_at d s o (c.args.at + c.loop-k.k) =
    c.in-Some.ensures.some ∙ c.byte_at.ensures ∙ ap (λ j. byte_at d s o (c.args.at + j)) c.from.ensures in (
      carry_more d s o c.args.at c.args.n c.loop-k.k c.loop-k.items c.in-Some.byte test room same ∙ i.0,
      part_more d s o c.args.at c.args.n c.loop-k.k c.in-Some.byte test same ∙ i.1,
      length-set c.loop-k.items c.loop-k.k _ ∙ long,
    )
