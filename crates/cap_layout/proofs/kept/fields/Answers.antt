use Rattle.std.proofs.Common.{sym, get_or}
use Rattle.std.proofs.lemmas.Bool.{le-ltb}
use Rattle.c_tree.specs.declared.typed.Member.{Member}
use Rattle.c_tree.specs.Layout.{extent, size_limit}
use Rattle.cap_layout.proofs.Steps.{walk_on, walk_end, item}
use Rattle.cap_layout.proofs.kept.fields.Goals as goal

pub loop-m-preserved : goal.loop-m-preserved
loop-m-preserved c =
    let ms = c.args.ms.now in
    let i = c.loop-m.m-index in
    let d : Member = record { name = record { start = 0; end = 0 }; of = 0 } in
    let next = c.placed-end.result in
    walk_on _ c.args.shared (extent c.args.k.types.now) ms i
    (get_or ms i d) c.loop-m.end c.in-Some.l next c.loop-m-test.true
    (item ms i d c.loop-m-test.true) c.in-Some.ensures.is
    c.placed-end.ensures.is c.placed-end.ensures.positive c.placed-end.ensures.align
    (sym (le-ltb size_limit next.size c.if-end-gt-LIMIT.false))
    c.loop-m.invariant

pub returns : goal.returns
returns c = walk_end c.args.shared (extent c.args.k.types.now) c.args.ms.now c.loop-m.m-index c.loop-m.end
    c.loop-m-test.false c.loop-m.invariant
