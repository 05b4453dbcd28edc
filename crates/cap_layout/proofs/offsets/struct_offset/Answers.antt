use Rattle.std.proofs.Common.{◌+◌, ◌-◌, ◌<◌, Some, ap, sym, ◌∙◌, arith, drop, get_or}
use Rattle.std.proofs.lemmas.Result.{err_from_is_err_and}
use Rattle.c_tree.specs.declared.typed.Member.{Member}
use Rattle.c_tree.specs.Layout.{extent, struct_offset, members, behind}
use Rattle.cap_layout.specs.Answers.{extent_is}
use Rattle.cap_layout.proofs.Steps.{item}
use Rattle.cap_layout.proofs.Places.{place_fault, place_over, offset_here, offset_later, members_later}
use Rattle.cap_layout.proofs.offsets.struct_offset.Goals as goal

pub returns-in_err-l : goal.returns-in_err-l
returns-in_err-l c =
    let ms = c.args.ms.now in
    let i = c.loop-m.m-index in
    let d : Member = record { name = record { start = 0; end = 0 }; of = 0 } in
    let p = err_from_is_err_and c.from_residual.result c.from_residual.ensures.1 in
    rw p.1
    (place_fault (extent c.args.p.now.types) ms i c.args.k (get_or ms i d)
    (extent_is c.loop-m.end) c.in_err-l.field-0.0 c.loop-m-test.true (item ms i d c.loop-m-test.true)
    c.loop-m.invariant.whole c.in_err-l.ensures)

pub returns-then-left-eq0 : goal.returns-then-left-eq0
returns-then-left-eq0 c =
    let ms = c.args.ms.now in
    let i = c.loop-m.m-index in
    let d : Member = record { name = record { start = 0; end = 0 }; of = 0 } in
    c.loop-m.invariant.offset
    ∙ offset_here (extent c.args.p.now.types) ms i c.loop-m.left (get_or ms i d) (extent_is c.loop-m.end)
    (extent_is c.in_ok-l.l) c.loop-m-test.true (item ms i d c.loop-m-test.true)
    c.in_ok-l.ensures.is c.if-left-eq0.true
    ∙ ap Some (sym c.start_of.ensures.is)

pub returns-then-end-gt-LIMIT : goal.returns-then-end-gt-LIMIT
returns-then-end-gt-LIMIT c =
    let go = extent c.args.p.now.types in
    let ms = c.args.ms.now in
    let i = c.loop-m.m-index in
    let d : Member = record { name = record { start = 0; end = 0 }; of = 0 } in
    place_over go ms (drop (i + 1) ms) c.args.k (extent_is c.placed-end.result) c.if-end-gt-LIMIT.true
    (c.loop-m.invariant.whole
    ∙ members_later go ms i (get_or ms i d) (extent_is c.loop-m.end) (extent_is c.in_ok-l.l) c.loop-m-test.true
    (item ms i d c.loop-m-test.true) c.in_ok-l.ensures.is
    ∙ ap (members behind go (drop (i + 1) ms)) (sym c.placed-end.ensures.is))

pub loop-m-preserved : goal.loop-m-preserved
loop-m-preserved c =
    let go = extent c.args.p.now.types in
    let ms = c.args.ms.now in
    let i = c.loop-m.m-index in
    let d : Member = record { name = record { start = 0; end = 0 }; of = 0 } in
    let left : 0 < c.loop-m.left = omega (arith, c.if-left-eq0.false) in
    record {
      count = omega (arith, c.loop-m.invariant.count);
      offset = c.loop-m.invariant.offset
          ∙ offset_later go ms i c.loop-m.left (get_or ms i d) (extent_is c.loop-m.end)
          (extent_is c.in_ok-l.l) c.loop-m-test.true (item ms i d c.loop-m-test.true) c.in_ok-l.ensures.is left
          ∙ ap (struct_offset go (drop (i + 1) ms) (c.loop-m.left - 1)) (sym c.placed-end.ensures.is);
      whole = c.loop-m.invariant.whole
          ∙ members_later go ms i (get_or ms i d) (extent_is c.loop-m.end) (extent_is c.in_ok-l.l) c.loop-m-test.true
          (item ms i d c.loop-m-test.true) c.in_ok-l.ensures.is
          ∙ ap (members behind go (drop (i + 1) ms)) (sym c.placed-end.ensures.is);
      size = c.if-end-gt-LIMIT.false;
      positive = c.placed-end.ensures.positive;
      align = c.placed-end.ensures.align;
    }
