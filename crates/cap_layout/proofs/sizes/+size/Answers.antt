use Rattle.std.proofs.Common.{ap, ◌∙◌, sym, refl, arith, get_or}
use Rattle.c_tree.specs.declared.typed.Member.{Member}
use Rattle.c_tree.specs.Layout.{extent_within}
use Rattle.cap_layout.specs.Walks.{base_extent}
use Rattle.cap_layout.proofs.Rows.{row_at, row_fault}
use Rattle.cap_layout.proofs.Steps.{whole_fault, walk_none, walk_large, walk_past, walk_on, walk_end, walk_over}
use Rattle.cap_layout.proofs.Steps.{walk_at, item, fault_at}
use Rattle.cap_layout.proofs.sizes.+size.Goals as goal
use Rattle.cap_layout.proofs.sizes.+size.Goals.{fields-in-Err-TooLarge, fields-in-Ok+then-not-large}
use Rattle.cap_layout.proofs.sizes.+size.Goals.{fields-in-Ok+else-not-large}

pub measure-repeated-requires-clause-size : goal.measure-repeated-requires-clause-size
measure-repeated-requires-clause-size t c = let h = rw c.in-Scalar.is at c.in-Some.ensures.small in omega (arith, h.1)

pub measure-repeated-requires-clause-positive : goal.measure-repeated-requires-clause-positive
measure-repeated-requires-clause-positive t c = let h = rw c.in-Scalar.is at c.in-Some.ensures.small in h.0

pub measure-repeated-requires-clause-align : goal.measure-repeated-requires-clause-align
measure-repeated-requires-clause-align t c = let h = rw c.in-Scalar.is at c.in-Some.ensures.small in omega (arith, h.1)

pub measure-returns-in-Err : goal.measure-returns-in-Err
measure-returns-in-Err t c =
    let go = extent_within c.in-Some.core.left c.args.types.now in
    row_fault _ _ _ c.in-Err.fault
    (row_at _ _ _ _ c.in-Some.ensures.row (ap (λ b. base_extent b go) c.in-Members.is))
    (whole_fault c.in-Members.shared go c.in-Members.ms.now c.in-Err.fault c.in-Err.ensures)

pub fields-returns-in-Err-Incomplete : goal.fields-returns-in-Err-Incomplete
fields-returns-in-Err-Incomplete t c =
    let ms = c.args.ms.now in
    let i = c.loop-m.m-index in
    let d : Member = record { name = record { start = 0; end = 0 }; of = 0 } in
    walk_none c.loop-m.large c.args.shared (extent_within c.args.depth c.args.types.now) ms i
    (get_or ms i d) c.loop-m.end c.loop-m-test.true
    (item ms i d c.loop-m-test.true)
    (fault_at _ _ _ c.in-Err-Incomplete.field-0-is c.in-Err-Incomplete.ensures) c.loop-m.invariant

pub fields-loop-m-preserved : goal.fields-loop-m-preserved
fields-loop-m-preserved t c =
    let go = extent_within c.args.depth c.args.types.now in
    let s = c.args.shared in
    let ms = c.args.ms.now in
    let i = c.loop-m.m-index in
    let d : Member = record { name = record { start = 0; end = 0 }; of = 0 } in
    let m = get_or ms i d in
    let is = item ms i d c.loop-m-test.true in
    elim c.match-measure.branch [
      | fields-in-Err-TooLarge w ↦
          walk_at _ _ s go ms _ _ _ w.large-is w.end-is
          (walk_large c.loop-m.large s go ms i m c.loop-m.end c.loop-m-test.true is
          (fault_at _ _ _ w.in-Err-TooLarge.field-0-is w.in-Err-TooLarge.ensures) c.loop-m.invariant)
      | fields-in-Ok+then-not-large w ↦
          walk_at _ _ s go ms _ _ _ w.large-is w.end-is
          (walk_on _ s go ms i m c.loop-m.end w.in-Ok.l w.placed-end.result c.loop-m-test.true is w.in-Ok.ensures.is
          w.placed-end.ensures.is w.placed-end.ensures.positive w.placed-end.ensures.align refl
          (walk_at _ _ s go ms _ _ _ (sym w.if-not-large.true) refl c.loop-m.invariant))
      | fields-in-Ok+else-not-large w ↦
          walk_at _ _ s go ms _ _ _ (w.large-is ∙ w.if-not-large.false) w.end-is
          (walk_past s go ms i m c.loop-m.end w.in-Ok.l c.loop-m-test.true is w.in-Ok.ensures.is
          (walk_at _ _ s go ms _ _ _ (sym w.if-not-large.false) refl c.loop-m.invariant))
    ]

pub fields-returns-then-large : goal.fields-returns-then-large
fields-returns-then-large t c =
    walk_over c.args.shared (extent_within c.args.depth c.args.types.now) c.args.ms.now c.loop-m.m-index c.loop-m.end
    c.loop-m-test.false
    (walk_at _ _ _ _ _ _ _ _ (sym c.if-large.true) refl c.loop-m.invariant)

pub fields-returns-else-large : goal.fields-returns-else-large
fields-returns-else-large t c =
    walk_end c.args.shared (extent_within c.args.depth c.args.types.now) c.args.ms.now c.loop-m.m-index c.loop-m.end
    c.loop-m-test.false
    (walk_at _ _ _ _ _ _ _ _ (sym c.if-large.false) refl c.loop-m.invariant)
