use Rattle.std.proofs.Common.{◌%◌, ◌^◌, refl, ap, arith}
use Rattle.std.proofs.lemmas.Bool.{not-true, not-false}
use Rattle.cap_concentrate.specs.Decoding.{exponent, mantissa, placed, corrected, base_of, top_of}
use Rattle.cap_concentrate.proofs.Encoded.{only_fields}
use Rattle.cap_concentrate.proofs.Sums.{top_sum, high_top, low_enough}
use Rattle.cap_concentrate.proofs.decoding.bounds_of.Goals as goal
use Rattle.cap_concentrate.proofs.decoding.bounds_of.Goals.{then-e-lt51, else-e-lt51}

pub returns-then-not-f-clause-base : goal.returns-then-not-f-clause-base
unfolding base_of exponent mantissa
returns-then-not-f-clause-base c = rw (not-true c.args.f.internal c.if-not-f.true) c.placed_base-base.ensures

pub returns-then-not-f-clause-top : goal.returns-then-not-f-clause-top
unfolding top_of base_of exponent mantissa
returns-then-not-f-clause-top c =
    rw (not-true c.args.f.internal c.if-not-f.true)
    (omega (
      arith,
      top_sum 0 c.args.f.address c.args.f.b c.length.result _ (omega arith) (omega arith)
          (omega arith) c.length.ensures.value,
    ))

pub returns-then-not-f-clause-canonical : goal.returns-then-not-f-clause-canonical
returns-then-not-f-clause-canonical c =
    only_fields c.args.f.internal c.args.f.t c.args.f.b c.args.f.address _ _ c.args.f.t_in_range c.args.f.b_in_range
    (returns-then-not-f-clause-base c) (returns-then-not-f-clause-top c)

pub returns-clause-base : goal.returns-clause-base
unfolding base_of
returns-clause-base c =
    rw (
      not-false c.args.f.internal c.if-not-f.false,
      c.placed_base-base-2.ensures,
      c.exponent-e.ensures.value,
      c.mantissa-b.ensures.value,
    ) refl

pub returns-clause-top : goal.returns-clause-top
unfolding top_of base_of
returns-clause-top c =
    let e = c.exponent-e.result in
    let b = c.mantissa-b.result in
    let d = c.length-units.result in
    let address = c.args.f.address in
    let base = placed e address b b % 2 ^ 64 in
    let s = c.length-units.ensures.value in
    rw (
      not-false c.args.f.internal c.if-not-f.false,
      c.corrected.ensures,
      ← c.exponent-e.ensures.value,
      ← c.mantissa-b.ensures.value,
      ← c.mantissa.ensures.value,
      c.placed_base-base-2.ensures,
    )
    (elim c.if-e-lt51.branch [
      | then-e-lt51 w ↦
          rw (w.top-is, w.from-top.ensures, w.from-then-e-lt51.ensures, c.placed_base-base-2.ensures)
          (low_enough e address b d _ w.if-e-lt51.true (omega arith) (omega arith) s)
      | else-e-lt51 w ↦
          let top = high_top e address b d _ w.if-e-lt51.false c.exponent-e.ensures.bound s in
          ap (corrected e base) (rw (w.top-is, w.from-else-e-lt51.ensures) (omega (arith, top)))
    ])

pub returns-clause-canonical : goal.returns-clause-canonical
returns-clause-canonical c =
    only_fields c.args.f.internal c.args.f.t c.args.f.b c.args.f.address _ _ c.args.f.t_in_range c.args.f.b_in_range
    (returns-clause-base c) (returns-clause-top c)
