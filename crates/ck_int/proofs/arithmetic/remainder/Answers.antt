use Rattle.std.proofs.Common.{◌∙◌, sym, ap}
use Rattle.std.specs.Int.{cast_signed, cast_unsigned, w64}
use Rattle.std.specs.Prelude.{int_rem}
use Rattle.ck_int.specs.Kinds.{form_of, kept_of}
use Rattle.ck_int.proofs.WordLaws.{kept_of-word_of, remainder-zero, signed_operand, signed_remainder}
use Rattle.ck_int.proofs.WordLaws.{unsigned_remainder}
use Rattle.ck_int.proofs.arithmetic.remainder.Goals as goal

pub returns-then-b-eq0 : goal.returns-then-b-eq0
returns-then-b-eq0 c =
    let f = form_of c.args.kind in
    sym (ap kept_of (remainder-zero f _ c.args.b c.if-b-eq0.true) ∙ kept_of-word_of f c.args.a c.ranges.a.fits)

pub returns-then-is_signed : goal.returns-then-is_signed
returns-then-is_signed c =
    let f = form_of c.args.kind in
    let signed = sym c.is_signed.ensures ∙ c.if-is_signed.true in
    let left = signed_operand f c.args.a _ signed c.ranges.a.fits c.cast_signed.ensures in
    let right = signed_operand f c.args.b _ signed c.ranges.b.fits c.cast_signed-then-is_signed.ensures in
    c.cast_unsigned.ensures
    ∙ ap (λ z. cast_unsigned w64 (cast_signed w64 (cast_unsigned w64 z)))
    (c.wrapping_rem.ensures ∙ (λ i. int_rem (left i) (right i)))
    ∙ signed_remainder f c.args.a c.args.b signed c.ranges.a.fits c.ranges.b.fits c.if-b-eq0.false

pub returns-else-is_signed : goal.returns-else-is_signed
returns-else-is_signed c =
    unsigned_remainder (form_of c.args.kind) c.args.a c.args.b (sym c.is_signed.ensures ∙ c.if-is_signed.false)
    c.ranges.a.fits c.ranges.b.fits c.if-b-eq0.false
