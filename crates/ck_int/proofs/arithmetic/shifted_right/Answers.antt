use Rattle.std.proofs.Common.{◌∙◌, ◌^◌, sym, ap}
use Rattle.std.specs.Int.{cast_signed, cast_unsigned, w64}
use Rattle.std.specs.Int.Signed.{shr_z}
use Rattle.ck_int.specs.Kinds.{form_of}
use Rattle.ck_int.proofs.WordLaws.{signed_operand, signed_shift, unsigned_shift}
use Rattle.ck_int.proofs.arithmetic.shifted_right.Goals as goal

pub returns-then-is_signed : goal.returns-then-is_signed
returns-then-is_signed c =
    let f = form_of c.args.kind in
    let m = 2 ^ c.args.count in
    let signed = sym c.is_signed.ensures ∙ c.if-is_signed.true in
    c.cast_unsigned.ensures
    ∙ ap (λ z. cast_unsigned w64 (cast_signed w64 (cast_unsigned w64 (shr_z z m))))
    (signed_operand f c.args.a _ signed c.ranges.a.fits c.cast_signed.ensures)
    ∙ signed_shift f c.args.a m signed c.ranges.a.fits

pub returns-else-is_signed : goal.returns-else-is_signed
returns-else-is_signed c =
    unsigned_shift (form_of c.args.kind) c.args.a (2 ^ c.args.count) (sym c.is_signed.ensures ∙ c.if-is_signed.false)
    c.ranges.a.fits
