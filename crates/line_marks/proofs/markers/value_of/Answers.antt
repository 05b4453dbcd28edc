use Rattle.std.proofs.Common.{arith}
use Rattle.line_marks.proofs.Digits.{front_too_large}
use Rattle.line_marks.proofs.markers.value_of.Goals as goal

pub returns-in_err-checked_mul : goal.returns-in_err-checked_mul
returns-in_err-checked_mul c =
    let large = c.in_err-checked_mul.ensures in
    rw c.from_residual.ensures (front_too_large c.args.digits.now c.loop-b.b-index (omega arith)
    (rw (← c.loop-b.invariant.number) (omega (arith, large))))

pub returns-in_err-value : goal.returns-in_err-value
returns-in_err-value c =
    let product = c.in_ok-checked_mul.ensures in
    let large = rw (product.1, c.from.ensures, c.digit_of.ensures) at c.in_err-value.ensures in
    rw c.from_residual-in_err-value.ensures (front_too_large c.args.digits.now c.loop-b.b-index
    (omega arith) (rw (← c.loop-b.invariant.number) (omega (arith, large))))
