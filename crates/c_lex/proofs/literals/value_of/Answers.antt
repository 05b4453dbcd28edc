use Rattle.std.proofs.Common.{take_all, ap, ◌∙◌, arith}
use Rattle.ck_base.specs.Literals.{value_of}
use Rattle.c_lex.proofs.Digits.{front_too_large}
use Rattle.c_lex.proofs.literals.value_of.Goals as goal

pub returns-in_err-checked_mul : goal.returns-in_err-checked_mul
returns-in_err-checked_mul c =
    let large = rw c.from.ensures at c.in_err-checked_mul.ensures in
    rw c.from_residual.ensures (front_too_large c.args.base c.args.digits.now c.loop-b.b-index c.requires (omega arith)
    (rw (← c.loop-b.invariant.number) (omega (arith, large))))

pub returns-in_err-value : goal.returns-in_err-value
returns-in_err-value c =
    let product = c.in_ok-checked_mul.ensures in
    let large = rw (product.1, c.from.ensures, c.from-in-loop-b.ensures, c.digit_of.ensures) at c.in_err-value.ensures
    in
    rw c.from_residual-in_err-value.ensures (front_too_large c.args.base c.args.digits.now c.loop-b.b-index c.requires
    (omega arith) (rw (← c.loop-b.invariant.number) (omega (arith, large))))

pub returns : goal.returns
returns c =
    let number = c.loop-b.invariant.number
    ∙ ap (value_of c.args.base) (take_all c.loop-b.b-index c.args.digits.now c.loop-b-test.false) in
    (rw (← number) c.loop-b.invariant.fits, number)
