use Rattle.std.proofs.Common.{arith}
use Rattle.cap_concentrate.proofs.Leading.{leading_exponent, takes_exponent, takes_next}
use Rattle.cap_concentrate.proofs.rounding.bounds_exponent.Goals as goal

pub units_up-requires-clause-shift_in_range : goal.units_up-requires-clause-shift_in_range
units_up-requires-clause-shift_in_range c =
    let l = leading_exponent c.args.len (omega arith) (omega arith) in omega (arith, l.0)

pub overflow_shr-base : goal.overflow_shr-base
overflow_shr-base c = let l = leading_exponent c.args.len (omega arith) (omega arith) in omega (arith, l.0)

pub returns-then-units_up-from-clause-value : goal.returns-then-units_up-from-clause-value
returns-then-units_up-from-clause-value c =
    takes_exponent c.args.base c.args.len _ (leading_exponent c.args.len (omega arith) (omega arith)).1
    (rw (c.units_up.ensures, c.from.ensures, c.from-2.ensures, c.from-3.ensures) at c.if-units_up-from.true)

pub returns-then-units_up-from-clause-bound : goal.returns-then-units_up-from-clause-bound
returns-then-units_up-from-clause-bound c =
    let l = leading_exponent c.args.len (omega arith) (omega arith) in omega (arith, l.0)

pub returns-else-units_up-from-clause-value : goal.returns-else-units_up-from-clause-value
returns-else-units_up-from-clause-value c =
    let l = leading_exponent c.args.len (omega arith) (omega arith) in
    takes_next c.args.base c.args.len _ l.1 l.0
    (rw (c.units_up.ensures, c.from.ensures, c.from-2.ensures, c.from-3.ensures) at c.if-units_up-from.false)

pub returns-else-units_up-from-clause-bound : goal.returns-else-units_up-from-clause-bound
returns-else-units_up-from-clause-bound c =
    let l = leading_exponent c.args.len (omega arith) (omega arith) in omega (arith, l.0)
