use Rattle.std.proofs.Common.{◌-◌, arith, rules, string_bytes}
use Rattle.build_text.proofs.Grown.{no_digits, one_digit}
use Rattle.build_text.proofs.listing.+push_digits.Goals as goal

pub returns-then-count-eq0 : goal.returns-then-count-eq0
returns-then-count-eq0 t c = no_digits _ _ _ (search rules)

pub returns : goal.returns
returns t c = one_digit _ _ _ _ (c.args.count - 1) _ (omega (arith, c.if-count-eq0.false)) c.in_ok-push_digits.ensures
    (search rules)
