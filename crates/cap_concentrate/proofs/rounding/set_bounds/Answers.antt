use Rattle.std.proofs.Common.{◌≡◌, ◌+◌, ◌-◌, ◌/◌, ◌^◌, sym, ◌∙◌, arith}
use Rattle.std.proofs.lemmas.Grind.{common_steps}
use Rattle.cap_concentrate.proofs.Least.{least_functions}
use Rattle.cap_concentrate.proofs.Encoded.{short_encoded}
use Rattle.cap_concentrate.proofs.Requests.{short_base, short_top, long_base, long_top, long_fields, request_decodes}
use Rattle.cap_concentrate.proofs.Requests.{request_exact}
use Rattle.cap_concentrate.proofs.rounding.set_bounds.Goals as goal

-- ---- the short form
sum_is : (c : goal.After-result-1) → c.from.result + c.from-2.result ≡ c.args.base + c.args.len
sum_is c = omega arith

pub returns-then-len-lt4096-clause-base : goal.returns-then-len-lt4096-clause-base
returns-then-len-lt4096-clause-base c = sym (short_base c.args.base c.args.len (omega arith))

pub returns-then-len-lt4096-clause-top : goal.returns-then-len-lt4096-clause-top
returns-then-len-lt4096-clause-top c = sum_is c ∙ sym (short_top c.args.base c.args.len (omega arith))

pub returns-then-len-lt4096-clause-encoded : goal.returns-then-len-lt4096-clause-encoded
returns-then-len-lt4096-clause-encoded c = short_encoded c.args.base _ (omega arith)

pub returns-then-len-lt4096-clause-decodes_base : goal.returns-then-len-lt4096-clause-decodes_base
returns-then-len-lt4096-clause-decodes_base c =
    (request_decodes c.args.base c.args.len (omega arith) (omega arith) _ _ _ _ _
    (returns-then-len-lt4096-clause-encoded c) (returns-then-len-lt4096-clause-base c)
    (returns-then-len-lt4096-clause-top c)).0

pub returns-then-len-lt4096-clause-decodes_top : goal.returns-then-len-lt4096-clause-decodes_top
returns-then-len-lt4096-clause-decodes_top c =
    (request_decodes c.args.base c.args.len (omega arith) (omega arith) _ _ _ _ _
    (returns-then-len-lt4096-clause-encoded c) (returns-then-len-lt4096-clause-base c)
    (returns-then-len-lt4096-clause-top c)).1

-- ---- the internal form
high_is : (c : goal.After-result-2-1) →
    c.units_up-high.result ≡ (c.args.base + c.args.len + (2 ^ (c.bounds_exponent-e.result + 3) - 1)) / 2 ^
    (c.bounds_exponent-e.result + 3)
high_is c = rw (c.from.ensures, c.from-2.ensures) at c.units_up-high.ensures

pub returns-clause-base : goal.returns-clause-base
returns-clause-base c = long_base c.args.base c.args.len _ _ c.bounds_exponent-e.ensures.value (high_is c) (omega arith)
    (omega arith)

pub returns-clause-top : goal.returns-clause-top
returns-clause-top c = long_top c.args.base c.args.len _ _ c.bounds_exponent-e.ensures.value (high_is c) (omega arith)
    (omega arith)

pub returns-clause-least : goal.returns-clause-least
returns-clause-least c = rw (returns-clause-base c, returns-clause-top c)
    (least_functions c.args.base (c.args.base + c.args.len) (omega arith) (omega arith))

pub returns-clause-aligned : goal.returns-clause-aligned
returns-clause-aligned c n is multiple =
    let exact = request_exact c.args.base c.args.len n (omega arith) is multiple in
    let base_is = returns-clause-base c ∙ exact.0 in
    let top_is = returns-clause-top c ∙ exact.1 in
    grind (arith, common_steps, base_is, top_is)

pub returns-clause-encoded : goal.returns-clause-encoded
returns-clause-encoded c =
    long_fields c.args.base c.args.len _ _ c.bounds_exponent-e.ensures.value (high_is c) (omega arith) (omega arith)

pub returns-clause-decodes_base : goal.returns-clause-decodes_base
returns-clause-decodes_base c =
    (request_decodes c.args.base c.args.len (omega arith) (omega arith) _ _ _ _ _ (returns-clause-encoded c)
    (returns-clause-base c) (returns-clause-top c)).0

pub returns-clause-decodes_top : goal.returns-clause-decodes_top
returns-clause-decodes_top c =
    (request_decodes c.args.base c.args.len (omega arith) (omega arith) _ _ _ _ _ (returns-clause-encoded c)
    (returns-clause-base c) (returns-clause-top c)).1
