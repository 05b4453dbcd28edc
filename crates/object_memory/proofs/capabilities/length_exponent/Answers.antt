use Rattle.std.proofs.Common.{◌≡◌, ℕ, ◌+◌, ◌-◌, ◌<◌, ◌≤◌, ◌^◌, Bool, sym, ap, ◌∙◌, arith}
use Rattle.std.specs.Prelude.{nat_lt}
use Rattle.std.proofs.lemmas.Bool.{lt-ltb, le-ltb}
use Rattle.cap_concentrate.specs.Rounding.{first_from}
use Rattle.cap_concentrate.specs.Encoding.{length_exponent}
use Rattle.object_memory.proofs.Exponents.{first_more, first_here, first_last}
use Rattle.object_memory.proofs.capabilities.length_exponent.Goals as goal

pub loop-e-preserved : goal.loop-e-preserved
loop-e-preserved c =
    let test : ℕ → Bool = λ e. nat_lt c.args.length (2 ^ (e + 13)) in
    let long : 2 ^ (c.loop-e.e + 13) ≤ c.args.length = omega (arith, c.power.ensures, c.if-length-power.true) in
    let more = first_more test 52 c.loop-e.e c.loop-e-test.true (le-ltb c.args.length (2 ^ (c.loop-e.e + 13)) long) in
    (more ∙ c.loop-e.invariant.0, omega (arith, c.loop-e-test.true))

pub returns-else-length-power-clause-value : goal.returns-else-length-power-clause-value
unfolding length_exponent
returns-else-length-power-clause-value c =
    let test : ℕ → Bool = λ e. nat_lt c.args.length (2 ^ (e + 13)) in
    let short : c.args.length < 2 ^ (c.loop-e.e + 13) = omega (arith, c.power.ensures, c.if-length-power.false) in
    sym (first_here test 52 c.loop-e.e c.loop-e-test.true (lt-ltb c.args.length (2 ^ (c.loop-e.e + 13)) short))
    ∙ c.loop-e.invariant.0

pub returns-after-loop-e-clause-value : goal.returns-after-loop-e-clause-value
unfolding length_exponent
returns-after-loop-e-clause-value c =
    let test : ℕ → Bool = λ e. nat_lt c.args.length (2 ^ (e + 13)) in
    let last : c.loop-e.e ≡ 52 = omega (arith, c.loop-e-test.false, c.loop-e.invariant.1) in
    sym (ap (λ e. first_from test (52 - e) e) last ∙ first_last test 52 ∙ sym last) ∙ c.loop-e.invariant.0
