use mir.Val.{SFits}
use Rattle.std.proofs.Common.{ℤ, w32, to_z, of_z, rules, subst, sym}
use Rattle.std.proofs.lemmas.Int.{to_z-of_z}
use Rattle.cap_machine.specs.Integers.{extended}
use Rattle.purecap_abi.proofs.Ranges.{on_ok}
use Rattle.select_words.specs.Emitted.{IsNumber}
use Rattle.rv_select.specs.Choosing.{chosen}
use Rattle.rv_select.proofs.Compared as compared
use Rattle.rv_select.proofs.comparisons.comparison.Goals as goal

pub returns-then-compares_zero-clause-words : goal.returns-then-compares_zero-clause-words
returns-then-compares_zero-clause-words c =
    let a = c.args in
    let v = c.in-Some.number in
    let fits : SFits w32 v = search rules in
    let is = subst (λ (x : ℤ). IsNumber (chosen a.f.now) a.b (extended x)) (sym (to_z-of_z w32 v fits))
    c.in-Some.ensures.is in
    let zero = c.compares_zero.ensures c.if-compares_zero.true in
    on_ok c.with_zero.result _ _ c.with_zero.ensures.words
    (λ p h g n. compared.with_zero (chosen a.f.now) a.op a.kind a.to a.a a.b a.code.now c.with_zero.new.code
    (to_z w32 (of_z w32 v)) zero.1 is (p h g))

pub returns-else-compares_zero-clause-words : goal.returns-else-compares_zero-clause-words
returns-else-compares_zero-clause-words c =
    let a = c.args in
    let v = c.in-Some.number in
    let fits : SFits w32 v = search rules in
    let is = subst (λ (x : ℤ). IsNumber (chosen a.f.now) a.b (extended x)) (sym (to_z-of_z w32 v fits))
    c.in-Some.ensures.is in
    on_ok c.with_number.result _ _ c.with_number.ensures.words
    (λ p h g n. compared.with_number (chosen a.f.now) a.op a.kind a.to a.a a.b a.code.now c.with_number.new.code
    (to_z w32 (of_z w32 v)) c.compares_signed-signed.result c.compares_signed-signed.ensures is (p h g))

pub returns-in-None-clause-words : goal.returns-in-None-clause-words
returns-in-None-clause-words c =
    let a = c.args in
    on_ok c.of_registers.result _ _ c.of_registers.ensures.words
    (λ p h g n. compared.of_registers (chosen a.f.now) a.op a.kind a.to a.a a.b a.code.now c.of_registers.new.code
    c.compares_signed-signed.result c.compares_signed-signed.ensures (p h g n))
