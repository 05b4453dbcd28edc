use Rattle.std.proofs.Common.{◌≡◌, ◌∙◌, ◌/◌, ◌<◌, ◌^◌, subst, sym, arith}
use Rattle.purecap_abi.proofs.Ranges.{on_ok}
use Rattle.rv_select.specs.Choosing.{chosen}
use Rattle.rv_emit.specs.Growing.{Puts}
use Rattle.rv_idioms.specs.Copies.{Twice, RoundWords}
use Rattle.rv_emit.proofs.Appended.{on_both}
use Rattle.rv_select.proofs.Units.{copied_nothing, copied_one, copied_round}
use Rattle.rv_select.proofs.memory.copy_units.Goals as goal

pub returns-then-units-eq0-clause-words : goal.returns-then-units-eq0-clause-words
returns-then-units-eq0-clause-words c =
    let a = c.args in
    let e = a.ends in
    λ f g unit few. copied_nothing (chosen a.f.now) e.from e.to a.bytes a.unit e.from_pos e.to_pos a.code.now
    (sym (c.units_of-units.ensures unit) ∙ c.if-units-eq0.true)

pub returns-then-units-eq1-clause-words : goal.returns-then-units-eq1-clause-words
returns-then-units-eq1-clause-words c =
    let a = c.args in
    let e = a.ends in
    on_both c.copy_unit.result _ _ _ c.copy_unit.ensures.text c.copy_unit.ensures.links
    (λ t l f g unit few.
    let one : a.bytes / a.unit ≡ 1 = sym (c.units_of-units.ensures unit) ∙ c.if-units-eq1.true in
    copied_one (chosen a.f.now) e.from e.to a.bytes a.unit c.left.result c.right.result e.from_pos e.to_pos a.code.now
    c.bring.new.code c.bring-2.new.code c.copy_unit.new.code c.left.ensures c.right.ensures
    (λ lt. c.in_ok-bring.ensures.words lt f) (λ lt. c.in_ok-bring-2.ensures.words lt g)
    (c.in_ok-bring-2.ensures.size.2 ∙ c.in_ok-bring.ensures.size.2) one t l)

pub returns-clause-words : goal.returns-clause-words
returns-clause-words c =
    let a = c.args in
    let e = a.ends in
    on_ok c.copy_loop.result _ _ c.copy_loop.ensures.words
    (λ r f g unit few.
    let is = c.units_of-units.ensures unit in
    let low : c.units_of-units.result < 2 ^ 31 = omega (arith, is, few) in
    let some : 0 < a.bytes / a.unit = omega (arith, is, c.if-units-eq0.false) in
    copied_round (chosen a.f.now) e.from e.to a.bytes a.unit c.left.result c.right.result e.from_pos e.to_pos a.code.now
    c.bring.new.code c.bring-2.new.code c.copy_loop.new.code c.left.ensures c.right.ensures
    (λ lt. c.in_ok-bring.ensures.words lt f) (λ lt. c.in_ok-bring-2.ensures.words lt g)
    (c.in_ok-bring-2.ensures.size.2 ∙ c.in_ok-bring.ensures.size.2) some few
    (subst (λ n. Puts (RoundWords (Twice c.bring-2.new.code c.copy_loop.new.code e.from_pos e.to_pos) n a.unit)
    c.bring-2.new.code c.copy_loop.new.code) is (r low)))
