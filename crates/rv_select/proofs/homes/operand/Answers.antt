use mir.Val.{SFits}
use Rattle.std.proofs.Common.{◌≡◌, pos, ap, ◌∙◌, w32, rules}
use Rattle.std.proofs.lemmas.Int.{to_z-of_z}
use Rattle.rv_select.specs.declared.homes.Place.TheVariants as place
use Rattle.rv_select.specs.Choosing.{chosen}
use Rattle.rv_select.proofs.Choices.{operand_nothing, operand_made, operand_loaded}
use Rattle.rv_select.proofs.homes.operand.Goals as goal

pub returns-in-Number-eq0-clause-words : goal.returns-in-Number-eq0-clause-words
returns-in-Number-eq0-clause-words c = λ h.
    let a = c.args in
    let zero : c.in-Number-eq0.field-0 ≡ pos 0 = search rules in
    operand_nothing (chosen a.f.now) a.t a.code.now a.code.now a.scratch c.place.result (c.place.ensures h.homed)
    (c.in-Number-eq0.is ∙ ap place.Number zero)

pub returns-in_ok-number-in-Number-clause-words : goal.returns-in_ok-number-in-Number-clause-words
returns-in_ok-number-in-Number-clause-words c =
    let a = c.args in
    let v = c.in-Number.v in
    let fits : SFits w32 v = search rules in
    λ h. operand_made (chosen a.f.now) a.t a.code.now c.number.new.self a.scratch v _ (to_z-of_z w32 v fits)
    (c.in-Number.ensures h.homed) (c.in_ok-number-in-Number.ensures.text c.requires)

pub returns-in_ok-load_far-in-Slot-clause-words : goal.returns-in_ok-load_far-in-Slot-clause-words
returns-in_ok-load_far-in-Slot-clause-words c = λ h.
    let a = c.args in
    operand_loaded (chosen a.f.now) a.t a.code.now c.load_far.new.self a.scratch c.in-Slot.at h.reached
    (c.in-Slot.ensures h.homed) c.in_ok-load_far-in-Slot.ensures.text
