use mir.Val.{SFits}
use Rattle.std.proofs.Common.{◌≢◌, [], ◌∷◌, ◌++◌, ap, ◌∙◌, w32, rules, arith}
use Rattle.std.proofs.lemmas.Int.{to_z-of_z}
use Rattle.rv_instr.specs.declared.instr.Instr.{Instr}
use Rattle.purecap_abi.proofs.Ranges.{on_ok}
use Rattle.rv_select.specs.Choosing.{chosen}
use Rattle.rv_select.proofs.Choices.{bring_made, bring_moved, bring_loaded}
use Rattle.rv_select.proofs.homes.bring.Goals as goal

pub returns-in-Number-clause-words : goal.returns-in-Number-clause-words
returns-in-Number-clause-words c =
    let a = c.args in
    let v = c.in-Number.v in
    let fits : SFits w32 v = search rules in
    on_ok c.number.result _ _ c.number.ensures.text
    (λ e lt h. bring_made (chosen a.f.now) a.t a.code.now c.number.new.self a.to v _ (to_z-of_z w32 v fits)
    (c.in-Number.ensures h.homed) (e lt))

pub returns-in-Register-2-clause-words : goal.returns-in-Register-2-clause-words
returns-in-Register-2-clause-words c =
    let a = c.args in
    let r = c.in-Register.r in
    let apart : r ≢ a.to = omega arith in
    on_ok c.put.result _ _ c.put.ensures.text
    (λ e lt h. bring_moved (chosen a.f.now) a.t a.code.now c.put.new.self a.to r c.register.result h.reached
    (c.in-Register.ensures h.homed) apart c.register.ensures
    (e ∙ ap (λ (i : Instr). a.code.now.text ++ i ∷ []) c.moving.ensures.is))

pub returns-in-Slot-clause-words : goal.returns-in-Slot-clause-words
returns-in-Slot-clause-words c =
    let a = c.args in
    on_ok c.load_far.result _ _ c.load_far.ensures.text
    (λ e lt h. bring_loaded (chosen a.f.now) a.t a.code.now c.load_far.new.self a.to c.in-Slot.at h.reached
    (c.in-Slot.ensures h.homed) e)
