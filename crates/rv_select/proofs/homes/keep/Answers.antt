use Rattle.std.proofs.Common.{[], ◌∷◌, ◌++◌, ap, sym, ◌∙◌}
use Rattle.rv_instr.specs.declared.instr.Instr.{Instr}
use Rattle.purecap_abi.proofs.Ranges.{on_ok}
use Rattle.rv_select.specs.Choosing.{chosen}
use Rattle.rv_select.proofs.Choices.{keep_needless, keep_moved, keep_stored}
use Rattle.rv_select.proofs.homes.keep.Goals as goal

pub returns-in-Number-clause-words : goal.returns-in-Number-clause-words
returns-in-Number-clause-words c = λ h.
    keep_needless (chosen c.args.f.now) c.args.t c.args.code.now c.args.code.now c.args.from c.in-Number.field-0
    (c.in-Number.ensures h.homed)

pub returns-in-Register-2-clause-words : goal.returns-in-Register-2-clause-words
returns-in-Register-2-clause-words c =
    let a = c.args in
    let r = c.in-Register.r in
    on_ok c.put.result _ _ c.put.ensures.text
    (λ e h. keep_moved (chosen a.f.now) a.t a.code.now c.put.new.self a.from r c.register.result h.reached
    (c.in-Register.ensures h.homed) (λ same. c.if-r-number.false (same ∙ sym c.number.ensures.value)) c.register.ensures
    (e ∙ ap (λ (i : Instr). a.code.now.text ++ i ∷ []) c.moving.ensures.is))

pub returns-in-Slot-clause-words : goal.returns-in-Slot-clause-words
returns-in-Slot-clause-words c =
    let a = c.args in
    on_ok c.store_far.result _ _ c.store_far.ensures.text
    (λ e h. keep_stored (chosen a.f.now) a.t a.code.now c.store_far.new.self a.from c.in-Slot.at c.way.result
    c.way.ensures h.reached (c.in-Slot.ensures h.homed) e)
