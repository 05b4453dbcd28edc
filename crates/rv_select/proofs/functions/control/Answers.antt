use Rattle.purecap_abi.proofs.Ranges.{on_ok}
use Rattle.rv_select.specs.Choosing.{chosen}
use Rattle.rv_emit.proofs.Appended.{on_both}
use Rattle.rv_select.proofs.Controls.{label_selected, jump_selected, return_selected, service_selected}
use Rattle.rv_select.proofs.functions.control.Goals as goal

pub returns-in-Label-clause-words : goal.returns-in-Label-clause-words
returns-in-Label-clause-words c =
    let a = c.args in
    rw c.in-Label.is (on_ok c.label.result _ _ c.label.ensures.links
    (λ m h. label_selected (chosen a.f.now) a.code.now c.label.new.self _ c.label.ensures.text m))

pub returns-in-Jump-clause-words : goal.returns-in-Jump-clause-words
returns-in-Jump-clause-words c =
    let a = c.args in
    rw c.in-Jump.is (on_both c.jump.result _ _ _ c.jump.ensures.text c.jump.ensures.links
    (λ e n h. jump_selected (chosen a.f.now) a.code.now c.jump.new.self _ e n))

pub returns-in-Branch-clause-words : goal.returns-in-Branch-clause-words
returns-in-Branch-clause-words c = rw c.in-Branch.is c.branch-code.ensures.words

pub returns-in-Return-clause-words : goal.returns-in-Return-clause-words
returns-in-Return-clause-words c =
    let a = c.args in
    rw c.in-Return.is (on_both c.leave.result _ _ _ c.leave.ensures.size c.leave.ensures.words
    (λ size w h. return_selected (chosen a.f.now) a.code.now c.leave.new.code _ (w h) size.2))

pub returns-in-Call-clause-words : goal.returns-in-Call-clause-words
returns-in-Call-clause-words c =
    rw (c.in-Call.is, ← c.as_slice.ensures) (on_ok c.call.result _ _ c.call.ensures.words (λ w h. w h.1 h.0 h.2))

pub returns-in-CallValue-clause-words : goal.returns-in-CallValue-clause-words
returns-in-CallValue-clause-words c =
    rw (c.in-CallValue.is, ← c.as_slice-in-CallValue.ensures)
    (on_ok c.call_value.result _ _ c.call_value.ensures.words (λ w h. w h.1 h.2 h.0))

pub returns-in-Lib-clause-words : goal.returns-in-Lib-clause-words
returns-in-Lib-clause-words c =
    let a = c.args in
    rw (c.in-Lib.is, ← c.as_slice-in-Lib.ensures)
    (on_both c.service.result _ _ _ c.service.ensures.size c.service.ensures.words
    (λ size w h. service_selected (chosen a.f.now) a.code.now c.service.new.code _ _ _ (w h.0 h.1 h.2) size.2))
