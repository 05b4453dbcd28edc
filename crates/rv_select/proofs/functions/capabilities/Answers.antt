use Rattle.rv_emit.proofs.Appended.{on_both}
use Rattle.rv_select.proofs.Controls.{passing}
use Rattle.rv_select.proofs.functions.capabilities.Goals as goal

pub returns-in-Cap-clause-words : goal.returns-in-Cap-clause-words
returns-in-Cap-clause-words c =
    let a = c.args in
    rw c.in-Cap.is (on_both c.capability.result _ _ _ c.capability.ensures.size c.capability.ensures.words
    (λ size w s. passing _ a.code.now c.capability.new.code (w s.0.chooses s.1 s.2) size.2))

pub returns-in-Offset-clause-words : goal.returns-in-Offset-clause-words
returns-in-Offset-clause-words c =
    let a = c.args in
    rw c.in-Offset.is (on_both c.offset.result _ _ _ c.offset.ensures.size c.offset.ensures.words
    (λ size w s. passing _ a.code.now c.offset.new.code (w s.0.chooses s.1 s.2) size.2))

pub returns-in-Narrow-clause-words : goal.returns-in-Narrow-clause-words
returns-in-Narrow-clause-words c =
    let a = c.args in
    rw c.in-Narrow.is (on_both c.narrow.result _ _ _ c.narrow.ensures.size c.narrow.ensures.words
    (λ size w s. passing _ a.code.now c.narrow.new.code (w s.0.chooses s.1 s.2) size.2))

pub returns-in-Local-clause-words : goal.returns-in-Local-clause-words
returns-in-Local-clause-words c =
    let a = c.args in
    rw c.in-Local.is (on_both c.local.result _ _ _ c.local.ensures.size c.local.ensures.words
    (λ size w s. passing _ a.code.now c.local.new.code (w s.0.chooses s.1) size.2))

pub returns-in-Global-clause-words : goal.returns-in-Global-clause-words
returns-in-Global-clause-words c =
    let a = c.args in
    rw c.in-Global.is (on_both c.global.result _ _ _ c.global.ensures.size c.global.ensures.words
    (λ size w s. passing _ a.code.now c.global.new.code (w s.0.chooses s.1) size.2))

pub returns-in-Function-clause-words : goal.returns-in-Function-clause-words
returns-in-Function-clause-words c =
    let a = c.args in
    rw c.in-Function.is (on_both c.function.result _ _ _ c.function.ensures.size c.function.ensures.words
    (λ size w s. passing _ a.code.now c.function.new.code (w s.0.chooses s.1) size.2))
