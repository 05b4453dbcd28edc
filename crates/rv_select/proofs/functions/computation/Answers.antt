use Rattle.std.proofs.Common.{◌<◌, ◌^◌, rules}
use Rattle.rv_emit.proofs.Appended.{on_both}
use Rattle.rv_select.proofs.Controls.{passing}
use Rattle.rv_select.proofs.functions.computation.Goals as goal

pub returns-in-Copy-clause-words : goal.returns-in-Copy-clause-words
returns-in-Copy-clause-words c =
    let a = c.args in
    rw c.in-Copy.is (on_both c.copy.result _ _ _ c.copy.ensures.size c.copy.ensures.words
    (λ size w s. passing _ a.code.now c.copy.new.code (w s.0.chooses s.0.stands s.1) size.2))

pub returns-in-Convert-clause-words : goal.returns-in-Convert-clause-words
returns-in-Convert-clause-words c =
    let a = c.args in
    rw c.in-Convert.is (on_both c.conversion.result _ _ _ c.conversion.ensures.size c.conversion.ensures.words
    (λ size w s. passing _ a.code.now c.conversion.new.code (w s.0.chooses s.0.stands s.1) size.2))

pub returns-in-Int-clause-words : goal.returns-in-Int-clause-words
returns-in-Int-clause-words c =
    let a = c.args in
    rw c.in-Int.is (on_both c.integer.result _ _ _ c.integer.ensures.size c.integer.ensures.words
    (λ size w s. passing _ a.code.now c.integer.new.code (w s.0.chooses s.1 s.2 s.3) size.2))

pub returns-in-Const-clause-words : goal.returns-in-Const-clause-words
returns-in-Const-clause-words c =
    let a = c.args in
    let fits : c.in-Const.value < 2 ^ 64 = search rules in
    rw c.in-Const.is (on_both c.constant.result _ _ _ c.constant.ensures.size c.constant.ensures.words
    (λ size w s.
    let p = w s.0 s.1 in
    record { added = p.added; is = p.is; are = (size.2, (fits, p.are)) }))

pub returns-in-Cmp-clause-words : goal.returns-in-Cmp-clause-words
returns-in-Cmp-clause-words c =
    let a = c.args in
    rw c.in-Cmp.is (on_both c.comparison.result _ _ _ c.comparison.ensures.size c.comparison.ensures.words
    (λ size w s. passing _ a.code.now c.comparison.new.code (w s.0.chooses s.1 s.2) size.2))
