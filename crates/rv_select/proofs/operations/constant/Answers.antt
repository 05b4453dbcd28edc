use Rattle.std.proofs.Common.{sym}
use Rattle.purecap_abi.proofs.Ranges.{on_ok}
use Rattle.rv_select.specs.Choosing.{chosen}
use Rattle.rv_select.proofs.Choices.{constant_built}
use Rattle.rv_select.proofs.operations.constant.Goals as goal

pub returns-in_ok-long_number-in-None-clause-words : goal.returns-in_ok-long_number-in-None-clause-words
returns-in_ok-long_number-in-None-clause-words c =
    let a = c.args in
    on_ok c.keep.result _ _ c.keep.ensures.words
    (λ k h only. constant_built (chosen a.f.now) a.to a.code.now c.long_number.new.self c.keep.new.code a.value
    c.target-r.result h.reached (sym c.in-None.ensures) (c.target-r.ensures h)
    c.in_ok-long_number-in-None.ensures.text (k h))
