use Rattle.purecap_abi.proofs.Ranges.{on_ok}
use Rattle.rv_select.proofs.Zeroed.{zero_of}
use Rattle.rv_select.proofs.memory.zero.Goals as goal

pub returns-clause-words : goal.returns-clause-words
returns-clause-words c =
    let a = c.args in
    on_ok c.zero_object.result _ _ c.zero_object.ensures.words
    (λ p h. zero_of a.f.now a.var c.object-object.result a.code.now c.zero_object.new.code c.object-object.ensures h p)
