use Rattle.purecap_abi.proofs.Ranges.{on_ok}
use Rattle.rv_select.proofs.calls.call.Goals as goal

pub returns-clause-words : goal.returns-clause-words
returns-clause-words c =
    on_ok c.near_call.result _ _ c.near_call.ensures.words (λ words args some reaches. words args some)
