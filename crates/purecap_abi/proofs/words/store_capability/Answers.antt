use Rattle.std.specs.Prelude.{nat_lt}
use Rattle.purecap_abi.specs.Words.{store_code}
use Rattle.purecap_abi.proofs.Ranges.{on_ok, appends_few, store_few}
use Rattle.purecap_abi.proofs.words.store_capability.Goals as goal

pub returns-clause-words : goal.returns-clause-words
returns-clause-words c =
    let a = c.args in
    on_ok c.store_words.result _ _ c.store_words.ensures
    (λ e. appends_few (nat_lt a.offset 2048) a.code.now.items c.store_words.new.code.items
    (store_code a.from a.base a.offset a.scratch) e
    (store_few a.from a.base a.offset a.scratch c.known.ensures c.known-2.ensures c.known-3.ensures))
