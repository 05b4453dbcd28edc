use Rattle.std.specs.Prelude.{nat_lt}
use Rattle.purecap_abi.specs.Words.{load_code}
use Rattle.purecap_abi.proofs.Ranges.{on_ok, appends_few, load_few}
use Rattle.purecap_abi.proofs.words.load_capability.Goals as goal

pub returns-clause-words : goal.returns-clause-words
returns-clause-words c =
    let a = c.args in
    on_ok c.load_words.result _ _ c.load_words.ensures
    (λ e. appends_few (nat_lt a.offset 2048) a.code.now.items c.load_words.new.code.items
    (load_code a.to a.base a.offset a.scratch) e
    (load_few a.to a.base a.offset a.scratch c.known.ensures c.known-2.ensures c.known-3.ensures))
