use Rattle.std.specs.Prelude.{nat_lt}
use Rattle.purecap_abi.specs.Words.{moved_code}
use Rattle.purecap_abi.proofs.Ranges.{on_ok, appends_few, moved_few}
use Rattle.purecap_abi.proofs.words.moved.Goals as goal

pub returns-clause-words : goal.returns-clause-words
returns-clause-words c =
    let a = c.args in
    on_ok c.move_base_words.result _ _ c.move_base_words.ensures
    (λ e. appends_few (nat_lt a.offset 2048) a.code.now.items c.move_base_words.new.code.items
    (moved_code a.to a.base a.offset) e (moved_few a.to a.base a.offset c.known.ensures c.known-2.ensures))
