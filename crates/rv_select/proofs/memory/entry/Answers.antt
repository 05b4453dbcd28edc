use Rattle.purecap_abi.proofs.Ranges.{on_ok}
use Rattle.rv_select.specs.Choosing.{chosen}
use Rattle.rv_select.proofs.Formed.{entry_of}
use Rattle.rv_select.proofs.memory.entry.Goals as goal

pub returns-clause-words : goal.returns-clause-words
returns-clause-words c =
    let a = c.args in
    on_ok c.keep.result _ _ c.keep.ensures.words
    (λ k h lt. entry_of (chosen a.f.now) a.to a.number a.code.now c.table_entry.new.code c.keep.new.code
    c.target-r.result lt (c.target-r.ensures h) c.in_ok-table_entry.ensures.text (k h))
