use Rattle.std.proofs.Common.{◌≡◌, ◌+◌, ◌*◌, ◌<◌, subst, arith}
use Rattle.purecap_abi.proofs.Ranges.{on_ok}
use Rattle.select_words.specs.Capabilities.{EntryWords}
use Rattle.rv_select.specs.Choosing.{chosen}
use Rattle.rv_emit.specs.Growing.{Puts, reach}
use Rattle.rv_select.proofs.memory.function.Goals as goal

pub returns-clause-words : goal.returns-clause-words
returns-clause-words c =
    let a = c.args in
    let from = c.from.ensures in
    let plus = c.saturating_add.ensures in
    on_ok c.entry.result _ _ c.entry.ensures.words
    (λ e h lt.
    let same : c.saturating_add.result ≡ a.f.now.entries.functions + a.fun = omega (arith, from, plus, lt) in
    let low : 16 * c.saturating_add.result < reach = omega (arith, same, lt) in
    subst (λ n. Puts (EntryWords (chosen a.f.now) a.to n) a.code.now c.entry.new.code) same (e h low))
