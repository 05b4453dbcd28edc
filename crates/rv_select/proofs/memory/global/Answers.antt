use Rattle.std.proofs.Common.{◌≡◌, ◌+◌, ◌*◌, ◌<◌, Bool, ap, subst, ◌∙◌, arith, if◌then◌else◌}
use Rattle.purecap_abi.proofs.Ranges.{on_ok}
use Rattle.select_words.specs.Capabilities.{EntryWords}
use Rattle.rv_select.specs.Choosing.{chosen}
use Rattle.rv_emit.specs.Growing.{Puts, reach}
use Rattle.rv_select.proofs.memory.global.Goals as goal
use Rattle.rv_select.proofs.memory.global.Goals.{then-literal, else-literal}

pub returns-clause-words : goal.returns-clause-words
returns-clause-words c =
    let a = c.args in
    let literals = a.f.now.entries.literals in
    let number = if a.literal then literals + a.number else a.number in
    let from = c.from.ensures in
    let plus = c.saturating_add.ensures in
    let which : number ≡ c.if-literal.before + a.number = elim c.if-literal.branch [
      | then-literal w ↦
          let e = w.before-is in
          ap (λ (b : Bool). if b then literals + a.number else a.number) w.if-literal.true ∙ omega (arith, e)
      | else-literal w ↦
          let e = w.before-is in
          ap (λ (b : Bool). if b then literals + a.number else a.number) w.if-literal.false ∙ omega (arith, e)
    ] in
    on_ok c.entry.result _ _ c.entry.ensures.words
    (λ e h lt.
    let same : c.saturating_add.result ≡ number = omega (arith, from, plus, lt, which) in
    let low : 16 * c.saturating_add.result < reach = omega (arith, same, lt) in
    subst (λ n. Puts (EntryWords (chosen a.f.now) a.to n) a.code.now c.entry.new.code) same (e h low))
