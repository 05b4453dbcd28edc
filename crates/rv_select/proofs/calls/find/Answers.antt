use Rattle.std.proofs.Common.{◌≡◌, ◌+◌, ◌*◌, ◌<◌, ◌++◌, refl, ap, ◌∙◌, arith}
use Rattle.purecap_abi.proofs.Ranges.{on_ok}
use Rattle.purecap_abi.specs.Words.{load_code}
use Rattle.select_words.specs.Calling.{FindsEntry}
use Rattle.rv_emit.specs.Growing.{Puts, reach}
use Rattle.rv_emit.proofs.Appended.{puts_all}
use Rattle.rv_select.proofs.calls.find.Goals as goal

pub returns-clause-words : goal.returns-clause-words
returns-clause-words c =
    let a = c.args in
    let from = c.from.ensures in
    let plus = c.saturating_add.ensures in
    on_ok c.table_entry.result _ _ c.table_entry.ensures.text
    (λ e lt.
    let same : c.saturating_add.result ≡ a.table.functions + a.fun = omega (arith, from, plus, lt) in
    let low : 16 * c.saturating_add.result < reach = omega (arith, same, lt) in
    let entry = 16 * (a.table.functions + a.fun) in
    puts_all (FindsEntry (a.table.functions + a.fun)) a.code.now c.table_entry.new.code (load_code 31 3 entry 31)
    (e low ∙ ap (λ r. a.code.now.text ++ load_code r 3 (16 * c.saturating_add.result) r) c.way.ensures
    ∙ ap (λ n. a.code.now.text ++ load_code 31 3 (16 * n) 31) same) (lt, refl))
