use Rattle.std.proofs.Common.{◌≡◌, ◌≤◌, length, sym, ap, subst, arith}
use Rattle.rv_emit.specs.Growing.{Size, AreEntries}
use Rattle.rv_select.specs.Selectable.{before, table_of}
use Rattle.rv_select.proofs.Together.{program_is_selected}
use Rattle.rv_select.proofs.selection.text.Goals as goal

pub returns-clause-selected : goal.returns-clause-selected
returns-clause-selected c = λ near small reaches all.
    let made = c.in_ok-words.ensures in
    let empty = c.new-code.ensures in
    let done = c.in_ok-words.field-0 in
    let long = done.words.ok.0 in
    program_is_selected (before c.args.p.now) (table_of c.entries_of-table.result) c.args.t.now.funs _
    c.args.places.now.items _ c.args.frames.now.items _ c.args.p.now.main c.args.far c.new-code.result _ _ _ _ _
    (c.entries_of-table.ensures small) c.as_slice.ensures c.as_slice-2.ensures.value c.as_slice-3.ensures.value
    (ap (λ (x : Size). x.text) empty) (ap (λ (x : Size). x.links) empty) c.in_ok-begin.ensures.begun
    c.in_ok-all_functions.ensures.put made.led (subst (λ n. AreEntries n done.entries.items) long made.entries)
    c.complete.ensures.far made.lines made.each (λ e. let n = near e in omega (arith, n, long)) reaches all
