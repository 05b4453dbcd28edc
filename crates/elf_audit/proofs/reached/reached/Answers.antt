use Rattle.std.proofs.Common.{◌≡◌, ℕ, ◌<◌, ◌+◌, ◌*◌, ◌/◌, ◌==◌, ◌||◌, ◌++◌, List, Bool, false, length, take, drop, ap}
use Rattle.std.proofs.Common.{◌∙◌, arith}
use Rattle.std.specs.Prelude.{slice_index_or}
use Rattle.std.proofs.Math.Seq.{take-append_seam}
use Rattle.image_load.specs.Contained.{text_in}
use Rattle.elf_audit.specs.Rules.{is_target}
use Rattle.elf_audit.proofs.Noted.{entered, entry_moves, reached_by}
use Rattle.elf_audit.proofs.reached.reached.Goals as goal

pub returns-clause-each : goal.returns-clause-each
returns-clause-each c k below =
    let i = c.args.view.now in
    let x = i.text_base + 4 * k in
    let words = c.in_ok-words.words in
    let new : List Bool = c.note.new.reached in
    let rest : List Bool = drop (length new) words.items in
    let given : k < length c.as_mut_slice-reached.result.now =
    omega (arith, c.as_mut_slice-reached.ensures.len, c.in_ok-words.ensures.len, c.word_count.ensures) in
    let first : k < length c.note_targets.new.reached = omega (arith, c.note_targets.auto.reached) in
    let second : k < length c.note_entries.new.reached = omega (arith, c.note_entries.auto.reached) in
    let size : words.len ≡ length new =
    omega (
      arith,
      c.as_mut_slice-reached.ensures.len,
      c.in_ok-words.ensures.len,
      c.note.auto.reached,
      c.note_entries.auto.reached,
      c.note_targets.auto.reached,
    ) in
    let all : take words.len (new ++ rest) ≡ new = ap (λ n. take n (new ++ rest)) size ∙ take-append_seam new rest in
    let targets = is_target (text_in i) (length i.text / 4) x in
    let earlier = slice_index_or c.note_entries.new.reached k false in
    ap (λ (l : List Bool). slice_index_or l k false) all
    ∙ c.note.ensures k second
    ∙ ap (λ (e : ℕ). e == c.base_of.result + 4 * k || earlier) c.entry_of.ensures
    ∙ ap (λ (b : ℕ). i.entry == b + 4 * k || earlier) c.base_of.ensures
    ∙ ap (λ b. i.entry == x || b) (c.note_entries.ensures k first
    ∙ ap (λ b. entered i.relocs x || b) (c.note_targets.ensures k given))
    ∙ entry_moves (i.entry == x) (entered i.relocs x) targets
    ∙ reached_by i x
