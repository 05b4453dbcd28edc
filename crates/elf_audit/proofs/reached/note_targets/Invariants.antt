use Rattle.std.proofs.Common.{◌≡◌, ℕ, ◌+◌, ◌*◌, ◌<◌, length, false}
use Rattle.std.specs.Prelude.{slice_index_or}
use Rattle.image_load.specs.Contained.{text_in}
use Rattle.elf_audit.specs.Rules.{is_target}
use Rattle.elf_audit.proofs.reached.note_targets.Given as goal

abbrev pub invariant-loop-k : goal.invariant-loop-k
invariant-loop-k l = (j : ℕ) → j < length l.reached →
    slice_index_or l.reached j false ≡ is_target (text_in l.view) l.k (l.view.text_base + 4 * j)
