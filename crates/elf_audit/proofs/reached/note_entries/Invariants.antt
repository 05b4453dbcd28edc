use Rattle.std.proofs.Common.{◌≡◌, ℕ, ◌+◌, ◌-◌, ◌*◌, ◌<◌, length, drop, false}
use Rattle.std.specs.Prelude.{◌||◌, map, slice_index_or}
use Rattle.std.specs.List.{filter}
use Rattle.image_load.specs.Judging.{address_of}
use Rattle.image_load.specs.Contained.{executes}
use Rattle.elf_audit.specs.Rules.{is_among}
use Rattle.elf_audit.proofs.reached.note_entries.Given as goal

-- those that are still to come, and those that were noted
abbrev pub invariant-loop-r : goal.invariant-loop-r
invariant-loop-r l = (j : ℕ) → j < length l.reached →
    (is_among (map address_of (filter executes (drop l.k l.view.relocs))) (l.view.text_base + 4 * j)
    || slice_index_or l.reached j false)
    ≡ (is_among (map address_of (filter executes l.view.relocs)) (l.view.text_base + 4 * j)
    || slice_index_or l.fn.reached j false)

abbrev pub decreases-loop-r : goal.decreases-loop-r
decreases-loop-r l = length l.view.relocs - l.k
