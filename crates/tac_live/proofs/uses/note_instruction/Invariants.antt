use Rattle.std.proofs.Common.{◌≡◌, ℕ, ◌<◌, false, None, length, take, slice_index_or}
use Rattle.tac_live.specs.Uses.{noted}
use Rattle.tac_live.proofs.uses.note_instruction.Given as goal

abbrev pub invariant-loop-t : goal.invariant-loop-t
invariant-loop-t l = (k : ℕ) → k < length l.uses →
    slice_index_or l.uses k None ≡ noted l.place false (take l.t-index l.t-items) k
    (slice_index_or l.initial.uses k None)
