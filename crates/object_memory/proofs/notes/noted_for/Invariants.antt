use Rattle.std.proofs.Common.{◌≡◌, drop, map}
use Rattle.std.specs.Prelude.{find}
use Rattle.obj_mem.specs.Objects.{is_note_of}
use Rattle.object_memory.specs.Notes.{note_of}
use Rattle.object_memory.proofs.notes.noted_for.Given as goal

abbrev pub invariant-loop-k : goal.invariant-loop-k
invariant-loop-k l =
    find (is_note_of l.object l.low l.high) (map note_of (drop l.k l.notes))
    ≡ find (is_note_of l.object l.low l.high) (map note_of l.notes)
