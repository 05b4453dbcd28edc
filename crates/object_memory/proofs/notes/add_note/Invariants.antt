use Rattle.std.proofs.Common.{◌≡◌, ◌++◌, take, drop, map}
use Rattle.obj_mem.specs.Objects.{noted}
use Rattle.object_memory.specs.Notes.{note_of}
use Rattle.object_memory.proofs.notes.add_note.Given as goal

abbrev pub invariant-loop-k : goal.invariant-loop-k
invariant-loop-k l =
    (map note_of (take l.k l.notes.items) ++ noted (map note_of (drop l.k l.notes.items)) l.object l.low l.high l.own
    ≡ noted (map note_of l.notes.items) l.object l.low l.high l.own)
    × (l.notes.items ≡ l.fn.notes.items)
