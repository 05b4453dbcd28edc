-- The own lengths that the code notes, as the definitions say them.
use Rattle.obj_mem.specs.Objects.{Note}
use Rattle.object_memory.specs.declared.notes.Note as kept

abbrev pub note_of : kept.Note → Note
note_of n = record { object = n.object; low = n.low; high = n.high; own = n.own }
