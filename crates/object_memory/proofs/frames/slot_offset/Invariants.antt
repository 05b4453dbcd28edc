use Rattle.std.proofs.Common.{◌≡◌, ◌==◌, drop}
use Rattle.std.specs.Prelude.{find}
use Rattle.cheri_c_sem.specs.Modes.{slot_offset}
use Rattle.obj_mem.specs.declared.map.Slot.{Slot}
use Rattle.obj_mem.specs.Legal.{slot_of}
use Rattle.object_memory.proofs.frames.slot_offset.Given as goal

abbrev pub invariant-slots : goal.invariant-slots
invariant-slots l = slot_offset (find (λ (s : Slot). s.var == l.n) (drop l.s-index l.f.slots))
    ≡ slot_offset (slot_of l.f l.n)
