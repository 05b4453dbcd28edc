-- Objects in the frame of the function at hand, and copies of structs.
use Rattle.std.specs.Prelude.{◌≡◌, ℕ, ◌^◌, ◌<◌, length, Some, slice_get}
use Rattle.obj_mem.specs.declared.map.Frame.{Frame}
use Rattle.obj_mem.specs.declared.map.Slot.{Slot}
use Rattle.obj_mem.specs.Legal.{slot_of}
use Rattle.rv_emit.specs.Growing.{reach}

-- words for an object are chosen where its slot stands at its number, and words lead to it
pub record HasObject (f : Frame) (var : ℕ) : Type 0 where
  pub slot : Slot
  pub is : slice_get f.slots var ≡ Some slot
  pub named : slot_of f var ≡ Some slot
  pub near : slot.at < reach
  pub short : slot.length < 2 ^ 31
