-- What is held of memory, in a mode.
use Rattle.std.specs.Prelude.{◌≡◌, ℕ, ◌+◌, ◌^◌, ◌<◌, ◌≤◌, Some, slice_get}
use Rattle.std.specs.Borrow.{Bor}
use Rattle.obj_mem.specs.declared.map.Frame.{Frame}
use Rattle.obj_mem.specs.declared.map.Map.{Map}
use Rattle.obj_mem.specs.declared.map.Mode as known
use Rattle.obj_mem.specs.declared.map.Mode.TheVariants as mode
use Rattle.cheri_c_sem.specs.Modes.{Plan, Store, placed_plan, strict_plan, local_offset}
use Rattle.object_memory.specs.declared.memory.Memory as kept
use Rattle.object_memory.specs.State.{memory_of}

abbrev pub store_of : kept.Memory → Store
store_of m = record { memory = memory_of m; heap = m.heap }

-- what a mode says beside the addresses of text and heap
abbrev pub plan_of : known.Mode → Plan
plan_of (mode.Placed m) = placed_plan m.now
plan_of mode.Strict = strict_plan

-- heap and stack end within their words, and what stands in a frame begins in it
abbrev pub IsRoomy : Map → Type 0
IsRoomy m = (m.heap.0 + m.heap.1 < 2 ^ 63) × (m.stack.0 + m.stack.1 < 2 ^ 64) ×
    ((f n : ℕ) (r : Frame) → slice_get m.frames f ≡ Some r → local_offset (Some r) n ≤ r.size)

abbrev pub IsRoomyIn : known.Mode → Type 0
IsRoomyIn d = (m : Bor Map) → d ≡ mode.Placed m → IsRoomy m.now
