-- What an allocation answers and leaves.
use Rattle.std.specs.Prelude.{◌≡◌, ℕ, ◌^◌, ◌<◌, Result, Ok, Err}
use Rattle.obj_mem.specs.declared.ending.Fault.{Fault}
use Rattle.obj_mem.specs.declared.value.Value as public
use Rattle.obj_mem.specs.Heap.{Allocation}
use Rattle.obj_mem.specs.Objects.{Memory, Mode, Placed, Strict}
use Rattle.obj_mem.specs.Values.{value_of}
use Rattle.object_memory.specs.declared.memory.AllocateFault as refused
use Rattle.object_memory.specs.declared.memory.AllocateFault.TheVariants as refusal

-- a map's heap ends below 2^63
abbrev pub HasHeap : Mode → Type 0
HasHeap (Placed a) = a.heap_end < 2 ^ 63
HasHeap Strict = Unit {0}

-- Memory and heap, against an allocation that is meant: as it leaves them; as they were, with the fault that is meant;
-- or as they were, for want of memory
abbrev pub Allocates : Result Allocation Fault → Memory → ℕ → Result public.Value refused.AllocateFault → Memory → ℕ →
    Type 0
Allocates (Ok a) before heap (Ok v) after heap' = (value_of v ≡ a.pointer) × (after ≡ a.memory) × (heap' ≡ a.heap)
Allocates (Ok a) before heap (Err refusal.NoMemory) after heap' = (after ≡ before) × (heap' ≡ heap)
Allocates (Ok a) before heap (Err (refusal.Fault f)) after heap' = ⊥
Allocates (Err e) before heap (Err (refusal.Fault f)) after heap' = (f ≡ e) × (after ≡ before) × (heap' ≡ heap)
Allocates (Err e) before heap (Err refusal.NoMemory) after heap' = ⊥
Allocates (Err e) before heap (Ok v) after heap' = ⊥
