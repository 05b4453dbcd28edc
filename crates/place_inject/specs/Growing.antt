-- New objects: allocations, and the locals of a call.
use Rattle.std.specs.Prelude.{◌≡◌, ℕ, ◌-◌, ◌%◌, ◌^◌, ◌≤◌, List, length}
use Rattle.tag_mem.specs.Areas.{Area}
use Rattle.cap_concentrate.specs.Rounding.{owned}
use Rattle.obj_mem.specs.Values.{Addresses}
use Rattle.obj_mem.specs.Objects.{Memory, Placed, add, rest}
use Rattle.obj_mem.specs.Heap.{Allocation, placed_allocate}
use Rattle.obj_mem.specs.Legal.{Apart}
use Rattle.obj_mem.specs.Standing.{IsBased}
use Rattle.placement.specs.Memories.{IsClear}
use Rattle.place_inject.specs.Values.{IsKnown}
use Rattle.place_inject.specs.Objects.{ObjectsFit}
use Rattle.place_inject.specs.Parts.{HeapFits}

-- where a legal map has its heap
pub record HeapLies (a : Addresses) : Type 0 where
  pub from : 65536 ≤ a.heap
  pub to : a.heap_end ≤ 2 ^ 40
  pub aligned : a.heap_end % 16 ≡ 0
  pub off_text : Apart a.heap (a.heap_end - a.heap) a.text (a.text_end - a.text)

-- What `malloc` gives: the objects stand as before, the new one by the zeros of the heap, and the rest of the heap is
-- zero
pub record Allocated (functions : ℕ) (a : Addresses) (memory : List Area) (r : Allocation) : Type 0 where
  pub objects : ObjectsFit functions a r.memory memory
  pub heap : HeapFits a r.heap r.memory.shapes memory
  pub pointer : IsKnown r.memory.shapes functions r.pointer

abbrev pub AllocationsFit : Type 0
AllocationsFit = (functions : ℕ) (a : Addresses) (m : Memory) (memory : List Area) (next : ℕ) → HeapLies a
    → ObjectsFit functions a m memory → HeapFits a next m.shapes memory
    → (n : ℕ) → Allocated functions a memory (placed_allocate a m next n)

-- A local, of which the machine knows nothing before its block is entered, where it is placed apart from all else
abbrev pub LocalsFitIn : Type 0
LocalsFitIn = (functions : ℕ) (a : Addresses) (m : Memory) (memory : List Area) → ObjectsFit functions a m memory
    → (n base : ℕ) → IsBased base (owned n) n → base % 16 ≡ 0 → IsClear m.shapes base (owned n)
    → Apart base (owned n) a.text (a.text_end - a.text)
    → ObjectsFit functions a (rest (add (Placed a) m n base) (length m.shapes)) memory
