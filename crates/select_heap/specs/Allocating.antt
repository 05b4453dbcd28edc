-- Allocations in the whole injection: the heap's entry of the table is read, and stored back at the next free address.
use Rattle.std.specs.Prelude.{◌≡◌, ℕ, ◌+◌, ◌*◌, ◌≤◌, true, ℤ, List, Option}
use Rattle.cap_concentrate.specs.Rounding.{owned, rounded_up}
use Rattle.rv_instr.specs.declared.ops.StoreOp.TheVariants.{Csc}
use Rattle.tag_mem.specs.Areas.{Area}
use Rattle.cap_machine.specs.declared.end.Step.{Step}
use Rattle.cap_machine.specs.declared.end.Step.TheVariants.{Next}
use Rattle.cap_machine.specs.declared.machine.Machine.{Machine}
use Rattle.cap_machine.specs.Rows.{plus, set, clc_row, store_row}
use Rattle.cap_machine.specs.State.{register, next}
use Rattle.cheri_c_sem.specs.Modes.{Store}
use Rattle.cheri_c_sem.specs.Steps.{State}
use Rattle.obj_mem.specs.Heap.{Allocation, allocation_alignment, allocated}
use Rattle.obj_mem.specs.Legal.{IsLegal}
use Rattle.obj_mem.specs.Objects.{Placed}
use Rattle.obj_mem.specs.Pointers.{keeps}
use Rattle.obj_mem.specs.Table.{addresses_of, heap_entry}
use Rattle.place_inject.specs.Values.{IsKnown}
use Rattle.place_inject.specs.Parts.{heap_pointer}
use Rattle.place_inject.specs.Frames.{Setting, Point, functions_of}
use Rattle.place_inject.specs.Fits.{Fits}
use Rattle.place_inject.specs.Tables.{table_top, table_pointer}

-- ---- the heap's entry

-- where it stands
abbrev pub heap_place : Setting → ℕ
heap_place s = s.map.table.0 + 16 * heap_entry s.needs

-- `clc` of it, through the table's capability at any address that keeps the table's bounds: the heap's capability at
-- the next free address
abbrev pub HeapReadsBack : Type 0
HeapReadsBack = (s : Setting) → IsLegal s.needs s.map → (p : Option Point) (t : State Store) (m : Machine)
    → Fits s p t m → (n : Machine) → n.mem ≡ m.mem
    → (to from y : ℕ) (z : ℤ) → register n from ≡ table_pointer s y → keeps s.map.table.0 (table_top s) y ≡ true
    → plus y z ≡ heap_place s
    → clc_row n to from z ≡ set n to (heap_pointer (addresses_of s.map) t.mem.heap)

-- ---- an allocation

-- where an object of n bytes is placed, and the next free address behind it
abbrev pub placed_at : State Store → (n : ℕ) → ℕ
placed_at t n = rounded_up t.mem.heap (allocation_alignment n)

abbrev pub free_behind : State Store → (n : ℕ) → ℕ
free_behind t n = placed_at t n + owned n

-- the object is made
abbrev pub allocation_of : Setting → State Store → (n : ℕ) → Allocation
allocation_of s t n = allocated (Placed (addresses_of s.map)) t.mem.memory n (placed_at t n) (free_behind t n)

abbrev pub with_allocation : State Store → Allocation → State Store
with_allocation t r = record t { mem = record { memory = r.memory; heap = r.heap } }

-- The step goes on with another memory, and the machine stands for the state in which the object is there
pub record HasAllocated (s : Setting) (p : Option Point) (t : State Store) (m : Machine) (n : ℕ)
    (step : Step × Machine) : Type 0 where
  pub memory : List Area
  pub goes : step ≡ (Next, next (record m { mem = memory }))
  pub fits : Fits s p (with_allocation t (allocation_of s t n)) (next (record m { mem = memory }))
  pub known : IsKnown (allocation_of s t n).memory.shapes (functions_of s) (allocation_of s t n).pointer

-- Where the heap has room for it: `csc` to the heap's entry of the heap's capability at the free address behind it
abbrev pub HeapMovesOn : Type 0
HeapMovesOn = (s : Setting) → IsLegal s.needs s.map → (p : Option Point) (t : State Store) (m : Machine)
    → Fits s p t m → (n : ℕ) → free_behind t n ≤ s.map.heap.0 + s.map.heap.1
    → (from base y : ℕ) (z : ℤ) → register m from ≡ heap_pointer (addresses_of s.map) (free_behind t n)
    → register m base ≡ table_pointer s y → keeps s.map.table.0 (table_top s) y ≡ true → plus y z ≡ heap_place s
    → HasAllocated s p t m n (store_row m Csc from base z)
