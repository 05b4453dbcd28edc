-- Allocation: objects are placed one behind the other and never given back (C11 7.22.3.4).
use Rattle.std.specs.Prelude.{ℕ, ◌+◌, ◌-◌, nat_lt, length, Result, Ok, if◌then◌else◌}
use Rattle.cap_concentrate.specs.Rounding.{owned, rounded_up}
use Rattle.cap_ops.specs.Permissions.{data_permissions}
use Rattle.c_tree.specs.Layout.{object_alignment}
use Rattle.obj_mem.specs.declared.ending.Fault.{Fault}
use Rattle.obj_mem.specs.declared.ending.Reason.TheVariants as R
use Rattle.obj_mem.specs.Values.{Value, Live, Addresses, null_with}
use Rattle.obj_mem.specs.Objects.{Memory, Mode, Placed, Strict, add}
use Rattle.obj_mem.specs.Access.{unspecified}

-- What a run knows of its heap is one number: in the placed mode the next free address; in the strict one the sum over
-- all allocations of owned length and object's alignment, which bounds what any map needs for them
abbrev pub heap_start : Mode → ℕ
heap_start (Placed a) = a.heap
heap_start Strict = 0

abbrev pub strict_heap : ℕ
strict_heap = 16777216

-- an allocation has no type of its own
abbrev pub allocation_alignment : ℕ → ℕ
allocation_alignment n = object_alignment 1 n

pub record Allocation : Type 0 where
  pub pointer : Value
  pub memory : Memory
  pub heap : ℕ

-- a new object of n bytes
abbrev pub allocated : Mode → Memory → (n base heap : ℕ) → Allocation
allocated d m n base heap = record {
  pointer = Live (length m.shapes) 0 (owned n) 0 data_permissions;
  memory = add d m n base;
  heap = heap;
}

-- null takes nothing
abbrev pub refused : Memory → ℕ → Allocation
refused m heap = record { pointer = null_with 0; memory = m; heap = heap }

-- at the next suitably aligned address; null exactly where n exceeds the heap or the owned length doesn't fit in the
-- rest
abbrev pub placed_allocate : Addresses → Memory → ℕ → ℕ → Allocation
placed_allocate a m next n =
    let start = rounded_up next (allocation_alignment n) in
    if nat_lt (a.heap_end - a.heap) n then refused m next
    else if nat_lt a.heap_end (start + owned n) then refused m next
    else allocated (Placed a) m n start (start + owned n)

abbrev pub strict_allocate : Memory → ℕ → ℕ → Result Allocation Fault
strict_allocate m sum n =
    let total = sum + owned n + allocation_alignment n in
    if nat_lt strict_heap total then unspecified R.Heap else Ok (allocated Strict m n 0 total)

-- `malloc(n)`
abbrev pub allocate : Mode → Memory → ℕ → ℕ → Result Allocation Fault
allocate (Placed a) m heap n = Ok (placed_allocate a m heap n)
allocate Strict m heap n = strict_allocate m heap n
