-- The parts of the machine's memory that belong to no object: the text, the table of pointers, and the rest of the
-- heap.
use Rattle.std.specs.Prelude.{◌≡◌, ℕ, ◌+◌, ◌-◌, ◌*◌, ◌<◌, ◌≤◌, Bool, false, List, Option, Some}
use Rattle.std.specs.Option.{option_map}
use Rattle.cap_ops.specs.declared.capability.Cap.{Cap}
use Rattle.cap_ops.specs.declared.capability.TheConstants.{UNSEALED}
use Rattle.cap_ops.specs.Bounded.{bounded}
use Rattle.cap_ops.specs.Permissions.{data_permissions}
use Rattle.tag_mem.specs.Areas.{Area, byte_at, tag_at}
use Rattle.tag_mem.specs.Memory.{capability_at}
use Rattle.cap_machine.specs.Rows.{from_memory}
use Rattle.obj_mem.specs.declared.map.Map.{Map}
use Rattle.obj_mem.specs.Values.{Addresses}
use Rattle.obj_mem.specs.Objects.{Shape}
use Rattle.obj_mem.specs.Legal.{Needs}
use Rattle.obj_mem.specs.Table.{addresses_of, entry_count, heap_entry}
use Rattle.placement.specs.Memories.{IsClear}

-- ---- memory as it was, and capabilities in it

-- no byte of an extent changed, and no tag of their granules
pub record Unchanged (base long : ℕ) (old new : List Area) : Type 0 where
  pub bytes : (x : ℕ) → base ≤ x → x < base + long → byte_at new x ≡ byte_at old x
  pub tags : (x : ℕ) → base ≤ x → x < base + long → tag_at new x ≡ tag_at old x

-- 128 bits as they stand in memory, and a tag
abbrev pub capability_in : ℕ × Bool → Cap
capability_in v = record { tag = v.1; fields = from_memory v.0 }

-- what `clc` gives there through an authority that may load tags
abbrev pub kept_at : List Area → ℕ → Option Cap
kept_at memory at = option_map capability_in (capability_at memory at)

-- ---- the heap

-- the heap's capability, at the next free address
abbrev pub heap_pointer : Addresses → ℕ → Cap
heap_pointer a next = bounded a.heap a.heap_end data_permissions UNSEALED next

-- The bytes from the next free address on are zero, and no granule that lies in them is tagged. No object has one of
-- them
pub record HeapFits (a : Addresses) (next : ℕ) (shapes : List Shape) (memory : List Area) : Type 0 where
  pub from : a.heap ≤ next
  pub to : next ≤ a.heap_end
  pub zeros : (x : ℕ) → next ≤ x → x < a.heap_end → byte_at memory x ≡ Some 0
  pub untagged : (g : ℕ) → next ≤ 16 * g → 16 * g + 16 ≤ a.heap_end → tag_at memory (16 * g) ≡ Some false
  pub clear : IsClear shapes next (a.heap_end - next)

-- ---- the table

-- All is as loaded but for the heap's entry and the allocator's own state behind it. The heap's entry keeps its tag,
-- bounds and permissions, and its address is the next free one
pub record TableFits (n : Needs) (m : Map) (next : ℕ) (shapes : List Shape) (loaded memory : List Area) : Type 0 where
  pub room : 16 * entry_count n ≤ m.table.1
  pub before : Unchanged m.table.0 (16 * heap_entry n) loaded memory
  pub behind : Unchanged (m.table.0 + 16 * entry_count n) (m.table.1 - 16 * entry_count n) loaded memory
  pub heap : kept_at memory (m.table.0 + 16 * heap_entry n) ≡ Some (heap_pointer (addresses_of m) next)
  pub clear : IsClear shapes m.table.0 m.table.1
