-- The state in which a program begins, and the machine as it was loaded.
use Rattle.std.specs.Prelude.{◌≡◌, ℕ, ◌+◌, ◌*◌, ◌%◌, ◌<◌, ◌≤◌, false, ◌++◌, length, map, Some, None, slice_get}
use Rattle.tag_mem.specs.Areas.{IsMemory, byte_at, tag_at}
use Rattle.cap_machine.specs.State.{register}
use Rattle.obj_mem.specs.Objects.{Shape, Content, Memory}
use Rattle.obj_mem.specs.Legal.{ObjectNeed, IsLegal}
use Rattle.obj_mem.specs.Standing.{HaveBounds}
use Rattle.obj_mem.specs.Table.{addresses_of, entry_count, heap_entry}
use Rattle.cheri_c_sem.specs.Calls.{start, first_state}
use Rattle.cheri_c_sem.specs.Modes.{operations, placed_plan}
use Rattle.cheri_c_sem.specs.Tree.{Global, Program}
use Rattle.place_inject.specs.Objects.{IsSound, Stands}
use Rattle.place_inject.specs.Parts.{heap_pointer, kept_at}
use Rattle.place_inject.specs.Frames.{Setting, functions_of, stack_top, stack_pointer}
use Rattle.place_inject.specs.Fits.{Fits}

-- ---- what is asked of the map

-- The objects that the map was made for are those with which the program begins. They have bounds of their own, and
-- stand at multiples of 16; and the table has room for its entries
pub record IsMapOf (s : Setting) (p : Program) : Type 0 where
  pub legal : IsLegal s.needs s.map
  pub exact_globals : HaveBounds s.needs.globals s.map.globals
  pub exact_literals : HaveBounds s.needs.literals s.map.literals
  pub globals : map (λ (g : Global). g.length) p.globals ≡ map (λ (n : ObjectNeed). n.length) s.needs.globals
  pub literals : map length p.literals ≡ map (λ (n : ObjectNeed). n.length) s.needs.literals
  pub aligned : (k base : ℕ) → slice_get (s.map.globals ++ s.map.literals) k ≡ Some base → base % 16 ≡ 0
  pub table : 16 * entry_count s.needs ≤ s.map.table.1

-- ---- what is asked of the machine that was loaded

-- c2 is the stack at its top; the heap is zero and without tags, and the heap's entry of the table is its capability;
-- and in each object stands what it begins with. Loading gives c3, whatever it is, and the text
pub record IsLoaded (s : Setting) (m : Memory) : Type 0 where
  pub registers : length s.loaded.regs ≡ 32
  pub areas : IsMemory s.loaded.mem
  pub stack : register s.loaded 2 ≡ stack_pointer s (stack_top s)
  pub zeros : (x : ℕ) → s.map.heap.0 ≤ x → x < s.map.heap.0 + s.map.heap.1 → byte_at s.loaded.mem x ≡ Some 0
  pub untagged : (g : ℕ) → s.map.heap.0 ≤ 16 * g → 16 * g + 16 ≤ s.map.heap.0 + s.map.heap.1
      → tag_at s.loaded.mem (16 * g) ≡ Some false
  pub heap : kept_at s.loaded.mem (s.map.table.0 + 16 * heap_entry s.needs)
      ≡ Some (heap_pointer (addresses_of s.map) s.map.heap.0)
  pub sound : (k : ℕ) (g : Shape) (c : Content) → slice_get m.shapes k ≡ Some g → slice_get m.contents k ≡ Some c
      → IsSound m.shapes (functions_of s) g c
  pub stands : (k : ℕ) (g : Shape) (c : Content) → slice_get m.shapes k ≡ Some g → slice_get m.contents k ≡ Some c
      → Stands (addresses_of s.map) m.shapes g c s.loaded.mem

-- ---- the first state fits

-- With no call in progress, over the objects that the meaning makes at the start
abbrev pub StartFits : Type 0
StartFits = (s : Setting) (p : Program) → IsMapOf s p
    → IsLoaded s (start (operations (placed_plan s.map)) p).memory
    → (turns : ℕ) → Fits s None (first_state (operations (placed_plan s.map)) p turns) s.loaded
