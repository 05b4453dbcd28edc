-- A local whose block is entered, in the whole injection.
use Rattle.std.specs.Prelude.{◌≡◌, ℕ, ◌+◌, ◌%◌, ◌<◌, ◌≤◌, ℤ, true, List, length, Option, Some, slice_get}
use Rattle.rv_instr.specs.declared.ops.StoreOp.TheVariants.{Csc}
use Rattle.tag_mem.specs.Areas.{Area, IsMemory, is_inside}
use Rattle.cap_machine.specs.declared.end.Step.{Step}
use Rattle.cap_machine.specs.declared.end.Step.TheVariants.{Next}
use Rattle.cap_machine.specs.declared.machine.Machine.{Machine}
use Rattle.cap_machine.specs.Rows.{plus, store_row}
use Rattle.cap_machine.specs.State.{register, next}
use Rattle.obj_mem.specs.Agreement.{IsNotReturned}
use Rattle.obj_mem.specs.Legal.{IsLegal}
use Rattle.obj_mem.specs.Objects.{Shape, Placed, zero_object}
use Rattle.obj_mem.specs.Pointers.{keeps}
use Rattle.obj_mem.specs.Table.{addresses_of}
use Rattle.cheri_c_sem.specs.Modes.{Store, with_memory}
use Rattle.cheri_c_sem.specs.Steps.{State}
use Rattle.place_inject.specs.Changes.{Zeroed, granules_of}
use Rattle.place_inject.specs.Frames.{Setting, Point, stack_top, stack_pointer}
use Rattle.place_inject.specs.Fits.{Fits, HomesAreUsable}
use Rattle.place_inject.specs.Spills.{StackIsThere}

-- The granules of an object are zero, and else only the counter and c28 to c31 changed
pub record IsZeroed (m after : Machine) (g : Shape) : Type 0 where
  pub registers : length after.regs ≡ 32
  pub alike : (r : ℕ) → r < 28 → register after r ≡ register m r
  pub memory : Zeroed g.base (granules_of g) m.mem after.mem

abbrev pub ZeroKeepsFits : Type 0
ZeroKeepsFits = (s : Setting) → IsLegal s.needs s.map → HomesAreUsable s
    → (p : Option Point) (t : State Store) (m : Machine) → Fits s p t m
    → (k : ℕ) (g : Shape) → slice_get t.mem.memory.shapes k ≡ Some g → IsNotReturned g.life
    → (after : Machine) → IsZeroed m after g
    → Fits s p (record t { mem = with_memory t.mem (zero_object (Placed (addresses_of s.map)) t.mem.memory k) }) after

-- ---- granule by granule

-- The step goes on with another memory, in which one granule is zero
pub record GranuleIsZeroed (n : Machine) (at : ℕ) (step : Step × Machine) : Type 0 where
  pub memory : List Area
  pub goes : step ≡ (Next, next (record n { mem = memory }))
  pub zeroed : Zeroed at 1 n.mem memory

-- `csc` of x0 to a granule of the stack, through the stack's capability at any address that keeps the stack's bounds,
-- in a machine that has the places that were loaded
abbrev pub GranulesAreZeroed : Type 0
GranulesAreZeroed = (s : Setting) → IsLegal s.needs s.map → StackIsThere s → (n : Machine) → IsMemory n.mem
    → ((x : ℕ) → is_inside n.mem x ≡ is_inside s.loaded.mem x)
    → (base y : ℕ) (z : ℤ) → register n base ≡ stack_pointer s y → keeps s.map.stack.0 (stack_top s) y ≡ true
    → (at : ℕ) → plus y z ≡ at → at % 16 ≡ 0 → s.map.stack.0 ≤ at → at + 16 ≤ stack_top s
    → GranuleIsZeroed n at (store_row n Csc 0 base z)
