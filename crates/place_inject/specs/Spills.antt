-- A value that is spilled to the slot of its temp.
use Rattle.std.specs.Prelude.{◌≡◌, ℕ, ◌+◌, ◌*◌, ◌<◌, ◌≤◌, true, ℤ, List, Some, None, slice_get, slice_set}
use Rattle.rv_instr.specs.declared.ops.StoreOp.TheVariants.{Csc}
use Rattle.tag_mem.specs.Areas.{Area, is_inside}
use Rattle.cap_machine.specs.declared.end.Step.{Step}
use Rattle.cap_machine.specs.declared.end.Step.TheVariants.{Next}
use Rattle.cap_machine.specs.declared.machine.Machine.{Machine}
use Rattle.cap_machine.specs.State.{register, next}
use Rattle.cap_machine.specs.Rows.{plus, store_row}
use Rattle.obj_mem.specs.Legal.{IsLegal}
use Rattle.obj_mem.specs.Objects.{base_in}
use Rattle.obj_mem.specs.Pointers.{keeps}
use Rattle.obj_mem.specs.Table.{addresses_of}
use Rattle.obj_mem.specs.Values.{Value, capability_of}
use Rattle.cheri_c_sem.specs.Modes.{Store}
use Rattle.cheri_c_sem.specs.Steps.{State}
use Rattle.reg_alloc.specs.declared.places.Home.TheVariants.{Slot}
use Rattle.tac_ir.specs.declared.code.TacInstr.{TacInstr}
use Rattle.place_inject.specs.Values.{IsKnown}
use Rattle.place_inject.specs.Frames.{Setting, Point, IsLive, homes_of, slots_from, stack_top, stack_pointer}
use Rattle.place_inject.specs.Frames.{functions_of}
use Rattle.place_inject.specs.Homes.{onward, ReadsNoMore}
use Rattle.place_inject.specs.Fits.{Fits}

-- the machine was loaded with a stack
abbrev pub StackIsThere : Setting → Type 0
StackIsThere s = (x : ℕ) → s.map.stack.0 ≤ x → x < stack_top s → is_inside s.loaded.mem x ≡ true

-- A slot is free for the temp whose home it is at a point: no other temp that is to be read from there on stands in it
pub record SlotIsFree (s : Setting) (p : Point) (temp slot : ℕ) : Type 0 where
  pub home : slice_get (homes_of s p.running.fun) temp ≡ Some (Slot slot)
  pub stands : s.numbers p.running.fun temp ≡ None
  pub alone : (other : ℕ) → IsLive s p other → (other ≡ temp → ⊥)
      → slice_get (homes_of s p.running.fun) other ≡ Some (Slot slot) → ⊥

-- The step goes on with another memory, and the value is in its temp
pub record Spilled (s : Setting) (p : Point) (t : State Store) (m : Machine) (temp : ℕ) (v : Value)
    (step : Step × Machine) : Type 0 where
  pub memory : List Area
  pub goes : step ≡ (Next, next (record m { mem = memory }))
  pub fits : Fits s (Some p) (record t { vars = slice_set t.vars temp (Some v) }) (next (record m { mem = memory }))

-- A value comes into its temp: `csc` of a register that has its capability to the temp's slot, through the stack's
-- capability at any address that keeps the stack's bounds
abbrev pub SpillsFit : Type 0
SpillsFit = (s : Setting) → IsLegal s.needs s.map → StackIsThere s → (p : Point) (t : State Store) (m : Machine)
    → Fits s (Some p) t m
    → (rest : List TacInstr) (temp slot : ℕ) → SlotIsFree s (onward p rest) temp slot → ReadsNoMore s p rest temp
    → (v : Value) → IsKnown t.mem.memory.shapes (functions_of s) v
    → (from base y : ℕ) (z : ℤ) → register m from ≡ capability_of (addresses_of s.map) (base_in t.mem.memory.shapes) v
    → register m base ≡ stack_pointer s y → keeps s.map.stack.0 (stack_top s) y ≡ true
    → plus y z ≡ slots_from (slice_get s.map.frames p.running.fun) (homes_of s p.running.fun) t.frame + 16 * slot
    → Spilled s (onward p rest) t m temp v (store_row m Csc from base z)
