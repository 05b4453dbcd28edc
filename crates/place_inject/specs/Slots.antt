-- A value that was spilled is read back.
use Rattle.std.specs.Prelude.{◌≡◌, ℕ, ◌+◌, ◌*◌, ◌<◌, ◌≤◌, true, ℤ, Some, None, slice_get}
use Rattle.cap_machine.specs.declared.machine.Machine.{Machine}
use Rattle.cap_machine.specs.State.{register}
use Rattle.cap_machine.specs.Rows.{plus, set, clc_row}
use Rattle.obj_mem.specs.Legal.{IsLegal}
use Rattle.obj_mem.specs.Objects.{base_in}
use Rattle.obj_mem.specs.Pointers.{keeps}
use Rattle.obj_mem.specs.Table.{addresses_of}
use Rattle.obj_mem.specs.Values.{capability_of}
use Rattle.cheri_c_sem.specs.Modes.{Store}
use Rattle.cheri_c_sem.specs.Steps.{State}
use Rattle.reg_alloc.specs.declared.places.Home.TheVariants.{Slot}
use Rattle.tac_ir.specs.Effects.{temp_in}
use Rattle.place_inject.specs.Frames.{Setting, Point, IsLive, homes_of, slots_from, stack_top, stack_pointer}
use Rattle.place_inject.specs.Fits.{Fits}

-- The stack's bounds are kept by its addresses, and by those up to 4096 bytes past its top, where a far place is
-- reached from
abbrev pub StackReaches : Type 0
StackReaches = (s : Setting) → IsLegal s.needs s.map → (y : ℕ) → s.map.stack.0 ≤ y → y < stack_top s + 4096
    → keeps s.map.stack.0 (stack_top s) y ≡ true

-- A temp that is still to be read and whose home is a slot: `clc` there, through the stack's capability at any address
-- that keeps the stack's bounds, gives the capability of its value, with its tag exactly where it is a pointer or a
-- function; and so it does in a machine whose memory is the same, whatever its registers are
abbrev pub SlotsReadBack : Type 0
SlotsReadBack = (s : Setting) → IsLegal s.needs s.map → (p : Point) (t : State Store) (m : Machine)
    → Fits s (Some p) t m
    → (temp slot : ℕ) → IsLive s p temp → s.numbers p.running.fun temp ≡ None
    → slice_get (homes_of s p.running.fun) temp ≡ Some (Slot slot)
    → (n : Machine) → n.mem ≡ m.mem
    → (to from y : ℕ) (z : ℤ) → register n from ≡ stack_pointer s y → keeps s.map.stack.0 (stack_top s) y ≡ true
    → plus y z ≡ slots_from (slice_get s.map.frames p.running.fun) (homes_of s p.running.fun) t.frame + 16 * slot
    → clc_row n to from z ≡ set n to (capability_of (addresses_of s.map) (base_in t.mem.memory.shapes) (temp_in t temp))
