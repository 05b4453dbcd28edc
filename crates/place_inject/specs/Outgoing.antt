-- Arguments past eight, which the caller stores in its frame.
use Rattle.std.specs.Prelude.{◌≡◌, ℕ, ◌+◌, ◌%◌, ◌<◌, ◌≤◌, length, Some, slice_get}
use Rattle.tag_mem.specs.Areas.{IsMemory}
use Rattle.cap_machine.specs.declared.machine.Machine.{Machine}
use Rattle.cap_machine.specs.State.{register}
use Rattle.cheri_c_sem.specs.Modes.{Store}
use Rattle.cheri_c_sem.specs.Steps.{State}
use Rattle.obj_mem.specs.Legal.{IsLegal}
use Rattle.obj_mem.specs.declared.map.Frame.{Frame}
use Rattle.purecap_abi.specs.Saving.{registers_at}
use Rattle.place_inject.specs.Objects.{SameOutside}
use Rattle.place_inject.specs.Frames.{Setting, Point, homes_of}
use Rattle.place_inject.specs.Fits.{Fits, HomesAreUsable}

-- one granule changed, and else only the counter and c28 to c31
pub record ChangesGranule (m after : Machine) (place : ℕ) : Type 0 where
  pub registers : length after.regs ≡ 32
  pub alike : (r : ℕ) → r < 28 → register after r ≡ register m r
  pub areas : IsMemory after.mem
  pub same : SameOutside place 16 m.mem after.mem

-- A granule between the link and the registers that the function keeps may change
abbrev pub OutgoingKeepsFits : Type 0
OutgoingKeepsFits = (s : Setting) → IsLegal s.needs s.map → HomesAreUsable s →
    (p : Point) (t : State Store) (m : Machine)
    → Fits s (Some p) t m
    → (frame : Frame) → slice_get s.map.frames p.running.fun ≡ Some frame
    → (offset : ℕ) → 16 ≤ offset → offset + 16 ≤ registers_at (homes_of s p.running.fun) frame → offset % 16 ≡ 0
    → (after : Machine) → ChangesGranule m after (t.frame + offset) → Fits s (Some p) t after
