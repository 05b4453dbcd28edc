-- A function is entered: what it begins with takes its frame, or traps where the stack has no room for it.
use Rattle.std.specs.Prelude.{◌≡◌, ℕ, ◌+◌, ◌%◌, ◌^◌, ◌<◌, ◌≤◌, List, length, Option, Some, None, slice_get}
use Rattle.ck_base.specs.Runs.{Ends}
use Rattle.cap_ops.specs.declared.access.Cause.{Cause}
use Rattle.rv_instr.specs.declared.instr.Instr.{Instr}
use Rattle.tag_mem.specs.Areas.{IsMemory, is_inside}
use Rattle.cap_machine.specs.declared.end.End.TheVariants.{Trap}
use Rattle.cap_machine.specs.declared.machine.Machine.{Machine}
use Rattle.cap_machine.specs.State.{register}
use Rattle.cap_machine.specs.Step.{act}
use Rattle.cheri_c_sem.specs.Modes.{frame_within}
use Rattle.obj_mem.specs.declared.map.Frame.{Frame}
use Rattle.purecap_abi.specs.Ends.{before_store, prologue_code}
use Rattle.purecap_abi.specs.Saving.{IsFor}
use Rattle.place_inject.specs.Frames.{Setting, homes_of, stack_top, stack_pointer, return_sentry}
use Rattle.place_inject.specs.Entering.{HasEntered}
use Rattle.place_inject.specs.Spills.{StackIsThere}
use Rattle.select_words.specs.Standing.{HasAt}
use Rattle.select_runs.specs.Acts.{IsThere, Leads, place}
use Rattle.select_runs.specs.Operands.{ground_of, IsText}

-- The machine is at a function's first word, by a call that links to an address, with the stack at another
pub record IsEntered (s : Setting) (code : List Instr) (above link at : ℕ) (m : Machine) : Type 0 where
  pub there : IsThere (ground_of s code) m at
  pub areas : IsMemory m.mem
  pub places : (x : ℕ) → is_inside m.mem x ≡ is_inside s.loaded.mem x
  pub stack : register m 2 ≡ stack_pointer s above
  pub link_is : register m 1 ≡ return_sentry s link
  -- registers have 64 bits of an address
  pub words : (r : ℕ) → (register m r).fields.address < 2 ^ 64
  pub from : s.map.stack.0 ≤ above
  pub to : above ≤ stack_top s
  pub aligned : above % 16 ≡ 0

-- the frame was taken; c28 has the caller's stack, and registers but c2 and c28 to c30 are as they were
pub record TakesFrame (s : Setting) (code : List Instr) (fun : ℕ) (frame : Frame) (above link end at : ℕ)
    (m : Machine) : Type 0 where
  pub after : Machine
  pub leads : Leads (length (prologue_code (homes_of s fun) frame)) m after
  pub there : IsThere (ground_of s code) after end
  pub entered : HasEntered s fun at above link frame m after
  pub caller : register after 28 ≡ stack_pointer s above
  pub others : (r : ℕ) → r < 28 → (r ≡ 2 → ⊥) → register after r ≡ register m r

-- the first store traps, by some cause
pub record Sinks (s : Setting) (code : List Instr) (frame : Frame) (at : ℕ) (m : Machine) : Type 0 where
  pub sinks : Machine
  pub leads : Leads (length (before_store frame)) m sinks
  pub cause : Cause
  pub ends : act sinks ≡ Ends (Trap cause (place (ground_of s code) (at + length (before_store frame))))

abbrev pub FrameIsTaken : Setting → List Instr → (fun : ℕ) → Frame → (above link at : ℕ) → Machine → Option ℕ → Type 0
FrameIsTaken s code fun frame above link at m (Some place) =
    TakesFrame s code fun frame above link (at + length (prologue_code (homes_of s fun) frame)) place m
FrameIsTaken s code fun frame above link at m None = Sinks s code frame at m

-- As the meaning's frame is within the stack or not
abbrev pub ProloguesRun : Type 0
ProloguesRun = (s : Setting) (code : List Instr) → IsText s code → StackIsThere s → (fun : ℕ) (frame : Frame)
    → slice_get s.map.frames fun ≡ Some frame → IsFor (homes_of s fun) frame
    → (above link at : ℕ) (m : Machine) → IsEntered s code above link at m
    → HasAt code at (prologue_code (homes_of s fun) frame)
    → FrameIsTaken s code fun frame above link at m (frame_within s.map.stack.0 above (Some frame))
