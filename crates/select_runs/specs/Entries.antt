-- Behind what a function begins with its parameters come to their homes.
use Rattle.std.specs.Prelude.{◌≡◌, ℕ, ◌+◌, ◌^◌, ◌<◌, ◌≤◌, List, ◌++◌, length, Some, None, slice_get}
use Rattle.cap_ops.specs.declared.capability.Cap.{Cap}
use Rattle.rv_instr.specs.declared.instr.Instr.{Instr}
use Rattle.cap_machine.specs.declared.machine.Machine.{Machine}
use Rattle.cap_machine.specs.State.{register}
use Rattle.cheri_c_sem.specs.Modes.{frame_within}
use Rattle.obj_mem.specs.declared.map.Frame.{Frame}
use Rattle.purecap_abi.specs.Ends.{prologue_code}
use Rattle.purecap_abi.specs.Saving.{IsFor}
use Rattle.reg_alloc.specs.declared.places.Home.{Home}
use Rattle.reg_alloc.specs.Placed.{IsUsable}
use Rattle.place_inject.specs.Parts.{kept_at}
use Rattle.place_inject.specs.Frames.{Setting, homes_of, slots_from, at_home, stack_top}
use Rattle.place_inject.specs.Fits.{registers_in}
use Rattle.place_inject.specs.Entering.{HasEntered}
use Rattle.place_inject.specs.Spills.{StackIsThere}
use Rattle.select_words.specs.Standing.{HasAt}
use Rattle.select_words.specs.Emitted.{IsIn}
use Rattle.select_words.specs.Entries.{stack_place, ParameterWords}
use Rattle.select_runs.specs.Acts.{IsThere, Leads}
use Rattle.select_runs.specs.Operands.{ground_of, IsText}
use Rattle.select_runs.specs.Prologue.{IsEntered}
use Rattle.select_runs.specs.Selecting.{selecting}

-- ---- what is asked of homes

-- parameters stand in homes of their own
pub record AreParameters (s : Setting) (fun count : ℕ) : Type 0 where
  pub stand : (k : ℕ) → k < count → s.numbers fun k ≡ None
  pub usable : (k r : ℕ) → k < count → IsIn (selecting s fun) k r → IsUsable r
  pub apart : (j k : ℕ) → j < count → k < count → (j ≡ k → ⊥)
      → slice_get (homes_of s fun) j ≡ slice_get (homes_of s fun) k → ⊥

-- ---- what they do

-- arguments stand where the caller put them, its stack at an address
pub record ArePassed (s : Setting) (above count : ℕ) (c : ℕ → Cap) (m : Machine) : Type 0 where
  pub room : 8 < count → above + stack_place count ≤ stack_top s
  pub registers : (k : ℕ) → k < count → k < 8 → register m (10 + k) ≡ c k
  pub stack : (k : ℕ) → k < count → 8 ≤ k → kept_at m.mem (above + stack_place k) ≡ Some (c k)
  pub words : (k : ℕ) → k < count → (c k).fields.address < 2 ^ 64

-- The function has its frame, and its parameters are in their homes
pub record HasParameters (s : Setting) (code : List Instr) (fun count : ℕ) (c : ℕ → Cap) (frame : Frame)
    (above link end at most : ℕ) (m : Machine) : Type 0 where
  pub acts : ℕ
  pub few : acts ≤ most
  pub after : Machine
  pub leads : Leads acts m after
  pub there : IsThere (ground_of s code) after end
  pub entered : HasEntered s fun at above link frame m after
  pub homes : (k : ℕ) (h : Home) → k < count → slice_get (homes_of s fun) k ≡ Some h
      → at_home after.mem (registers_in after) (slots_from (Some frame) (homes_of s fun) at) h ≡ Some (c k)

abbrev pub ParametersCome : Type 0
ParametersCome = (s : Setting) (code : List Instr) → IsText s code → StackIsThere s → (fun : ℕ) (frame : Frame)
    → slice_get s.map.frames fun ≡ Some frame → IsFor (homes_of s fun) frame
    → (above link at : ℕ) (m : Machine) → IsEntered s code above link at m
    → (count : ℕ) (c : ℕ → Cap) → AreParameters s fun count → ArePassed s above count c m
    → (words : List Instr) → ParameterWords (selecting s fun) count words
    → HasAt code at (prologue_code (homes_of s fun) frame ++ words)
    → (place : ℕ) → frame_within s.map.stack.0 above (Some frame) ≡ Some place
    → HasParameters s code fun count c frame above link
    (at + length (prologue_code (homes_of s fun) frame ++ words)) place
    (length (prologue_code (homes_of s fun) frame ++ words)) m
