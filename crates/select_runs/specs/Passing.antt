-- Arguments of a call: eight come to registers, and the others to the caller's frame.
use Rattle.std.specs.Prelude.{◌≡◌, ℕ, ◌+◌, ◌<◌, ◌≤◌, List, length, Some, slice_get}
use Rattle.rv_instr.specs.declared.instr.Instr.{Instr}
use Rattle.cap_machine.specs.declared.machine.Machine.{Machine}
use Rattle.cap_machine.specs.State.{register}
use Rattle.cheri_c_sem.specs.Modes.{Store}
use Rattle.cheri_c_sem.specs.Steps.{State}
use Rattle.obj_mem.specs.declared.map.Frame.{Frame}
use Rattle.obj_mem.specs.Objects.{base_in}
use Rattle.obj_mem.specs.Table.{addresses_of}
use Rattle.obj_mem.specs.Values.{capability_of}
use Rattle.purecap_abi.specs.Saving.{registers_at}
use Rattle.tac_ir.specs.Effects.{temp_in}
use Rattle.tac_ir.specs.Temps.{IsIn as IsAmong}
use Rattle.tac_ir.specs.declared.code.TacInstr.{TacInstr}
use Rattle.place_inject.specs.Parts.{kept_at}
use Rattle.place_inject.specs.Frames.{Setting, Point, IsLive, homes_of}
use Rattle.place_inject.specs.Homes.{onward}
use Rattle.place_inject.specs.Registers.{UsesOnly, CallersUseOnly}
use Rattle.place_inject.specs.Spills.{StackIsThere}
use Rattle.select_words.specs.Standing.{HasAt}
use Rattle.select_words.specs.Entries.{stack_place}
use Rattle.select_words.specs.Services.{IsAside}
use Rattle.select_words.specs.Passing.{ArgumentWords}
use Rattle.select_runs.specs.Acts.{Leads}
use Rattle.select_runs.specs.Operands.{IsText, IsAtPoint}
use Rattle.select_runs.specs.Selecting.{selecting}

-- Where the function goes on, each temp that is to be read was, and stands in no register of an argument
pub record GoesOnAside (s : Setting) (p : Point) (left : List TacInstr) : Type 0 where
  pub reads : (temp : ℕ) → IsLive s (onward p left) temp → IsLive s p temp
  pub own : UsesOnly IsAside (homes_of s p.running.fun) (IsLive s (onward p left))
  pub callers : CallersUseOnly s IsAside p.running.callers

-- The machine stands for the same state there, and has the arguments in their places. c31 is as it was
pub record PassesArguments (s : Setting) (code : List Instr) (p : Point) (left : List TacInstr) (args : List ℕ)
    (end most : ℕ) (t : State Store) (m : Machine) : Type 0 where
  pub count : ℕ
  pub few : count ≤ most
  pub to : Machine
  pub leads : Leads count m to
  pub point : IsAtPoint s code (onward p left) end t to
  pub registers : (k temp : ℕ) → k < 8 → slice_get args k ≡ Some temp
      → register to (10 + k) ≡ capability_of (addresses_of s.map) (base_in t.mem.memory.shapes) (temp_in t temp)
  pub stack : (k temp : ℕ) → 8 ≤ k → slice_get args k ≡ Some temp → kept_at to.mem (t.frame + stack_place k)
      ≡ Some (capability_of (addresses_of s.map) (base_in t.mem.memory.shapes) (temp_in t temp))
  pub way : register to 31 ≡ register m 31

abbrev pub ArgumentsPass : Type 0
ArgumentsPass = (s : Setting) (code : List Instr) → IsText s code → StackIsThere s → (p : Point) (left : List TacInstr)
    → GoesOnAside s p left → (frame : Frame) → slice_get s.map.frames p.running.fun ≡ Some frame
    → (args : List ℕ) → ((temp : ℕ) → IsAmong temp args → IsLive s p temp)
    → stack_place (length args) ≤ registers_at (homes_of s p.running.fun) frame
    → (at : ℕ) (t : State Store) (m : Machine) → IsAtPoint s code p at t m
    → (words : List Instr) → ArgumentWords (selecting s p.running.fun) args words → HasAt code at words
    → PassesArguments s code p left args (at + length words) (length words) t m
