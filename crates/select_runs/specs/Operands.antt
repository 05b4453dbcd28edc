-- An operand comes to a register.
use Rattle.std.specs.Prelude.{◌≡◌, ℕ, ◌+◌, ◌*◌, ◌<◌, ◌≤◌, List, length, Some, slice_get}
use Rattle.rv_instr.specs.declared.instr.Instr.{Instr}
use Rattle.rv_instr.specs.Range.{InRange}
use Rattle.rv_code.specs.Formats.{word_of}
use Rattle.rv_code.specs.Encoding.{fields_of}
use Rattle.tag_mem.specs.Areas.{IsMemory}
use Rattle.tag_mem.specs.Memory.{number_at}
use Rattle.cap_machine.specs.declared.machine.Machine.{Machine}
use Rattle.obj_mem.specs.Legal.{IsLegal}
use Rattle.obj_mem.specs.Objects.{base_in}
use Rattle.obj_mem.specs.Table.{addresses_of}
use Rattle.obj_mem.specs.Values.{capability_of}
use Rattle.cheri_c_sem.specs.Modes.{Store}
use Rattle.cheri_c_sem.specs.Steps.{State}
use Rattle.tac_ir.specs.Effects.{temp_in}
use Rattle.place_inject.specs.Values.{IsKnown}
use Rattle.place_inject.specs.Frames.{Setting, Point, IsLive, functions_of}
use Rattle.place_inject.specs.Fits.{Fits, HomesAreUsable}
use Rattle.select_words.specs.Standing.{HasAt}
use Rattle.select_words.specs.Emitted.{Operand}
use Rattle.select_runs.specs.Acts.{Ground, Holds, counter_at}
use Rattle.select_runs.specs.Selecting.{selecting}

-- ---- code as the text of a run

abbrev pub ground_of : Setting → List Instr → Ground
ground_of s code = record { code = code; text = s.map.text.0; text_end = s.map.text.0 + s.map.text.1 }

-- The code was loaded as the text of a legal map. Each instruction has a word, and homes are in registers for them
pub record IsText (s : Setting) (code : List Instr) : Type 0 where
  pub legal : IsLegal s.needs s.map
  pub usable : HomesAreUsable s
  pub room : 4 * length code ≤ s.map.text.1
  pub in_range : (k : ℕ) (i : Instr) → slice_get code k ≡ Some i → InRange i
  pub areas : IsMemory s.loaded.mem
  pub words : (k : ℕ) (i : Instr) → slice_get code k ≡ Some i
      → number_at s.loaded.mem (s.map.text.0 + 4 * k) 4 ≡ Some (word_of (fields_of i))

-- The machine stands for a state of three-address code at a point of it, and its counter is at a word of the code
pub record IsAtPoint (s : Setting) (code : List Instr) (p : Point) (at : ℕ) (t : State Store)
    (m : Machine) : Type 0 where
  pub fits : Fits s (Some p) t m
  pub counter : m.pc ≡ counter_at (ground_of s code) at

-- ---- operands

-- Where the words of an operand stand, the machine goes past them, and the register has the capability of the temp's
-- value. No
-- register but the scratch register is another than it was
pub record Comes (s : Setting) (code : List Instr) (t : State Store) (m : Machine) (temp : ℕ) (words : List Instr)
    (at scratch r : ℕ) : Type 0 where
  pub known : IsKnown t.mem.memory.shapes (functions_of s) (temp_in t temp)
  pub holds : Holds (ground_of s code) m (length words) (at + length words) scratch r
      (capability_of (addresses_of s.map) (base_in t.mem.memory.shapes) (temp_in t temp))

abbrev pub OperandsCome : Type 0
OperandsCome = (s : Setting) (code : List Instr) → IsText s code
    → (p : Point) (at : ℕ) (t : State Store) (m : Machine) → IsAtPoint s code p at t m
    → (temp scratch r : ℕ) → IsLive s p temp → 28 ≤ scratch → scratch < 32
    → (words : List Instr) → Operand (selecting s p.running.fun) temp scratch words r → HasAt code at words
    → Comes s code t m temp words at scratch r
