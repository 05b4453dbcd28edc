-- Structs are copied, unit by unit.
use Rattle.std.specs.Prelude.{◌≡◌, ℕ, ◌+◌, ◌*◌, ◌/◌, List}
use Rattle.ck_base.specs.World.{World}
use Rattle.ck_base.specs.declared.positions.Pos.{Pos}
use Rattle.rv_instr.specs.declared.instr.Instr.{Instr}
use Rattle.cap_machine.specs.declared.machine.Machine.{Machine}
use Rattle.c_tree.specs.declared.typed.Typed.{Typed}
use Rattle.obj_mem.specs.declared.ending.Ending.TheVariants as ending
use Rattle.cheri_c_sem.specs.Modes as modes
use Rattle.cheri_c_sem.specs.Modes.{operations, placed_plan}
use Rattle.cheri_c_sem.specs.Steps.{State, Fate, over}
use Rattle.tac_ir.specs.Costs.{cost}
use Rattle.tac_ir.specs.Effects.{Next, effect}
use Rattle.tac_ir.specs.Meaning.{Running}
use Rattle.tac_ir.specs.Within.{copied_parts}
use Rattle.tac_ir.specs.declared.code.TacInstr.{TacInstr}
use Rattle.tac_ir.specs.declared.code.TacInstr.TheVariants as instr
use Rattle.place_inject.specs.Frames.{Setting}
use Rattle.select_words.specs.Standing.{HasAt}
use Rattle.select_words.specs.Copying.{CopyWords}
use Rattle.select_runs.specs.Accesses.{TrapsWithin}
use Rattle.select_runs.specs.Kinds.{AreOfKinds}
use Rattle.select_runs.specs.Operands.{IsText, IsAtPoint}
use Rattle.select_runs.specs.Results.{GoesOnWithin, IsSelectable, before, kinds_in}
use Rattle.select_runs.specs.Selecting.{selecting}

abbrev pub copy_cost : TacInstr → ℕ
copy_cost i = cost i + 128 * copied_parts i

-- The function goes on; a trap ends the run where a unit is read, or where it is written; or the meaning leaves what it
-- speaks of
pub data StructCopied (s : Setting) (code : List Instr) (w : World) (p : Typed) (running : Running) (i : TacInstr)
    (rest : List TacInstr) (words : List Instr) (from_pos to_pos : Pos) (word at : ℕ) (t : State modes.Store)
    (m : Machine) : Type 0 where
  Goes : GoesOnWithin (copy_cost i) s code w p running i rest words at t m
      → StructCopied s code w p running i rest words from_pos to_pos word at t m
  StopsReading : TrapsWithin (copy_cost i) s code w p running i from_pos word t m
      → StructCopied s code w p running i rest words from_pos to_pos word at t m
  StopsWriting : TrapsWithin (copy_cost i) s code w p running i to_pos (word + 1) t m
      → StructCopied s code w p running i rest words from_pos to_pos word at t m
  Leaves : (source : Pos) → ((k : Next → State modes.Store → Fate)
      → effect (operations (placed_plan s.map)) w p (kinds_in s running) i t k ≡ over (ending.Outside source) t)
      → StructCopied s code w p running i rest words from_pos to_pos word at t m

-- For each part of 16 bytes there are 128 acts beside what the instruction costs
abbrev pub StructCopiesRun : Type 0
StructCopiesRun =
    (s : Setting) (code : List Instr) → IsText s code → (w : World) (p : Typed) (running : Running)
    (from to bytes unit : ℕ) (from_pos to_pos : Pos) (rest : List TacInstr)
    → IsSelectable s p running (instr.CopyUnits from to bytes unit from_pos to_pos) rest
    → (at : ℕ) (t : State modes.Store) (m : Machine)
    → IsAtPoint s code (before running (instr.CopyUnits from to bytes unit from_pos to_pos) rest) at t m
    → AreOfKinds (kinds_in s running) t.vars
    → (skip : ℕ) (words : List Instr) → CopyWords (selecting s running.fun) from to (bytes / unit) unit skip words
    → HasAt code at words
    → StructCopied s code w p running (instr.CopyUnits from to bytes unit from_pos to_pos) rest words from_pos to_pos
    (at + skip) at t m
