-- The block of a local is entered: its bytes become zero.
use Rattle.std.specs.Prelude.{ℕ, ◌+◌, ◌*◌, List}
use Rattle.ck_base.specs.World.{World}
use Rattle.c_tree.specs.declared.typed.Typed.{Typed}
use Rattle.cap_machine.specs.declared.machine.Machine.{Machine}
use Rattle.cheri_c_sem.specs.Modes.{Store}
use Rattle.cheri_c_sem.specs.Steps.{State}
use Rattle.rv_instr.specs.declared.instr.Instr.{Instr}
use Rattle.tac_ir.specs.Costs.{cost}
use Rattle.tac_ir.specs.Meaning.{Running}
use Rattle.tac_ir.specs.declared.code.TacInstr.{TacInstr}
use Rattle.tac_ir.specs.declared.code.TacInstr.TheVariants as instr
use Rattle.place_inject.specs.Frames.{Setting}
use Rattle.place_inject.specs.Spills.{StackIsThere}
use Rattle.select_words.specs.Standing.{HasAt}
use Rattle.select_words.specs.Zeroing.{granules, ZeroWords}
use Rattle.select_runs.specs.Instructions.{IsAskedBy}
use Rattle.select_runs.specs.Kinds.{AreOfKinds}
use Rattle.select_runs.specs.Operands.{IsText, IsAtPoint}
use Rattle.select_runs.specs.Results.{GoesOnWithin, IsSelectable, before, kinds_in}
use Rattle.select_runs.specs.Selecting.{selecting}

-- The function goes on. For each granule there are eight acts beside what the instruction costs
abbrev pub ZeroesRun : Type 0
ZeroesRun =
    (s : Setting) (code : List Instr) → IsText s code → StackIsThere s → (w : World) (p : Typed) → IsAskedBy s p
    → (running : Running) (var : ℕ) (rest : List TacInstr) → IsSelectable s p running (instr.Zero var) rest
    → (at : ℕ) (t : State Store) (m : Machine) → IsAtPoint s code (before running (instr.Zero var) rest) at t m
    → AreOfKinds (kinds_in s running) t.vars
    → (words : List Instr) (form : ZeroWords (selecting s running.fun) var words) → HasAt code at words
    → GoesOnWithin (cost (instr.Zero var) + 8 * granules form.slot) s code w p running
    (instr.Zero var) rest words at t m
