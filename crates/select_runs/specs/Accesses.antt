-- Instructions that load and store: they go on to the next, or trap.
use Rattle.std.specs.Prelude.{◌≡◌, ℕ, ◌+◌, ◌<◌, List}
use Rattle.ck_base.specs.Runs.{Ends}
use Rattle.ck_base.specs.World.{World}
use Rattle.ck_base.specs.declared.positions.Pos.{Pos}
use Rattle.cap_ops.specs.declared.access.Cause.{Cause}
use Rattle.rv_instr.specs.declared.instr.Instr.{Instr}
use Rattle.cap_machine.specs.declared.end.End.TheVariants.{Trap}
use Rattle.cap_machine.specs.declared.machine.Machine.{Machine}
use Rattle.cap_machine.specs.Step.{act}
use Rattle.c_tree.specs.declared.typed.Typed.{Typed}
use Rattle.obj_mem.specs.declared.ending.Ending.TheVariants as ending
use Rattle.cheri_c_sem.specs.Modes as modes
use Rattle.cheri_c_sem.specs.Modes.{operations, placed_plan}
use Rattle.cheri_c_sem.specs.Steps.{State, Fate, over}
use Rattle.tac_ir.specs.Costs.{cost}
use Rattle.tac_ir.specs.Effects.{Next, effect}
use Rattle.tac_ir.specs.Meaning.{Running}
use Rattle.tac_ir.specs.declared.code.TacInstr.{TacInstr}
use Rattle.place_inject.specs.Frames.{Setting}
use Rattle.place_inject.specs.Spills.{StackIsThere}
use Rattle.select_words.specs.Standing.{HasAt}
use Rattle.select_words.specs.Accesses.{AccessWords, place_of, IsAccess}
use Rattle.select_runs.specs.Acts.{Leads, place}
use Rattle.select_runs.specs.Kinds.{AreOfKinds}
use Rattle.select_runs.specs.Operands.{ground_of, IsText, IsAtPoint}
use Rattle.select_runs.specs.Results.{GoesOn, IsSelectable, before, kinds_in}
use Rattle.select_runs.specs.Selecting.{selecting}

-- A trap ends the run behind fewer than so many acts: in the meaning at a place in the source, and on the machine at a
-- word, by the same cause
pub record TrapsWithin (most : ℕ) (s : Setting) (code : List Instr) (w : World) (p : Typed) (running : Running)
    (i : TacInstr) (source : Pos) (word : ℕ) (t : State modes.Store) (m : Machine) : Type 0 where
  pub cause : Cause
  pub means : (k : Next → State modes.Store → Fate)
      → effect (operations (placed_plan s.map)) w p (kinds_in s running) i t k ≡ over (ending.Trap cause source) t
  pub count : ℕ
  pub to : Machine
  pub lt : count < most
  pub leads : Leads count m to
  pub ends : act to ≡ Ends (Trap cause (place (ground_of s code) word))

abbrev pub Traps : Setting → List Instr → World → Typed → Running → TacInstr → Pos → (word : ℕ) → State modes.Store
    → Machine → Type 0
Traps s code w p running i source word t m = TrapsWithin (cost i) s code w p running i source word t m

-- The function goes on; a trap ends the run; or the meaning leaves what it speaks of
pub data Accesses (s : Setting) (code : List Instr) (w : World) (p : Typed) (running : Running) (i : TacInstr)
    (rest : List TacInstr) (words : List Instr) (source : Pos) (word at : ℕ) (t : State modes.Store)
    (m : Machine) : Type 0 where
  Goes : GoesOn s code w p running i rest words at t m → Accesses s code w p running i rest words source word at t m
  Stops : Traps s code w p running i source word t m → Accesses s code w p running i rest words source word at t m
  Leaves : ((k : Next → State modes.Store → Fate)
      → effect (operations (placed_plan s.map)) w p (kinds_in s running) i t k ≡ over (ending.Outside source) t)
      → Accesses s code w p running i rest words source word at t m

abbrev pub AccessesRun : Type 0
AccessesRun =
    (s : Setting) (code : List Instr) → IsText s code → StackIsThere s → (w : World) (p : Typed)
    → (running : Running) (i : TacInstr) (rest : List TacInstr) → IsAccess i → IsSelectable s p running i rest
    → (at : ℕ) (t : State modes.Store) (m : Machine) → IsAtPoint s code (before running i rest) at t m
    → AreOfKinds (kinds_in s running) t.vars
    → (skip : ℕ) (words : List Instr) → AccessWords (selecting s running.fun) i skip words → HasAt code at words
    → Accesses s code w p running i rest words (place_of i) (at + skip) at t m
