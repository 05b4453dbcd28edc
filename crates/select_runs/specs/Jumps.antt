-- Jumps and branches to a label of the function.
use Rattle.std.specs.Prelude.{◌≡◌, ℕ, ◌+◌, ◌%◌, ◌^◌, ◌<◌, ◌≤◌, ℤ, Bool, List, [], ◌∷◌, length}
use Rattle.ck_base.specs.World.{World}
use Rattle.rv_instr.specs.declared.instr.Instr.{Instr}
use Rattle.rv_instr.specs.declared.instr.Instr.TheVariants.{Cjal}
use Rattle.cap_machine.specs.Integers.{extended}
use Rattle.cap_machine.specs.declared.machine.Machine.{Machine}
use Rattle.c_tree.specs.declared.typed.Typed.{Typed}
use Rattle.cheri_c_sem.specs.Modes.{Store, operations, placed_plan}
use Rattle.cheri_c_sem.specs.Steps.{State, Fate}
use Rattle.tac_ir.specs.Costs.{cost}
use Rattle.tac_ir.specs.Effects.{Next, On, To, effect}
use Rattle.tac_ir.specs.Meaning.{Running}
use Rattle.tac_ir.specs.Temps as temps
use Rattle.tac_ir.specs.declared.code.TacInstr.{TacInstr}
use Rattle.tac_ir.specs.declared.code.TacInstr.TheVariants as instr
use Rattle.place_inject.specs.Frames.{Setting}
use Rattle.select_words.specs.Standing.{HasAt}
use Rattle.select_words.specs.Jumps.{BranchWords}
use Rattle.select_runs.specs.Acts.{place}
use Rattle.select_runs.specs.Kinds.{AreOfKinds}
use Rattle.select_runs.specs.Operands.{ground_of, IsText, IsAtPoint}
use Rattle.select_runs.specs.Results.{Arrives, before, behind, kinds_in, code_in}
use Rattle.select_runs.specs.Selecting.{selecting}

-- so many bytes from a word on there is another, or the end of the code
pub record LeadsTo (s : Setting) (code : List Instr) (at to : ℕ) (z : ℤ) : Type 0 where
  pub from : at ≤ length code
  pub inside : to ≤ length code
  pub there : (place (ground_of s code) at + extended z) % 2 ^ 64 ≡ place (ground_of s code) to

-- The instruction leads to a label, in the meaning and on the machine: the function goes on with what stands behind
-- the label
pub record GoesTo (s : Setting) (code : List Instr) (w : World) (p : Typed) (running : Running) (i : TacInstr)
    (label : ℕ)
    (then_on : List TacInstr) (to : ℕ) (t : State Store) (m : Machine) : Type 0 where
  pub means : (k : Next → State Store → Fate)
      → effect (operations (placed_plan s.map)) w p (kinds_in s running) i t k ≡ k (To label) t
  pub does : Arrives s code (behind running then_on) 1 (cost i) to t m

-- to a label that is ahead; and to any label behind a Turn, at which the function is until the jump is done
pub record JumpsTo (s : Setting) (code : List Instr) (w : World) (p : Typed) (running : Running) (l : ℕ)
    (rest : List TacInstr)
    (at to : ℕ) (t : State Store) (m : Machine) : Type 0 where
  pub ahead : IsAtPoint s code (before running (instr.Jump l) rest) at t m
      → GoesTo s code w p running (instr.Jump l) l (temps.behind l rest) to t m
  pub back : IsAtPoint s code (before running instr.Turn (instr.Jump l ∷ rest)) at t m
      → GoesTo s code w p running (instr.Jump l) l (temps.behind l (code_in s running)) to t m

abbrev pub JumpsRun : Type 0
JumpsRun = (s : Setting) (code : List Instr) → IsText s code → (w : World) (p : Typed) (running : Running) (l : ℕ)
    (rest : List TacInstr) (at to : ℕ) (z : ℤ) → LeadsTo s code at to z → HasAt code at (Cjal 0 z ∷ [])
    → (t : State Store) (m : Machine) → JumpsTo s code w p running l rest at to t m

-- ---- branches

-- The function goes to the label, or on to what stands behind the branch
pub data Branches (s : Setting) (code : List Instr) (w : World) (p : Typed) (running : Running) (i : TacInstr)
    (label : ℕ)
    (then_on rest : List TacInstr) (to next : ℕ) (t : State Store) (m : Machine) : Type 0 where
  Taken : GoesTo s code w p running i label then_on to t m
      → Branches s code w p running i label then_on rest to next t m
  Passed : ((k : Next → State Store → Fate) → effect (operations (placed_plan s.map)) w p
      (kinds_in s running) i t k ≡ k On t)
      → Arrives s code (behind running rest) 0 (cost i) next t m
      → Branches s code w p running i label then_on rest to next t m

pub record BranchesTo (s : Setting) (code : List Instr) (w : World) (p : Typed) (running : Running) (on : ℕ)
    (when : Bool) (l : ℕ)
    (rest : List TacInstr) (at to next : ℕ) (t : State Store) (m : Machine) : Type 0 where
  pub ahead : IsAtPoint s code (before running (instr.Branch on when l) rest) at t m
      → Branches s code w p running (instr.Branch on when l) l (temps.behind l rest) rest to next t m
  pub back : IsAtPoint s code (before running instr.Turn (instr.Branch on when l ∷ rest)) at t m
      → Branches s code w p running (instr.Branch on when l) l (temps.behind l (code_in s running)) rest to next t m

abbrev pub BranchesRun : Type 0
BranchesRun = (s : Setting) (code : List Instr) → IsText s code → (w : World) (p : Typed) (running : Running) (on : ℕ)
    (when : Bool)
    (l : ℕ) (rest : List TacInstr) → on < length (kinds_in s running) → (at to : ℕ) (z : ℤ) (finds words : List Instr)
    → BranchWords (selecting s running.fun) on when z finds words → HasAt code at words → LeadsTo s code
    (at + length finds + 1) to z
    → (t : State Store) (m : Machine) → AreOfKinds (kinds_in s running) t.vars
    → BranchesTo s code w p running on when l rest at to (at + length words) t m
