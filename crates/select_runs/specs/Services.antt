-- Calls of the library that speak with the outside: `putchar`, `getchar` and `exit`.
use Rattle.std.specs.Prelude.{◌≡◌, ℕ, ◌+◌, ◌<◌, ◌≤◌, List, [], ◌∷◌, length, Option, Some, None}
use Rattle.ck_base.specs.Runs.{Puts, Reads, Ends}
use Rattle.ck_base.specs.World.{World, Done}
use Rattle.rv_instr.specs.declared.instr.Instr.{Instr}
use Rattle.cap_machine.specs.declared.end.End.TheVariants as end
use Rattle.cap_machine.specs.declared.machine.Machine.{Machine}
use Rattle.cap_machine.specs.Step.{act}
use Rattle.c_tree.specs.declared.typed.Typed.{Typed}
use Rattle.obj_mem.specs.declared.ending.Ending.TheVariants as ending
use Rattle.obj_mem.specs.Values.{Value, Int}
use Rattle.cheri_c_sem.specs.Modes.{Store, operations, placed_plan}
use Rattle.cheri_c_sem.specs.Steps.{State, Fate, over, put, get, byte_or_end}
use Rattle.tac_ir.specs.Costs.{cost}
use Rattle.tac_ir.specs.Effects.{Next, effect, set_optional}
use Rattle.tac_ir.specs.Meaning.{Running, with_result}
use Rattle.tac_ir.specs.Temps.{IsIn as IsAmong, in_option}
use Rattle.tac_ir.specs.declared.code.TacInstr.{TacInstr}
use Rattle.place_inject.specs.Frames.{Setting, IsLive, homes_of}
use Rattle.place_inject.specs.Registers.{UsesOnly, CallersUseOnly}
use Rattle.place_inject.specs.Spills.{StackIsThere}
use Rattle.select_words.specs.Standing.{HasAt}
use Rattle.select_words.specs.Services.{Asks, IsAside, putting, taking, leaving}
use Rattle.select_runs.specs.Acts.{Leads}
use Rattle.select_runs.specs.Kinds.{AreOfKinds}
use Rattle.select_runs.specs.Operands.{IsText, IsAtPoint}
use Rattle.select_runs.specs.Results.{Arrives, IsSelectable, before, behind, kinds_in}
use Rattle.select_runs.specs.Selecting.{selecting}

-- ---- what is asked of homes

-- the temps that are to be read behind the call, but for that of the result, stand in no register of an argument, nor
-- do those of the callers
pub record StandsAside (s : Setting) (running : Running) (to : Option ℕ) (rest : List TacInstr) : Type 0 where
  pub own : UsesOnly IsAside (homes_of s running.fun)
      (λ k. (IsAmong k (in_option to) → ⊥) × IsLive s (behind running rest) k)
  pub callers : CallersUseOnly s IsAside running.callers

-- ---- what they do

-- the state behind, in which this was done with the outside and the temp for the result has a value
abbrev pub served : State Store → Option ℕ → Done → Value → State Store
served t to done v = record t { vars = with_result t.vars to v; done = done }

-- A byte is put: by the meaning, and by the machine so many acts on. Whatever was then done, the function goes on
pub record PutsByte (s : Setting) (code : List Instr) (w : World) (p : Typed) (running : Running) (i : TacInstr)
    (to : Option ℕ) (rest : List TacInstr) (words : List Instr) (at : ℕ) (t : State Store) (m : Machine) : Type 0 where
  pub byte : ℕ
  pub means : (k : Next → State Store → Fate) → effect (operations (placed_plan s.map)) w p (kinds_in s running) i t k
      ≡ put w byte t (λ _ u. set_optional to (Int byte) u k)
  pub kinded : AreOfKinds (kinds_in s running) (with_result t.vars to (Int byte))
  pub count : ℕ
  pub most : ℕ
  pub few : count + 1 + most ≤ cost i
  pub asks : Machine
  pub leads : Leads count m asks
  pub after : Machine
  pub puts : act asks ≡ Puts byte after
  pub goes : (done : Done) → Arrives s code (behind running rest) 0 most (at + length words)
      (served t to done (Int byte)) after

-- a byte, or the end of the input
abbrev pub IsByteOrEnd : Option ℕ → Type 0
IsByteOrEnd None = Unit {0}
IsByteOrEnd (Some byte) = byte < 256

-- A byte is taken, or the end
pub record TakesByte (s : Setting) (code : List Instr) (w : World) (p : Typed) (running : Running) (i : TacInstr)
    (to : Option ℕ) (rest : List TacInstr) (words : List Instr) (at : ℕ) (t : State Store) (m : Machine) : Type 0 where
  pub means : (k : Next → State Store → Fate) → effect (operations (placed_plan s.map)) w p (kinds_in s running) i t k
      ≡ get w t (λ b u. set_optional to (byte_or_end b) u k)
  pub kinded : (b : Option ℕ) → IsByteOrEnd b
      → AreOfKinds (kinds_in s running) (with_result t.vars to (byte_or_end b))
  pub count : ℕ
  pub most : ℕ
  pub few : count + 1 + most ≤ cost i
  pub asks : Machine
  pub leads : Leads count m asks
  pub after : Option ℕ → Machine
  pub reads : act asks ≡ Reads after
  pub goes : (b : Option ℕ) (done : Done) → IsByteOrEnd b → Arrives s code (behind running rest) 0 most
      (at + length words) (served t to done (byte_or_end b)) (after b)

-- The run ends
pub record ExitsBy (s : Setting) (w : World) (p : Typed) (running : Running) (i : TacInstr) (t : State Store)
    (m : Machine) : Type 0 where
  pub byte : ℕ
  pub means : (k : Next → State Store → Fate) → effect (operations (placed_plan s.map)) w p (kinds_in s running) i t k
      ≡ over (ending.Exit byte) t
  pub count : ℕ
  pub lt : count < cost i
  pub asks : Machine
  pub leads : Leads count m asks
  pub ends : act asks ≡ Ends (end.Exit byte)

-- At each point at which a call of the library is the next, whose words ask for the service of a number
abbrev pub Serves : (args : List ℕ) → (k : ℕ) → TacInstr → Option ℕ → (Setting → List Instr → World → Typed → Running
    → List TacInstr → List Instr → ℕ → State Store → Machine → Type 0) → Type 0
Serves args k i to Does =
    (s : Setting) (code : List Instr) → IsText s code → StackIsThere s → (w : World) (p : Typed) (running : Running)
    (rest : List TacInstr) → IsSelectable s p running i rest → StandsAside s running to rest
    → (at : ℕ) (t : State Store) (m : Machine) → IsAtPoint s code (before running i rest) at t m
    → AreOfKinds (kinds_in s running) t.vars
    → (words : List Instr) → Asks (selecting s running.fun) args k to words → HasAt code at words
    → Does s code w p running rest words at t m

abbrev pub PutsRun : Type 0
PutsRun = (to : Option ℕ) (a : ℕ) → Serves (a ∷ []) 1 (putting to a) to
    (λ s code w p running rest words at t m. PutsByte s code w p running (putting to a) to rest words at t m)

abbrev pub TakesRun : Type 0
TakesRun = (to : Option ℕ) → Serves [] 2 (taking to) to
    (λ s code w p running rest words at t m. TakesByte s code w p running (taking to) to rest words at t m)

abbrev pub ExitsRun : Type 0
ExitsRun = (a : ℕ) → Serves (a ∷ []) 3 (leaving a) None
    (λ s code w p running rest words at t m. ExitsBy s w p running (leaving a) t m)
