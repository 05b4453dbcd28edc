-- Returns: to the caller, which goes on with the result, and from the first function to the end of the run.
use Rattle.std.specs.Prelude.{◌≡◌, ℕ, ◌+◌, ◌%◌, ◌<◌, ◌≤◌, List, [], ◌∷◌, length, Option, Some, None, slice_get}
use Rattle.ck_base.specs.Runs.{Ends}
use Rattle.ck_base.specs.World.{World}
use Rattle.rv_instr.specs.declared.instr.Instr.{Instr}
use Rattle.cap_machine.specs.declared.end.End.TheVariants as end
use Rattle.cap_machine.specs.declared.machine.Machine.{Machine}
use Rattle.cap_machine.specs.Step.{act}
use Rattle.c_tree.specs.declared.typed.Typed.{Typed}
use Rattle.cheri_c_sem.specs.Kinds.{number_of, nothing}
use Rattle.cheri_c_sem.specs.Modes.{Store, operations, placed_plan}
use Rattle.cheri_c_sem.specs.Steps.{State, Fate}
use Rattle.obj_mem.specs.Values.{Value, Int}
use Rattle.tac_ir.specs.Costs.{cost}
use Rattle.tac_ir.specs.Effects.{Next, Back, effect, held}
use Rattle.tac_ir.specs.Meaning.{Caller, Running, with_result}
use Rattle.tac_ir.specs.declared.code.TacInstr.{TacInstr}
use Rattle.tac_ir.specs.declared.code.TacInstr.TheVariants as instr
use Rattle.place_inject.specs.Frames.{Setting, Point, locals_by}
use Rattle.place_inject.specs.Homes.{CallersKeep}
use Rattle.place_inject.specs.Leaving.{OthersAreOlder, caller_at, returned}
use Rattle.place_inject.specs.Spills.{StackIsThere}
use Rattle.select_words.specs.Standing.{HasAt}
use Rattle.select_words.specs.Services.{KeepSome, ask}
use Rattle.select_words.specs.Returning.{ReturnWords}
use Rattle.select_runs.specs.Acts.{Leads, place}
use Rattle.select_runs.specs.Operands.{ground_of, IsText, IsAtPoint}
use Rattle.select_runs.specs.Results.{MayTake, Arrives, before, kinds_in}
use Rattle.select_runs.specs.Selecting.{selecting}

-- ---- where the caller goes on

-- At a word of the code, to which the callee returns, stand the words that keep c10 as the temp for the result, whose
-- home is free for it
pub record ResumesAt (s : Setting) (code : List Instr) (c : Caller) (cs : List Caller) (at : ℕ)
    (keep : List Instr) : Type 0 where
  pub is : s.back c.fun c.rest ≡ place (ground_of s code) at
  pub inside : at < length code
  pub kept : KeepSome (selecting s c.fun) c.to keep
  pub words : HasAt code at keep
  pub free : (temp : ℕ) → c.to ≡ Some temp → MayTake s (caller_at c cs c.rest) temp

-- a caller that asks for a result gets one
abbrev pub Gives : Option ℕ → Option ℕ → Type 0
Gives None (Some to) = ⊥
Gives v to = Unit {0}

-- ---- what a return does

abbrev pub value_of : State Store → Option ℕ → Value
value_of t None = nothing
value_of t (Some temp) = held (slice_get t.vars temp)

abbrev pub ending : Running → Option ℕ → List TacInstr → Point
ending running v rest = before running (instr.Return v) rest

-- the caller's state with the result, in which the callee's locals, of these lengths, have ended
abbrev pub resumed : Setting → List ℕ → Caller → Option ℕ → State Store → State Store
resumed s lengths c v t = record (returned s lengths c t) { vars = with_result c.vars c.to (value_of t v) }

-- The function gives its value back: in the meaning, and to its caller on the machine. So many acts lead there as the
-- return costs, and what keeps the result
pub record ReturnsTo (s : Setting) (code : List Instr) (w : World) (p : Typed) (running : Running) (v : Option ℕ)
    (c : Caller) (cs : List Caller) (end : ℕ) (t : State Store) (m : Machine) : Type 0 where
  pub means : (k : Next → State Store → Fate)
      → effect (operations (placed_plan s.map)) w p (kinds_in s running) (instr.Return v) t k
      ≡ k (Back (value_of t v)) t
  pub does : (lengths : List ℕ) → length lengths ≡ length (locals_by (slice_get s.needs.functions running.fun))
      → Arrives s code (caller_at c cs c.rest) 1 (cost (instr.Return v) + 3) end (resumed s lengths c v t) m

abbrev pub ReturnsRun : Type 0
ReturnsRun = (s : Setting) (code : List Instr) → IsText s code → StackIsThere s → (w : World) (p : Typed) (fun : ℕ)
    (v : Option ℕ) (c : Caller) (cs : List Caller) (rest : List TacInstr) (at : ℕ) (t : State Store) (m : Machine)
    → IsAtPoint s code (ending (record { fun = fun; callers = c ∷ cs }) v rest) at t m
    → CallersKeep s (c ∷ cs) → OthersAreOlder s t.first (c ∷ cs) → Gives v c.to
    → (words : List Instr) → ReturnWords (selecting s fun) v words → HasAt code at words
    → (to : ℕ) (keep : List Instr) → ResumesAt s code c cs to keep
    → ReturnsTo s code w p (record { fun = fun; callers = c ∷ cs }) v c cs (to + length keep) t m

-- ---- the last return

-- the text goes on at a word behind the first call, where the run ends by the value
pub record StubAt (s : Setting) (code : List Instr) (at : ℕ) : Type 0 where
  pub is : s.stub ≡ place (ground_of s code) at
  pub words : HasAt code at (ask 3)

pub record EndsRun (s : Setting) (w : World) (p : Typed) (running : Running) (v : ℕ) (t : State Store)
    (m : Machine) : Type 0 where
  pub means : (k : Next → State Store → Fate)
      → effect (operations (placed_plan s.map)) w p (kinds_in s running) (instr.Return (Some v)) t k
      ≡ k (Back (value_of t (Some v))) t
  pub count : ℕ
  pub few : count ≤ cost (instr.Return (Some v)) + 1
  pub asks : Machine
  pub leads : Leads count m asks
  pub ends : act asks ≡ Ends (end.Exit (number_of (value_of t (Some v)) % 256))

-- The first function returns an integer
abbrev pub LastReturnsRun : Type 0
LastReturnsRun = (s : Setting) (code : List Instr) → IsText s code → StackIsThere s → (w : World) (p : Typed)
    (fun v : ℕ) (rest : List TacInstr) (at : ℕ) (t : State Store) (m : Machine)
    → IsAtPoint s code (ending (record { fun = fun; callers = [] }) (Some v) rest) at t m
    → value_of t (Some v) ≡ Int (number_of (value_of t (Some v)))
    → (words : List Instr) → ReturnWords (selecting s fun) (Some v) words → HasAt code at words
    → (to : ℕ) → StubAt s code to
    → EndsRun s w p (record { fun = fun; callers = [] }) v t m
