-- Calls through values: of a function, or of what is none.
use Rattle.std.specs.Prelude.{◌≡◌, ℕ, ◌+◌, true, false, List, length, Some, slice_index_or, Option}
use Rattle.ck_base.specs.World.{World}
use Rattle.ck_base.specs.declared.positions.Pos.{Pos}
use Rattle.rv_instr.specs.declared.instr.Instr.{Instr}
use Rattle.cap_machine.specs.declared.machine.Machine.{Machine}
use Rattle.c_tree.specs.declared.typed.Typed.{Typed}
use Rattle.cheri_c_sem.specs.Modes.{Store, operations, placed_plan, frame_within}
use Rattle.cheri_c_sem.specs.Steps.{State, Fate, over}
use Rattle.obj_mem.specs.declared.ending.Ending.TheVariants as ending
use Rattle.obj_mem.specs.Table.{addresses_of}
use Rattle.obj_mem.specs.Values.{Fun}
use Rattle.tac_ir.specs.Costs.{cost, prologue_cost}
use Rattle.tac_ir.specs.Effects.{Next, Into, effect, fits, temp_in}
use Rattle.tac_ir.specs.Meaning.{Running, entry_temps}
use Rattle.tac_ir.specs.declared.code.TacInstr.{TacInstr}
use Rattle.place_inject.specs.Frames.{Setting, IsLive}
use Rattle.place_inject.specs.Entering.{caller_of, entry_of, entered}
use Rattle.place_inject.specs.Spills.{StackIsThere}
use Rattle.select_words.specs.Standing.{HasAt}
use Rattle.select_words.specs.Through.{ThroughWords, through}
use Rattle.select_runs.specs.Accesses.{TrapsWithin}
use Rattle.select_runs.specs.Acts.{place}
use Rattle.select_runs.specs.Calling.{Begins, begin_words, HasWords, EntersWithin, MayCall, values}
use Rattle.select_runs.specs.Operands.{ground_of, IsText, IsAtPoint}
use Rattle.select_runs.specs.Results.{before, kinds_in}
use Rattle.select_runs.specs.Selecting.{selecting}

-- ---- what is called

-- a function that may be called with these arguments: its sentry leads to its first word
pub record IsCallee (s : Setting) (code : List Instr) (running : Running) (to : Option ℕ) (args : List ℕ)
    (rest : List TacInstr) (t : State Store) (f : ℕ) : Type 0 where
  pub body : List TacInstr
  pub begins : Begins s code f (length args) body
      (IsLive s (entry_of f (caller_of running rest to t) running.callers body))
  pub leads : (addresses_of s.map).entry f ≡ place (ground_of s code) begins.entry

-- the value is the function's, and its type is compatible with that of the call
abbrev pub IsCalled : Setting → World → Typed → (v of : ℕ) → State Store → (f : ℕ) → Type 0
IsCalled s w p v of t f =
    (temp_in t v ≡ Fun f) × (slice_index_or (fits (operations (placed_plan s.map)) w p of) f false ≡ true)

-- ---- what a call does

-- The function is entered, at what is given of it, or its first store traps; the jump traps as the meaning does; or the
-- meaning leaves what it speaks of, where the function's type is another
pub data CallsThrough (s : Setting) (code : List Instr) (w : World) (p : Typed) (running : Running) (i : TacInstr)
    (to : Option ℕ) (args : List ℕ) (rest : List TacInstr) (source : Pos) (word : ℕ) (t : State Store)
    (m : Machine) (Called : ℕ → Type 0)
    (callees : (f : ℕ) → Called f → IsCallee s code running to args rest t f) : Type 0 where
  Enters : (f : ℕ) (is : Called f)
      → ((k : Next → State Store → Fate)
      → effect (operations (placed_plan s.map)) w p (kinds_in s running) i t k ≡ k (Into f (values t args) to) t)
      → EntersWithin s code (cost i + prologue_cost (length args)) (callees f is).begins.entry
      ((callees f is).begins.entry
      + length (begin_words s f (callees f is).begins.frame (callees f is).begins.words)) (callees f is).begins.frame
      (entry_of f (caller_of running rest to t) running.callers (callees f is).body)
      (λ place'. entered s f place' (callees f is).begins.lengths
      (entry_temps (callees f is).begins.kinds (values t args)) t) m
      (frame_within s.map.stack.0 t.frame (Some (callees f is).begins.frame))
      → CallsThrough s code w p running i to args rest source word t m Called callees
  Stops : TrapsWithin (cost i) s code w p running i source word t m
      → CallsThrough s code w p running i to args rest source word t m Called callees
  Leaves : ((k : Next → State Store → Fate)
      → effect (operations (placed_plan s.map)) w p (kinds_in s running) i t k ≡ over (ending.Outside source) t)
      → CallsThrough s code w p running i to args rest source word t m Called callees

abbrev pub CallsThroughValuesRun : Type 0
CallsThroughValuesRun = (s : Setting) (code : List Instr) → IsText s code → StackIsThere s
    → (w : World) (p : Typed) (running : Running) (to : Option ℕ)
    (v of : ℕ) (args : List ℕ) (source : Pos) (rest : List TacInstr) (at : ℕ) (t : State Store) (m : Machine)
    → IsAtPoint s code (before running (through to v of args source) rest) at t m → HasWords m
    → (callees : (f : ℕ) → IsCalled s w p v of t f → IsCallee s code running to args rest t f)
    → (words : List Instr) (form : ThroughWords (selecting s running.fun) v args words) → HasAt code at words
    → MayCall s code running to args rest (at + length words) t
    → CallsThrough s code w p running (through to v of args source) to args rest source
    (at + length form.finds + length form.passes) t m (IsCalled s w p v of t) callees
