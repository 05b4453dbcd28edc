-- Calls: the arguments are passed, the machine jumps, and the function is entered; or the stack has no room for it.
use Rattle.std.specs.Prelude.{◌≡◌, ℕ, ◌+◌, ◌^◌, ◌<◌, ◌≤◌, ℤ, pos, List, [], ◌∷◌, ◌++◌, length, map, Option, Some, None}
use Rattle.std.specs.Prelude.{slice_get}
use Rattle.ck_base.specs.Runs.{Ends}
use Rattle.ck_base.specs.World.{World}
use Rattle.cap_ops.specs.declared.access.Cause.{Cause}
use Rattle.rv_instr.specs.declared.instr.Instr.{Instr}
use Rattle.rv_instr.specs.declared.instr.Instr.TheVariants.{Cjal, Cjalr}
use Rattle.cap_machine.specs.declared.end.End.TheVariants.{Trap}
use Rattle.cap_machine.specs.declared.machine.Machine.{Machine}
use Rattle.cap_machine.specs.State.{register}
use Rattle.cap_machine.specs.Step.{act}
use Rattle.c_tree.specs.declared.typed.Typed.{Typed}
use Rattle.cheri_c_sem.specs.Modes.{Store, operations, placed_plan, frame_within}
use Rattle.cheri_c_sem.specs.Steps.{State, Fate}
use Rattle.obj_mem.specs.declared.map.Frame.{Frame}
use Rattle.obj_mem.specs.Table.{addresses_of, function_entry}
use Rattle.obj_mem.specs.Values.{Value}
use Rattle.purecap_abi.specs.Ends.{before_store, prologue_code}
use Rattle.purecap_abi.specs.Saving.{registers_at}
use Rattle.tac_ir.specs.Costs.{cost, prologue_cost}
use Rattle.tac_ir.specs.Effects.{Next, Into, effect, temp_in}
use Rattle.tac_ir.specs.Meaning.{Running, entry_temps}
use Rattle.tac_ir.specs.declared.code.TacInstr.{TacInstr}
use Rattle.tac_ir.specs.declared.code.TacInstr.TheVariants as instr
use Rattle.tac_ir.specs.declared.code.TacKind.{TacKind}
use Rattle.place_inject.specs.Frames.{Setting, Point, IsLive, homes_of}
use Rattle.place_inject.specs.Fits.{Fits}
use Rattle.place_inject.specs.Entering.{IsFrameOf, caller_of, entry_of, first_of, entered}
use Rattle.place_inject.specs.Homes.{CallersKeep}
use Rattle.place_inject.specs.Spills.{StackIsThere}
use Rattle.place_inject.specs.Tables.{TableIsThere}
use Rattle.select_words.specs.Standing.{HasAt}
use Rattle.select_words.specs.Entries.{stack_place, ParameterWords}
use Rattle.select_words.specs.Calling.{CallWords, FarCallWords, FindsEntry}
use Rattle.select_runs.specs.Acts.{Leads, counter_at, place}
use Rattle.select_runs.specs.Entries.{AreParameters}
use Rattle.select_runs.specs.Jumps.{LeadsTo}
use Rattle.select_runs.specs.Operands.{ground_of, IsText, IsAtPoint}
use Rattle.select_runs.specs.Results.{Arrives, before, kinds_in}
use Rattle.select_runs.specs.Selecting.{selecting}

-- ---- the function that is entered

-- Of a function with so many parameters: its frame, its locals' lengths, and the words that it begins with, at a word
-- of the code. From the start of its instructions on only parameters are to be read
pub record Begins (s : Setting) (code : List Instr) (fun count : ℕ) (body : List TacInstr)
    (live : ℕ → Type 0) : Type 0 where
  pub lengths : List ℕ
  pub frame : Frame
  pub is_frame : IsFrameOf s fun lengths frame
  pub parameters : AreParameters s fun count
  pub reads : (temp : ℕ) → live temp → temp < count
  pub kinds : List TacKind
  pub one_each : length (homes_of s fun) ≡ length kinds
  pub enough : count ≤ length kinds
  pub entry : ℕ
  pub words : List Instr
  pub parameter_words : ParameterWords (selecting s fun) count words
  pub has : HasAt code entry (prologue_code (homes_of s fun) frame ++ words)

abbrev pub begin_words : (s : Setting) (fun : ℕ) → Frame → List Instr → List Instr
begin_words s fun frame words = prologue_code (homes_of s fun) frame ++ words

-- addresses have 64 bits, in all that the machine comes to
abbrev pub HasWords : Machine → Type 0
HasWords m = (k : ℕ) (n : Machine) → Leads k m n → (r : ℕ) → (register n r).fields.address < 2 ^ 64

-- ---- what is reached

-- the first store of the function traps
pub record SinksWithin (s : Setting) (code : List Instr) (most entry : ℕ) (frame : Frame) (m : Machine) : Type 0 where
  pub count : ℕ
  pub few : count ≤ most
  pub sinks : Machine
  pub leads : Leads count m sinks
  pub cause : Cause
  pub ends : act sinks ≡ Ends (Trap cause (place (ground_of s code) (entry + length (before_store frame))))

-- as the meaning's frame is within the stack or not
abbrev pub EntersWithin : (s : Setting) (code : List Instr) (most entry end : ℕ) → Frame → Point
    → (ℕ → State Store) → Machine → Option ℕ → Type 0
EntersWithin s code most entry end frame p at m (Some place) = Arrives s code p 1 most end (at place) m
EntersWithin s code most entry end frame p at m None = SinksWithin s code most entry frame m

-- ---- a call

-- what is asked of the caller: its frame has places for the arguments, what callers need waits where functions keep it,
-- and the word behind the call is the one to which the function returns
pub record MayCall (s : Setting) (code : List Instr) (running : Running) (to : Option ℕ) (args : List ℕ)
    (rest : List TacInstr) (behind : ℕ) (t : State Store) : Type 0 where
  pub frame : Frame
  pub is : slice_get s.map.frames running.fun ≡ Some frame
  pub room : stack_place (length args) ≤ registers_at (homes_of s running.fun) frame
  pub keeps : CallersKeep s (caller_of running rest to t ∷ running.callers)
  pub back : s.back running.fun rest ≡ place (ground_of s code) behind

abbrev pub values : State Store → List ℕ → List Value
values t args = map (temp_in t) args

-- The meaning goes into the function, and the machine is in it, or traps at its first store
pub record CallsInto (s : Setting) (code : List Instr) (w : World) (p : Typed) (running : Running) (i : TacInstr)
    (to : Option ℕ) (fun : ℕ) (args : List ℕ) (rest body : List TacInstr) (most : ℕ) (t : State Store) (m : Machine)
    (b : Begins s code fun (length args) body
    (IsLive s (entry_of fun (caller_of running rest to t) running.callers body))) : Type 0 where
  pub means : (k : Next → State Store → Fate)
      → effect (operations (placed_plan s.map)) w p (kinds_in s running) i t k ≡ k (Into fun (values t args) to) t
  pub does : EntersWithin s code most b.entry (b.entry + length (begin_words s fun b.frame b.words)) b.frame
      (entry_of fun (caller_of running rest to t) running.callers body)
      (λ place. entered s fun place b.lengths (entry_temps b.kinds (values t args)) t) m
      (frame_within s.map.stack.0 t.frame (Some b.frame))

abbrev pub CallsRun : Type 0
CallsRun = (s : Setting) (code : List Instr) → IsText s code → StackIsThere s → (w : World) (p : Typed)
    (running : Running) (to : Option ℕ) (fun : ℕ) (args : List ℕ) (rest body : List TacInstr) (at : ℕ) (t : State Store)
    (m : Machine) → IsAtPoint s code (before running (instr.Call to fun args) rest) at t m → HasWords m
    → (b : Begins s code fun (length args) body
    (IsLive s (entry_of fun (caller_of running rest to t) running.callers body)))
    → (z : ℤ) (words : List Instr) (form : CallWords (selecting s running.fun) args z words)
    → HasAt code at words → LeadsTo s code (at + length form.passes) b.entry z
    → MayCall s code running to args rest (at + length words) t
    → CallsInto s code w p running (instr.Call to fun args) to fun args rest body
    (cost (instr.Call to fun args) + prologue_cost (length args)) t m b

-- the callee's sentry, which the table has, leads to its first word
abbrev pub FarCallsRun : Type 0
FarCallsRun = (s : Setting) (code : List Instr) → IsText s code → StackIsThere s → TableIsThere s → (w : World)
    (p : Typed) (running : Running) (to : Option ℕ) (fun : ℕ) (args : List ℕ) (rest body : List TacInstr) (at : ℕ)
    (t : State Store) (m : Machine) → IsAtPoint s code (before running (instr.Call to fun args) rest) at t m
    → HasWords m → (b : Begins s code fun (length args) body
    (IsLive s (entry_of fun (caller_of running rest to t) running.callers body)))
    → (words : List Instr) → FarCallWords (selecting s running.fun) fun args words → HasAt code at words
    → (addresses_of s.map).entry fun ≡ place (ground_of s code) b.entry
    → MayCall s code running to args rest (at + length words) t
    → CallsInto s code w p running (instr.Call to fun args) to fun args rest body
    (cost (instr.Call to fun args) + prologue_cost (length args)) t m b

-- ---- the first function

-- It has no parameters, and is called by the first word of the text
abbrev pub FirstIsEntered : Type 0
FirstIsEntered = (s : Setting) (code : List Instr) → IsText s code → StackIsThere s → (fun at : ℕ)
    (body : List TacInstr) (t : State Store) (m : Machine) → Fits s None t m → m.pc ≡ counter_at (ground_of s code) at
    → HasWords m → (b : Begins s code fun 0 body (IsLive s (first_of fun body)))
    → (z : ℤ) → slice_get code at ≡ Some (Cjal 1 z) → LeadsTo s code at b.entry z
    → s.stub ≡ place (ground_of s code) (at + 1)
    → EntersWithin s code (prologue_cost 0) b.entry
    (b.entry + length (begin_words s fun b.frame b.words)) b.frame (first_of fun body)
    (λ place. entered s fun place b.lengths (entry_temps b.kinds []) t) m
    (frame_within s.map.stack.0 t.frame (Some b.frame))

-- or by the word behind those that bring its sentry from the table
abbrev pub FarFirstIsEntered : Type 0
FarFirstIsEntered = (s : Setting) (code : List Instr) → IsText s code → StackIsThere s → TableIsThere s → (fun at : ℕ)
    (body : List TacInstr) (t : State Store) (m : Machine) → Fits s None t m → m.pc ≡ counter_at (ground_of s code) at
    → HasWords m → (b : Begins s code fun 0 body (IsLive s (first_of fun body)))
    → (finds : List Instr) → FindsEntry (function_entry s.needs fun) finds
    → HasAt code at (finds ++ Cjalr 1 31 (pos 0) ∷ [])
    → (addresses_of s.map).entry fun ≡ place (ground_of s code) b.entry
    → s.stub ≡ place (ground_of s code) (at + length finds + 1)
    → EntersWithin s code (prologue_cost 0) b.entry
    (b.entry + length (begin_words s fun b.frame b.words)) b.frame (first_of fun body)
    (λ place. entered s fun place b.lengths (entry_temps b.kinds []) t) m
    (frame_within s.map.stack.0 t.frame (Some b.frame))
