-- A result goes home, and an instruction of three-address code that goes on to the next.
use Rattle.std.specs.Prelude.{◌≡◌, ◌≢◌, ◌⊎◌, ℕ, ◌+◌, ◌<◌, ◌≤◌, true, List, ◌∷◌, length, Some, None, slice_get}
use Rattle.std.specs.Prelude.{slice_set}
use Rattle.ck_base.specs.World.{World}
use Rattle.cap_ops.specs.declared.capability.Cap.{Cap}
use Rattle.rv_instr.specs.declared.instr.Instr.{Instr}
use Rattle.cap_machine.specs.declared.machine.Machine.{Machine}
use Rattle.cap_machine.specs.State.{register}
use Rattle.c_tree.specs.declared.typed.FunDef.{FunDef}
use Rattle.c_tree.specs.declared.typed.Typed.{Typed}
use Rattle.obj_mem.specs.Objects.{base_in}
use Rattle.obj_mem.specs.Table.{addresses_of}
use Rattle.obj_mem.specs.Values.{Value, capability_of}
use Rattle.cheri_c_sem.specs.Modes.{Store, operations, placed_plan}
use Rattle.cheri_c_sem.specs.Steps.{State, Fate}
use Rattle.reg_alloc.specs.declared.places.Home.TheVariants.{Register, Slot}
use Rattle.tac_ir.specs.Costs.{cost}
use Rattle.tac_ir.specs.Effects.{Next, On, effect}
use Rattle.tac_ir.specs.Meaning.{Running, kinds_of, code_of}
use Rattle.tac_ir.specs.Temps.{IsIn as IsAmong, writes}
use Rattle.tac_ir.specs.WellFormed.{instruction_fits}
use Rattle.tac_ir.specs.declared.code.TacInstr.{TacInstr}
use Rattle.tac_ir.specs.declared.code.TacInstr.TheVariants as instr
use Rattle.tac_ir.specs.declared.code.TacKind.{TacKind}
use Rattle.place_inject.specs.Values.{IsKnown}
use Rattle.place_inject.specs.Frames.{Setting, Point, homes_of, functions_of}
use Rattle.place_inject.specs.Homes.{HomeIsFree, onward, ReadsNoMore}
use Rattle.place_inject.specs.Spills.{SlotIsFree, StackIsThere}
use Rattle.select_words.specs.Selecting.{Selecting}
use Rattle.select_words.specs.Standing.{HasAt}
use Rattle.select_words.specs.Emitted.{IsIn, Keep}
use Rattle.select_runs.specs.Acts.{Leads, counter_at}
use Rattle.select_runs.specs.Kinds.{AreOfKinds}
use Rattle.select_runs.specs.Operands.{ground_of, IsText, IsAtPoint}
use Rattle.select_runs.specs.Selecting.{selecting}

-- ---- results

-- So many acts lead to a word, where a register has a capability. No register up to c27 but `changed` is another than
-- it was, and
-- memory is as it was
pub record Computed (s : Setting) (code : List Instr) (m : Machine) (count at changed r : ℕ) (c : Cap) : Type 0 where
  pub to : Machine
  pub leads : Leads count m to
  pub counter : to.pc ≡ counter_at (ground_of s code) at
  pub registers : length to.regs ≡ 32
  pub holds : register to r ≡ c
  pub others : (q : ℕ) → q < 28 → (q ≡ changed → ⊥) → register to q ≡ register m q
  pub memory : to.mem ≡ m.mem

-- a register that the value of a temp may be computed in: one that is no home, or the temp's own
abbrev pub MayChange : Setting → (fun temp changed : ℕ) → Type 0
MayChange s fun temp changed = (28 ≤ changed) ⊎ IsIn (selecting s fun) temp changed

-- A temp that is no number has a home, and no other temp that is to be read from a point on stands in it
pub record MayTake (s : Setting) (p : Point) (temp : ℕ) : Type 0 where
  pub stands : s.numbers p.running.fun temp ≡ None
  pub register : (r : ℕ) → slice_get (homes_of s p.running.fun) temp ≡ Some (Register r) → HomeIsFree s p temp r
  pub slot : (k : ℕ) → slice_get (homes_of s p.running.fun) temp ≡ Some (Slot k) → SlotIsFree s p temp k

-- At least and at most so many acts lead to a machine that stands for a state at a point, at a word
pub record Arrives (s : Setting) (code : List Instr) (p : Point) (least most at : ℕ) (t : State Store)
    (m : Machine) : Type 0 where
  pub count : ℕ
  pub to : Machine
  pub ge : least ≤ count
  pub le : count ≤ most
  pub leads : Leads count m to
  pub point : IsAtPoint s code p at t to

-- A value that was computed in the register for it comes into its temp
abbrev pub ResultsGoHome : Type 0
ResultsGoHome = (s : Setting) (code : List Instr) → IsText s code → StackIsThere s
    → (p : Point) (at : ℕ) (t : State Store) (m : Machine) → IsAtPoint s code p at t m
    → (rest : List TacInstr) (temp : ℕ) → MayTake s (onward p rest) temp → ReadsNoMore s p rest temp
    → (v : Value) → IsKnown t.mem.memory.shapes (functions_of s) v
    → (count mid changed r : ℕ) → MayChange s p.running.fun temp changed → r ≢ 31
    → Computed s code m count mid changed r (capability_of (addresses_of s.map) (base_in t.mem.memory.shapes) v)
    → (words : List Instr) → Keep (selecting s p.running.fun) temp r words → HasAt code mid words
    → Arrives s code (onward p rest) count (count + length words) (mid + length words)
    (record t { vars = slice_set t.vars temp (Some v) }) m

-- ---- instructions

-- The function that runs goes on with an instruction
abbrev pub before : Running → TacInstr → List TacInstr → Point
before running i rest = record { running = running; rest = i ∷ rest }

abbrev pub behind : Running → List TacInstr → Point
behind running rest = record { running = running; rest = rest }

abbrev pub kinds_in : Setting → Running → List TacKind
kinds_in s running = kinds_of (slice_get s.code.funs running.fun)

abbrev pub code_in : Setting → Running → List TacInstr
code_in s running = code_of (slice_get s.code.funs running.fun)

-- a constant alone is written to a temp that is a number
abbrev pub IsConstant : TacInstr → ℕ → Type 0
IsConstant (instr.Const to k v) n = v ≡ n
IsConstant i n = ⊥

-- What is asked of an instruction at a point: it is well formed in its function, a temp that is a number is its
-- constant, and the home of any other
-- that it writes is free behind it
pub record IsSelectable (s : Setting) (p : Typed) (running : Running) (i : TacInstr)
    (rest : List TacInstr) : Type 0 where
  pub d : FunDef
  pub is : slice_get p.funs running.fun ≡ Some d
  pub fits : instruction_fits p d (kinds_in s running) (code_in s running) i ≡ true
  pub numbers : (temp n : ℕ) → IsAmong temp (writes i) → s.numbers running.fun temp ≡ Some n → IsConstant i n
  pub free : (temp : ℕ) → IsAmong temp (writes i) → s.numbers running.fun temp ≡ None → MayTake s
      (behind running rest) temp

-- What the instruction means, and the machine does it at these words: both go on to the next instruction, the machine
-- in at most so many acts, and each temp is of its kind still
pub record GoesOnWithin (most : ℕ) (s : Setting) (code : List Instr) (w : World) (p : Typed) (running : Running)
    (i : TacInstr) (rest : List TacInstr) (words : List Instr) (at : ℕ) (t : State Store) (m : Machine) : Type 0 where
  pub next : State Store
  pub means : (k : Next → State Store → Fate)
      → effect (operations (placed_plan s.map)) w p (kinds_in s running) i t k ≡ k On next
  pub kinded : AreOfKinds (kinds_in s running) next.vars
  pub does : Arrives s code (behind running rest) 0 most (at + length words) next m

-- in at most as many as the instruction costs
abbrev pub GoesOn : Setting → List Instr → World → Typed → Running → TacInstr → List TacInstr → List Instr → (at : ℕ)
    → State Store → Machine → Type 0
GoesOn s code w p running i rest words at t m = GoesOnWithin (cost i) s code w p running i rest words at t m

-- For each point at which the function goes on with such an instruction, and each machine that stands for a state
-- there and has the
-- words next
abbrev pub GoOn : Setting → List Instr → World → Typed → (TacInstr → Type 0)
    → (Selecting → TacInstr → List Instr → Type 0) → Type 0
GoOn s code w p Is Words =
    (running : Running) (i : TacInstr) (rest : List TacInstr) → Is i → IsSelectable s p running i rest
    → (at : ℕ) (t : State Store) (m : Machine) → IsAtPoint s code (before running i rest) at t m
    → AreOfKinds (kinds_in s running) t.vars
    → (words : List Instr) → Words (selecting s running.fun) i words → HasAt code at words
    → GoesOn s code w p running i rest words at t m

abbrev pub EachGoesOn : (TacInstr → Type 0) → (Selecting → TacInstr → List Instr → Type 0) → Type 0
EachGoesOn Is Words =
    (s : Setting) (code : List Instr) → IsText s code → StackIsThere s → (w : World) (p : Typed)
    → GoOn s code w p Is Words
