-- What memory under a map, and a run, are in the words of the machine.
use Rattle.std.specs.Prelude.{◌≡◌, ℕ, ◌+◌, ◌^◌, ◌<◌, Bool, List, map, reverse, length, Option, Some, None}
use Rattle.std.specs.Prelude.{Result, Ok, Err}
use Rattle.ck_base.specs.Calls.{Seen, Acted}
use Rattle.ck_base.specs.Runs.{Act, Goes, Ends}
use Rattle.obj_mem.specs.declared.ending.Ending.{Ending}
use Rattle.obj_mem.specs.declared.ending.Fault.{Fault}
use Rattle.obj_mem.specs.declared.map.Map.{Map}
use Rattle.obj_mem.specs.declared.value.Value as public
use Rattle.obj_mem.specs.Table.{addresses_of}
use Rattle.obj_mem.specs.Values.{Value, value_of}
use Rattle.cheri_c_sem.specs.Modes.{Store}
use Rattle.cheri_c_sem.specs.Operations.{Operations}
use Rattle.ck_base.specs.declared.positions.Pos.{Pos}
use Rattle.cheri_c_sem.specs.Kinds.{Kind, nothing, number_of, read_as}
use Rattle.mean_steps.specs.Parts.{Now, Came, On as Gives, Over, Part, ◌>>=◌, answer}
use Rattle.tac_ir.specs.Effects.{Next, On, To, Pause, Back, Into}
use Rattle.tac_ir.specs.declared.code.Amount.{Amount}
use Rattle.tac_ir.specs.declared.code.Amount.TheVariants as amount
use Rattle.c_tree.specs.declared.typed.FunDef.{FunDef}
use Rattle.c_tree.specs.declared.typed.Typed.{Typed}
use Rattle.cheri_c_sem.specs.Compatible.{compatible}
use Rattle.object_memory.specs.Answers.{HasBase}
use Rattle.object_memory.specs.Memories.{IsSize}
use Rattle.tac_ir.specs.declared.code.LibOp.TheVariants as lib
use Rattle.tac_ir.specs.declared.code.TacInstr.{TacInstr}
use Rattle.tac_ir.specs.declared.code.TacInstr.TheVariants as instr
use Rattle.tac_steps.specs.Machine.{Caller, Moment, value_in, set, limits}
use Rattle.tac_run.specs.Holdings.{ops_of}
use Rattle.tac_run.specs.declared.run.Caller as code_caller
use Rattle.tac_run.specs.declared.run.Run.{Run}
use Rattle.tac_run.specs.declared.faults.Stop.{Stop}
use Rattle.tac_run.specs.declared.faults.Stop.TheVariants as stop
use Rattle.tac_run.specs.declared.state.Next as code
use Rattle.tac_run.specs.declared.state.Next.TheVariants as next
use Rattle.tac_run.specs.declared.state.State.{State}

-- ---- answers

-- what is loaded, read at a kind
abbrev pub read_answer : Kind → Result Value Fault → Result Value Fault
read_answer k (Ok v) = Ok (read_as k v)
read_answer k (Err e) = Err e

-- ---- states

abbrev pub var_of : public.Value → Option Value
var_of v = Some (value_of v)

abbrev pub vars_of : List public.Value → List (Option Value)
vars_of vs = map var_of vs

abbrev pub now_of : State → Now Store
now_of s = record {
  vars = vars_of s.temps.items;
  first = s.first;
  mem = s.memory.store;
  frame = s.frame;
  left = s.left;
}

abbrev pub value_or_nothing : {M : Type 0} → Now M → Option ℕ → Value
value_or_nothing n None = nothing
value_or_nothing n (Some t) = value_in n t

abbrev pub amount_in : {M : Type 0} → Now M → Amount → ℕ
amount_in n (amount.Number k) = k
amount_in n (amount.Temp t) = number_of (value_in n t)

abbrev pub next_of : code.Next → Next
next_of next.On = On
next_of (next.To l) = To l
next_of next.Pause = Pause
next_of (next.Back v) = Back (value_of v)
next_of (next.Into f vs to) = Into f (map value_of vs.items) to

-- a temp gets the answer of an operation
abbrev pub gives_to : {M : Type 0} → ℕ → Pos → Result Value Fault → Part M Next
gives_to to pos r = answer pos r >>= λ v. set to v

-- What a part of a run answers and leaves under a map, against what it comes to
abbrev pub Comes : {A B : Type 0} → (B → A) → Came Store A → Map → Result B Stop → State → Type 0
Comes f (Gives x n) m (Ok y) new = (f y ≡ x) × (now_of new ≡ n) × (new.memory.map ≡ m)
Comes f (Gives x n) m (Err stop.NoMemory) new = Unit {0}
Comes f (Gives x n) m (Err (stop.Ended e)) new = ⊥
Comes f (Over e) m (Err (stop.Ended e')) new = e' ≡ e
Comes f (Over e) m (Err stop.NoMemory) new = Unit {0}
Comes f (Over e) m (Ok y) new = ⊥

-- a function that is looked for
abbrev pub Finds : Came Store ℕ → Now Store → Result ℕ Stop → Type 0
Finds (Gives f n') n (Ok g) = (g ≡ f) × (n' ≡ n)
Finds (Over e) n (Err (stop.Ended e')) = e' ≡ e
Finds c n r = ⊥

-- which functions may be called through a function type
abbrev pub fits_of : Typed → ℕ → List Bool
fits_of p of = map (λ (f : FunDef). compatible p.types of f.of) p.funs

-- ---- what an instruction asks of the state: each number fits its word, and a base is a number of 64 bits

abbrev pub Asks : Typed → Map → TacInstr → Now Store → Type 0
Asks p m (instr.Cap op to a b) n = HasBase n.mem.memory.shapes (value_in n a)
Asks p m (instr.Local to var) n = n.first + var < 2 ^ 64
Asks p m (instr.Zero var) n = n.first + var < 2 ^ 64
Asks p m (instr.CopyUnits from to bytes unit from_pos to_pos) n = IsSize unit
Asks p m (instr.Lib op to args) n = (addresses_of m).heap_end < 2 ^ 63
Asks p m i n = Unit {0}

-- the instructions that give a temp a value without an operation, those that compute one, and all but `putchar` and
-- `getchar`
abbrev pub IsGiving : TacInstr → Type 0
IsGiving (instr.Const to k v) = Unit {0}
IsGiving (instr.Copy to from) = Unit {0}
IsGiving (instr.Load to from k pos) = Unit {0}
IsGiving (instr.Local to var) = Unit {0}
IsGiving (instr.Global to number literal) = Unit {0}
IsGiving (instr.Function to fun) = Unit {0}
IsGiving i = ⊥

abbrev pub IsComputing : TacInstr → Type 0
IsComputing (instr.Int op k to a b) = Unit {0}
IsComputing (instr.Cmp op k to a b) = Unit {0}
IsComputing (instr.Convert to from old new) = Unit {0}
IsComputing (instr.Cap op to a b) = Unit {0}
IsComputing (instr.Offset to base by) = Unit {0}
IsComputing (instr.Narrow to base length exact) = Unit {0}
IsComputing i = IsGiving i

abbrev pub IsInside : TacInstr → Type 0
IsInside (instr.Lib lib.PutChar to args) = ⊥
IsInside (instr.Lib lib.GetChar to args) = ⊥
IsInside i = Unit {0}

-- the answer of what goes on where it is done
abbrev pub on_done : Unit {0} → Unit {0}
on_done u = u

-- ---- runs

abbrev pub caller_of : code_caller.Caller → Caller
caller_of c = record {
  fun = c.fun;
  at = c.at;
  vars = vars_of c.temps.items;
  first = c.first;
  frame = c.frame;
  to = c.to;
}

abbrev pub moment_of : Run → Moment Store
moment_of r = record {
  fun = r.fun;
  at = r.at;
  turned = r.turned;
  callers = map caller_of (reverse r.callers.items);
  now = now_of r.now;
}

abbrev pub ops_in : Run → Operations Store
ops_in r = ops_of r.now.memory

-- Where something that neither reads nor puts leads a run under a map
abbrev pub Led : {U : Type 0} → Act (Moment Store) Ending → Run → Result U Stop → Run → Type 0
Led (Goes m) old (Ok u) new = (moment_of new ≡ m) × (new.now.memory.map ≡ old.now.memory.map)
Led (Ends e) old (Err (stop.Ended e')) new = e' ≡ e
Led a old (Err stop.NoMemory) new = Unit {0}
Led a old r new = ⊥

-- What an act leaves of a run under a map, against what it is; where it ends the run, what is left is not looked at.
-- Where there is no room for what is kept of the run, nothing was read or put
abbrev pub Stepped : {U : Type 0} → Act (Moment Store) Ending → Seen → Seen → Run → Result U Stop → Run → Type 0
Stepped a before after old (Ok u) new =
    Acted limits a before after (moment_of old) (moment_of new) None × (new.now.memory.map ≡ old.now.memory.map)
Stepped a before after old (Err (stop.Ended e)) new =
    Acted limits a before after (moment_of old) (moment_of old) (Some e)
Stepped a before after old (Err stop.NoMemory) new = after ≡ before
