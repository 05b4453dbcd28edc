-- Three-address code as a machine with a small step. It keeps the number of the next instruction, and the calls that
-- wait.
use Rattle.std.specs.Prelude.{ℕ, zero, suc, ◌+◌, ◌/◌, ◌%◌, Bool, true, false, List, [], ◌∷◌, length, drop, map, Option}
use Rattle.std.specs.Prelude.{Some, None, slice_get}
use Rattle.ck_base.specs.Runs.{Act, Goes, Puts, Reads, Ends, Limits}
use Rattle.cap_ops.specs.Permissions.{data_permissions}
use Rattle.c_tree.specs.declared.typed.Typed.{Typed}
use Rattle.obj_mem.specs.Values as value
use Rattle.obj_mem.specs.Values.{Value}
use Rattle.obj_mem.specs.declared.ending.Ending.{Ending}
use Rattle.obj_mem.specs.declared.ending.Ending.TheVariants as ending
use Rattle.cheri_c_sem.specs.Calls.{add_locals, end_locals, start}
use Rattle.cheri_c_sem.specs.Kinds.{null_at, nothing, number_of, truth}
use Rattle.cheri_c_sem.specs.Meaning.{At, first_of}
use Rattle.cheri_c_sem.specs.Operations.{Operations, compare_by, convert_by, int_by}
use Rattle.cheri_c_sem.specs.Steps.{byte_or_end}
use Rattle.cheri_c_sem.specs.Tree.{Program}
use Rattle.mean_steps.specs.Machine.{no_world}
use Rattle.mean_steps.specs.Parts.{Now, Came, On as Gives, Over, Part, ◌>>=◌, ◌>>◌, give, ends, ask, set_variable, load}
use Rattle.mean_steps.specs.Parts.{store, copy_units, test, allocate, called}
use Rattle.tac_ir.specs.Effects.{kind_of, kind_at, work_of, no_position, Next, On, To, Pause, Back, Into, held}
use Rattle.tac_ir.specs.Effects as effects
use Rattle.tac_ir.specs.Meaning.{code_of, kinds_of, name_of, entry_temps, with_result, up_to}
use Rattle.tac_ir.specs.declared.code.Amount.{Amount}
use Rattle.tac_ir.specs.declared.code.Amount.TheVariants as amount
use Rattle.tac_ir.specs.declared.code.LibOp.{LibOp}
use Rattle.tac_ir.specs.declared.code.LibOp.TheVariants as lib
use Rattle.tac_ir.specs.declared.code.Tac.{Tac}
use Rattle.tac_ir.specs.declared.code.TacInstr.{TacInstr}
use Rattle.tac_ir.specs.declared.code.TacInstr.TheVariants as instr
use Rattle.tac_ir.specs.declared.code.TacKind.{TacKind}
use Rattle.tac_ir.specs.declared.code.TacKind.TheVariants as kind

-- a call that waits: its function and the next instruction there, what its state has of its own, and the temp for the
-- result
pub record Caller : Type 0 where
  pub fun : ℕ
  pub at : ℕ
  pub vars : List (Option Value)
  pub first : ℕ
  pub frame : ℕ
  pub to : Option ℕ

-- the function that runs, its next instruction, whether a Turn was just passed, the calls that wait, the newest first,
-- and the state
pub record Moment (M : Type 0) : Type 0 where
  pub fun : ℕ
  pub at : ℕ
  pub turned : Bool
  pub callers : List Caller
  pub now : Now M

-- ---- temps

module _ {M : Type 0} where
  abbrev pub value_in : Now M → ℕ → Value
  value_in n t = held (slice_get n.vars t)

  abbrev pub temp : ℕ → Part M Value
  temp t = λ n. Gives (value_in n t) n

  abbrev pub temps : List ℕ → Part M (List Value)
  temps ts = λ n. Gives (map (value_in n) ts) n

  abbrev pub optional : Option ℕ → Part M Value
  optional None = give nothing
  optional (Some t) = temp t

  abbrev pub amount_of : Amount → Part M ℕ
  amount_of (amount.Number n) = give n
  amount_of (amount.Temp t) = λ n. Gives (number_of (value_in n t)) n

  -- a temp gets a value
  abbrev pub set : ℕ → Value → Part M Next
  set t v = do
    set_variable t (Some v)
    give On

  abbrev pub set_optional : Option ℕ → Value → Part M Next
  set_optional None v = give On
  set_optional (Some t) v = set t v

-- ---- what one instruction does that neither reads nor puts, in a function whose temps have these kinds

module _ {M : Type 0} (ops : Operations M) (p : Typed) where
  abbrev pub global_pointer : M → ℕ → Bool → Value
  global_pointer m n literal = effects.global_pointer ops no_world p m n literal

  -- a library function that neither reads nor puts
  abbrev pub serve : LibOp → List Value → Part M Value
  serve lib.Malloc vs = allocate ops no_position (number_of (first_of vs))
  serve lib.Exit vs = ends (ending.Exit (number_of (first_of vs) % 256))
  serve op vs = give nothing

  abbrev pub effect : List TacKind → TacInstr → Part M Next
  effect kinds (instr.Const to (kind.Int k) v) = set to (value.Int v)
  effect kinds (instr.Const to (kind.Cap signed) v) = set to (null_at v)
  effect kinds (instr.Copy to from) = do
    v ← temp from
    set to v
  effect kinds (instr.Int op k to a b) = do
    x ← temp a
    y ← temp b
    v ← ask no_position (λ m. int_by ops m op k (kind_at kinds b) x y)
    set to v
  effect kinds (instr.Cmp op k to a b) = do
    x ← temp a
    y ← temp b
    r ← ask no_position (λ m. compare_by ops m op (kind_of k) x y)
    set to (truth r)
  effect kinds (instr.Convert to from old new) = do
    x ← temp from
    v ← ask no_position (λ m. convert_by ops m (kind_of old) (kind_of new) x)
    set to v
  effect kinds (instr.Cap op to a b) = do
    x ← temp a
    y ← optional b
    v ← ask no_position (λ m. ops.work m (work_of op) x y)
    set to v
  effect kinds (instr.Offset to base by) = do
    x ← temp base
    n ← amount_of by
    v ← ask no_position (λ m. ops.offset m x n)
    set to v
  effect kinds (instr.Narrow to base length exact) = do
    x ← temp base
    n ← amount_of length
    v ← ask no_position (λ m. ops.narrow m x n exact)
    set to v
  effect kinds (instr.Load to from k pos) = do
    x ← temp from
    v ← load ops (kind_of k) (At pos x)
    set to v
  effect kinds (instr.Store at v k pos) = do
    x ← temp at
    y ← temp v
    store ops (kind_of k) (At pos x) y
    give On
  effect kinds (instr.Local to var) = λ n. set to (ops.whole n.mem (n.first + var) data_permissions) n
  effect kinds (instr.Global to number literal) = λ n. set to (global_pointer n.mem number literal) n
  effect kinds (instr.Function to fun) = set to (value.Fun fun)
  effect kinds (instr.Zero var) = λ n. Gives On (record n { mem = ops.zero n.mem (n.first + var) })
  effect kinds (instr.CopyUnits from to bytes unit from_pos to_pos) = do
    x ← temp from
    y ← temp to
    copy_units ops (bytes / unit) unit 0 (At from_pos x) (At to_pos y)
    give On
  effect kinds (instr.Label l) = give On
  effect kinds (instr.Jump l) = give (To l)
  effect kinds (instr.Branch on when l) = do
    x ← temp on
    c ← test ops no_position (kind_at kinds on) x
    give (effects.way ops no_world p (effects.same ops no_world p when c) l)
  effect kinds (instr.Call to fun args) = do
    vs ← temps args
    give (Into fun vs to)
  effect kinds (instr.CallValue to v of args pos) = do
    x ← temp v
    vs ← temps args
    f ← called ops pos (effects.fits ops no_world p of) x
    give (Into f vs to)
  effect kinds (instr.Lib op to args) = do
    vs ← temps args
    v ← serve op vs
    set_optional to v
  effect kinds instr.Turn = give Pause
  effect kinds (instr.Return v) = do
    x ← optional v
    give (Back x)

-- ---- where a run goes on

module _ {M : Type 0} (ops : Operations M) (t : Tac) (objects : ℕ → List ℕ) where
  abbrev pub code_at : ℕ → List TacInstr
  code_at f = code_of (slice_get t.funs f)

  abbrev pub kinds_at : ℕ → List TacKind
  kinds_at f = kinds_of (slice_get t.funs f)

  -- behind the last instruction, where a run ends
  abbrev pub at_end : Moment M → Moment M
  at_end m = record m { at = length (code_at m.fun); turned = false }

  -- a turn is used. Where none is left the run goes on behind the last instruction
  abbrev pub spent : ℕ → ℕ → Moment M → Moment M
  spent zero at m = at_end m
  spent (suc j) at m = record m { at = at; turned = false; now = record m.now { left = j } }

  -- at an instruction; where a Turn was just passed, its turn is used
  abbrev pub arrived : Bool → ℕ → Moment M → Moment M
  arrived false at m = record m { at = at }
  arrived true at m = spent m.now.left at m

  abbrev pub onward : Moment M → Moment M
  onward m = arrived m.turned (m.at + 1) m

  -- a label is looked for behind the jump, and behind a Turn from the start of the code
  abbrev pub place_of : Bool → ℕ → ℕ → ℕ → ℕ
  place_of false f from l = from + up_to l (drop from (code_at f))
  place_of true f from l = up_to l (code_at f)

  abbrev pub jumped : Moment M → ℕ → Moment M
  jumped m l = arrived m.turned (place_of m.turned m.fun (m.at + 1) l) m

  -- a Turn behind a Turn ends the run
  abbrev pub paused : Bool → Moment M → Moment M
  paused false m = record m { at = m.at + 1; turned = true }
  paused true m = at_end m

  -- ---- calls

  -- a call of a function in a frame at an address
  abbrev pub in_frame : ℕ → ℕ → List Value → Now M → Now M
  in_frame address f vs n =
      record n {
        vars = entry_temps (kinds_at f) vs;
        first = ops.count n.mem;
        mem = add_locals ops n.mem address f 0 (objects f);
        frame = address;
      }

  abbrev pub caller_of : Moment M → Option ℕ → Caller
  caller_of m to = record {
    fun = m.fun;
    at = m.at + 1;
    vars = m.now.vars;
    first = m.now.first;
    frame = m.now.frame;
    to = to;
  }

  abbrev pub entered : Option ℕ → ℕ → List Value → List Caller → Now M → Act (Moment M) Ending
  entered None f vs cs n = Ends (ending.Stack (name_of (slice_get t.funs f)))
  entered (Some address) f vs cs n =
      Goes (record { fun = f; at = 0; turned = false; callers = cs; now = in_frame address f vs n })

  -- a call uses its turn, and then takes the frame, where there is room
  abbrev pub calls : ℕ → ℕ → List Value → Option ℕ → Moment M → Act (Moment M) Ending
  calls zero f vs to m = Ends ending.Turns
  calls (suc j) f vs to m =
      entered (ops.enter f m.now.frame) f vs (caller_of m to ∷ m.callers) (record m.now { left = j })

  -- the caller has the result
  abbrev pub resumed : Caller → List Caller → ℕ → Value → Moment M → Moment M
  resumed c cs j v m = record {
    fun = c.fun;
    at = c.at;
    turned = false;
    callers = cs;
    now = record {
      vars = with_result c.vars c.to v;
      first = c.first;
      mem = end_locals ops m.now.mem m.now.first (objects m.fun);
      frame = c.frame;
      left = j;
    };
  }

  -- A return: the locals end, and behind a turn the caller goes on. The last return ends the run
  abbrev pub returns_to : List Caller → ℕ → Value → Moment M → Act (Moment M) Ending
  returns_to [] left v m = Ends (ending.Exit (number_of v % 256))
  returns_to (c ∷ cs) zero v m = Ends ending.Turns
  returns_to (c ∷ cs) (suc j) v m = Goes (resumed c cs j v m)

  -- directly behind a Turn neither has a meaning of its own
  abbrev pub called_behind : Bool → ℕ → List Value → Option ℕ → Moment M → Act (Moment M) Ending
  called_behind true f vs to m = Ends ending.Turns
  called_behind false f vs to m = calls m.now.left f vs to m

  abbrev pub returned_behind : Bool → Value → Moment M → Act (Moment M) Ending
  returned_behind true v m = Ends ending.Turns
  returned_behind false v m = returns_to m.callers m.now.left v m

  -- ---- acts

  -- what follows an instruction
  abbrev pub leads : Next → Moment M → Act (Moment M) Ending
  leads On m = Goes (onward m)
  leads (To l) m = Goes (jumped m l)
  leads Pause m = Goes (paused m.turned m)
  leads (Back v) m = returned_behind m.turned v m
  leads (Into f vs to) m = called_behind m.turned f vs to m

  abbrev pub led : Moment M → Came M Next → Act (Moment M) Ending
  led m (Gives next n) = leads next (record m { now = n })
  led m (Over e) = Ends e

  -- a temp gets the answer of the outside
  abbrev pub with_answer : Option ℕ → Value → Moment M → Moment M
  with_answer to v m = onward (record m { now = record m.now { vars = with_result m.now.vars to v } })

  module _ (p : Typed) where
    abbrev pub act_on : TacInstr → Moment M → Act (Moment M) Ending
    act_on (instr.Lib lib.PutChar to args) m =
        let byte = number_of (first_of (map (value_in m.now) args)) % 256 in
        Puts byte (with_answer to (value.Int byte) m)
    act_on (instr.Lib lib.GetChar to args) m = Reads (λ byte. with_answer to (byte_or_end byte) m)
    act_on i m = led m (effect ops p (kinds_at m.fun) i m.now)

    -- code that runs off its end has no meaning of its own
    abbrev pub act_at : Option TacInstr → Moment M → Act (Moment M) Ending
    act_at None m = Ends ending.Turns
    act_at (Some i) m = act_on i m

    -- what a moment does next
    unfoldable pub act : Moment M → Act (Moment M) Ending
    act m = act_at (slice_get (code_at m.fun) m.at) m

  -- ---- the start of a program, with so many turns

  abbrev pub first_now : Program → ℕ → Now M
  first_now program turns =
      record { vars = []; first = 0; mem = start ops program; frame = ops.stack_top; left = turns }

  abbrev pub first_moment : ℕ → Program → ℕ → Moment M
  first_moment address program turns =
      record {
        fun = program.main;
        at = 0;
        turned = false;
        callers = [];
        now = in_frame address program.main [] (first_now program turns);
      }

-- the endings of a run that come from the outside
abbrev pub limits : Limits Ending
limits = record { steps = ending.Turns; read_fault = ending.ReadFault; write_fault = ending.WriteFault }
