-- What is known of each instruction at the places to which runs come: the machine does it.
use Rattle.std.specs.Prelude.{◌≡◌, ℕ, ◌+◌, ◌%◌, ◌^◌, ◌<◌, ◌≤◌, Bool, true, false, List, [], ◌∷◌, length, Option, Some}
use Rattle.std.specs.Prelude.{None}
use Rattle.std.specs.Prelude.{slice_get}
use Rattle.ck_base.specs.Runs.{Ends}
use Rattle.ck_base.specs.World.{World}
use Rattle.ck_base.specs.declared.positions.Pos.{Pos}
use Rattle.rv_instr.specs.declared.instr.Instr.{Instr}
use Rattle.cap_ops.specs.declared.access.Cause.{Cause}
use Rattle.cap_machine.specs.declared.end.End.{End}
use Rattle.cap_machine.specs.declared.end.End.TheVariants as end
use Rattle.cap_machine.specs.declared.machine.Machine.{Machine}
use Rattle.cap_machine.specs.State.{register}
use Rattle.cap_machine.specs.Step.{act, limits}
use Rattle.obj_mem.specs.Values.{Value}
use Rattle.obj_mem.specs.declared.ending.Ending.TheVariants as ending
use Rattle.cheri_c_sem.specs.Kinds.{Kind, number_of}
use Rattle.cheri_c_sem.specs.Modes.{Store}
use Rattle.cheri_c_sem.specs.Steps.{State, Fate, over}
use Rattle.tac_ir.specs.Costs.{cost}
use Rattle.tac_ir.specs.Effects.{Next, Back, Into, effect, kind_at}
use Rattle.tac_ir.specs.Meaning.{Caller, Running, name_of, entry_temps, with_result}
use Rattle.tac_ir.specs.Temps.{behind}
use Rattle.tac_ir.specs.WellFormed.{has_label, same_kind}
use Rattle.tac_ir.specs.declared.code.LibOp.TheVariants as lib
use Rattle.tac_ir.specs.declared.code.TacInstr.{TacInstr}
use Rattle.tac_ir.specs.declared.code.TacInstr.TheVariants as instr
use Rattle.tac_ir.specs.declared.code.TacKind.{TacKind}
use Rattle.tracked_runs.specs.Tracking.{Moment, moment, Reaches}
use Rattle.place_inject.specs.Homes.{CallersKeep}
use Rattle.place_inject.specs.Leaving.{OthersAreOlder}
use Rattle.select_words.specs.Accesses.{IsAccess}
use Rattle.select_words.specs.Capabilities.{IsNarrow, IsOffset, IsIntrinsic, IsPointing}
use Rattle.select_words.specs.Operations.{IsComparison, IsConversion}
use Rattle.select_words.specs.Services.{putting, taking, leaving}
use Rattle.select_words.specs.Words.{IsConst, IsCopy, IsPassed}
use Rattle.select_runs.specs.Accesses.{Accesses, TrapsWithin}
use Rattle.select_runs.specs.Acts.{Leads, place}
use Rattle.select_runs.specs.Copying.{StructCopied, copy_cost}
use Rattle.select_runs.specs.Jumps.{GoesTo, Branches}
use Rattle.select_runs.specs.Kinds.{AreOfKinds}
use Rattle.select_runs.specs.Operands.{ground_of, IsAtPoint}
use Rattle.select_runs.specs.Results.{Arrives, GoesOnWithin}
use Rattle.select_runs.specs.Results as at_place
use Rattle.select_runs.specs.Services.{PutsByte, TakesByte, ExitsBy}
use Rattle.select_whole.specs.Visited.{Whole, Means, Visited, ops_of, tac_at, main_of, caller_from, called_by}
use Rattle.select_whole.specs.Visited.{in_frame_of, back_in, kinds_at, gives_at, looked_at}

-- ---- kinds of instructions

abbrev pub IsInteger : TacInstr → Type 0
IsInteger (instr.Int op k to a b) = Unit {0}
IsInteger i = ⊥

abbrev pub IsZero : TacInstr → Type 0
IsZero (instr.Zero var) = Unit {0}
IsZero i = ⊥

abbrev pub IsAllocation : TacInstr → Type 0
IsAllocation (instr.Lib lib.Malloc to (a ∷ [])) = Unit {0}
IsAllocation i = ⊥

abbrev pub IsStructCopy : TacInstr → Type 0
IsStructCopy (instr.CopyUnits from to bytes unit from_pos to_pos) = Unit {0}
IsStructCopy i = ⊥

abbrev pub IsCall : TacInstr → Type 0
IsCall (instr.Call to fun args) = Unit {0}
IsCall i = ⊥

abbrev pub IsValueCall : TacInstr → Type 0
IsValueCall (instr.CallValue to v of args pos) = Unit {0}
IsValueCall i = ⊥

-- a call of the library with other arguments than it takes
abbrev pub IsStrange : TacInstr → Type 0
IsStrange (instr.Lib lib.PutChar to (a ∷ [])) = ⊥
IsStrange (instr.Lib lib.PutChar to args) = Unit {0}
IsStrange (instr.Lib lib.GetChar to []) = ⊥
IsStrange (instr.Lib lib.GetChar to args) = Unit {0}
IsStrange (instr.Lib lib.Malloc to (a ∷ [])) = ⊥
IsStrange (instr.Lib lib.Malloc to args) = Unit {0}
IsStrange (instr.Lib lib.Exit None (a ∷ [])) = ⊥
IsStrange (instr.Lib lib.Exit to args) = Unit {0}
IsStrange i = ⊥

-- a temp for a result is of the kind that is given
abbrev pub Takes : List TacKind → Option ℕ → Option Kind → Type 0
Takes kinds None k = Unit {0}
Takes kinds (Some t) None = ⊥
Takes kinds (Some t) (Some k) = (t < length kinds) × (same_kind (kind_at kinds t) k ≡ true)

-- ---- places

-- addresses have 64 bits in all that the machine comes to in a world
abbrev pub AreWords : World → Moment Machine → Type 0
AreWords w s = (k : ℕ) (n : Moment Machine) → Reaches limits act w k s n
    → (r : ℕ) → (register n.state r).fields.address < 2 ^ 64

-- the acts behind the words of the last return: the number of a service is set, and the run ends
abbrev pub last_acts : ℕ
last_acts = 2

module _ (g : Whole) (w : World) where
  abbrev pub here : Running → List TacInstr → ℕ
  here r is = g.word r.fun is

  -- a function's caller: its temps are of their kinds, the one for the result is of the kind that the function gives,
  -- the objects of others have lower numbers than the function's own, the first of which has this one, and what callers
  -- still read waits where functions keep it
  pub record CallerKept (fun first : ℕ) (c : Caller) (cs : List Caller) : Type 0 where
    pub kinded : AreOfKinds (kinds_at g c.fun) c.vars
    pub takes : Takes (kinds_at g c.fun) c.to (gives_at g fun)
    pub older : OthersAreOlder g.setting first (c ∷ cs)
    pub keeps : CallersKeep g.setting (c ∷ cs)

  abbrev pub CallersKept : (fun first : ℕ) → List Caller → Type 0
  CallersKept fun first [] = fun ≡ main_of g
  CallersKept fun first (c ∷ cs) = CallerKept fun first c cs × CallersKept c.fun c.first cs

  -- a run comes there, with temps of their kinds, and the machine stands for its state
  pub record Here (r : Running) (b : Bool) (is : List TacInstr) (t : State Store) (m : Machine) : Type 0 where
    pub visited : Visited g w r b is t
    pub point : IsAtPoint g.setting g.code (at_place.behind r (looked_at b is)) (here r is) t m
    pub kinded : AreOfKinds (kinds_at g r.fun) t.vars
    pub callers : CallersKept r.fun t.first r.callers
    pub addresses : AreWords w (moment m t.done)

  -- the words of an instruction lead to those of the rest
  pub record Leads_on (r : Running) (i : TacInstr) (rest : List TacInstr) (words : List Instr) : Type 0 where
    pub next : here r (i ∷ rest) + length words ≡ here r rest

  -- ---- what goes on

  pub record Goes (r : Running) (i : TacInstr) (rest : List TacInstr) (t : State Store) (m : Machine) : Type 0 where
    pub words : List Instr
    pub then_on : Leads_on r i rest words
    pub does : GoesOnWithin (g.dear r.fun i) g.setting g.code w g.program r i rest words (here r (i ∷ rest)) t m

  -- each instruction of a kind, at each place
  abbrev pub Each : (TacInstr → Type 0) → (Running → TacInstr → List TacInstr → State Store → Machine → Type 0) → Type 0
  Each Is Does =
      (r : Running) (i : TacInstr) (rest : List TacInstr) (t : State Store) (m : Machine) → Is i
      → Here r false (i ∷ rest) t m → Does r i rest t m

  -- ---- what may trap

  -- a trap at a word reports that place in the source
  abbrev pub Reports_at : (word : ℕ) → Pos → Type 0
  Reports_at word source =
      (c : Cause) → g.report (end.Trap c (place (ground_of g.setting g.code) word)) ≡ Some (ending.Trap c source)

  pub record Accessed (r : Running) (i : TacInstr) (rest : List TacInstr) (t : State Store) (m : Machine) :
      Type 0 where
    pub words : List Instr
    pub then_on : Leads_on r i rest words
    pub source : Pos
    pub word : ℕ
    pub does : Accesses g.setting g.code w g.program r i rest words source word (here r (i ∷ rest)) t m
    pub reports : Reports_at word source
    pub dear : cost i ≤ g.dear r.fun i

  pub record Copied (r : Running) (i : TacInstr) (rest : List TacInstr) (t : State Store) (m : Machine) :
      Type 0 where
    pub words : List Instr
    pub then_on : Leads_on r i rest words
    pub from_pos : Pos
    pub to_pos : Pos
    pub word : ℕ
    pub does : StructCopied g.setting g.code w g.program r i rest words from_pos to_pos word (here r (i ∷ rest)) t m
    pub reports_reading : TrapsWithin (copy_cost i) g.setting g.code w g.program r i from_pos word t m
        → Reports_at word from_pos
    pub reports_writing : TrapsWithin (copy_cost i) g.setting g.code w g.program r i to_pos (word + 1) t m
        → Reports_at (word + 1) to_pos
    pub dear : copy_cost i ≤ g.dear r.fun i

  -- ---- jumps and branches

  -- the instructions among which a label is looked for
  abbrev pub searched : (fun : ℕ) → Bool → List TacInstr → List TacInstr
  searched fun true rest = tac_at g fun
  searched fun false rest = rest

  pub record Jumped (b : Bool) (l : ℕ) (r : Running) (rest : List TacInstr) (t : State Store) (m : Machine) :
      Type 0 where
    pub has : has_label (searched r.fun b rest) l ≡ true
    pub does : GoesTo g.setting g.code w g.program r (instr.Jump l) l (behind l (searched r.fun b rest))
        (here r (behind l (searched r.fun b rest))) t m
    pub dear : cost (instr.Jump l) ≤ g.dear r.fun (instr.Jump l)

  pub record Branched (b : Bool) (on : ℕ) (when : Bool) (l : ℕ) (r : Running) (rest : List TacInstr) (t : State Store)
      (m : Machine) : Type 0 where
    pub has : has_label (searched r.fun b rest) l ≡ true
    pub further : here r (instr.Branch on when l ∷ rest) < here r rest
    pub does : Branches g.setting g.code w g.program r (instr.Branch on when l) l
        (behind l (searched r.fun b rest)) rest
        (here r (behind l (searched r.fun b rest))) (here r rest) t m
    pub dear : cost (instr.Branch on when l) ≤ g.dear r.fun (instr.Branch on when l)

  -- ---- the outside

  pub record Served (Does : (words : List Instr) → Type 0) (r : Running) (i : TacInstr) (rest : List TacInstr) :
      Type 0 where
    pub words : List Instr
    pub then_on : Leads_on r i rest words
    pub does : Does words
    pub dear : cost i ≤ g.dear r.fun i

  abbrev pub Put : Option ℕ → ℕ → Running → List TacInstr → State Store → Machine → Type 0
  Put to a r rest t m = Served
      (λ words. PutsByte g.setting g.code w g.program r (putting to a) to rest words (here r (putting to a ∷ rest)) t m)
      r (putting to a) rest

  abbrev pub Taken : Option ℕ → Running → List TacInstr → State Store → Machine → Type 0
  Taken to r rest t m = Served
      (λ words. TakesByte g.setting g.code w g.program r (taking to) to rest words (here r (taking to ∷ rest)) t m)
      r (taking to) rest

  pub record Exited (a : ℕ) (r : Running) (t : State Store) (m : Machine) : Type 0 where
    pub does : ExitsBy g.setting w g.program r (leaving a) t m
    pub dear : cost (leaving a) ≤ g.dear r.fun (leaving a)

  -- ---- calls and returns

  -- fewer acts than so many lead to an ending
  pub record StopsBy (most : ℕ) (m : Machine) (e : End) : Type 0 where
    pub count : ℕ
    pub to : Machine
    pub lt : count < most
    pub leads : Leads count m to
    pub ends : act to ≡ Ends e

  -- the callee's frame is taken, or the stack has no room for it
  abbrev pub Entered : (most fun : ℕ) → Running → Option ℕ → List Value → State Store → Machine → Type 0
  Entered most fun callee (Some address) vs u m =
      Arrives g.setting g.code (at_place.behind callee (tac_at g fun)) 1 most (here callee (tac_at g fun))
      (in_frame_of g w address fun vs u) m
  Entered most fun callee None vs u m =
      (e : End) × StopsBy most m e × (g.report e ≡ Some (ending.Stack (name_of (slice_get g.setting.code.funs fun))))

  pub record Called (r : Running) (i : TacInstr) (rest : List TacInstr) (t : State Store) (m : Machine) :
      Type 0 where
    pub fun : ℕ
    pub vs : List Value
    pub to : Option ℕ
    pub is : fun < length g.setting.code.funs
    pub means : Means g w r.fun i t (Into fun vs to) t
    pub kinded : AreOfKinds (kinds_at g fun) (entry_temps (kinds_at g fun) vs)
    pub takes : Takes (kinds_at g r.fun) to (gives_at g fun)
    pub older : OthersAreOlder g.setting ((ops_of g).count t.mem) (caller_from r rest to t ∷ r.callers)
    pub keeps : CallersKeep g.setting (caller_from r rest to t ∷ r.callers)
    pub does : Entered (g.dear r.fun i + g.setup fun) fun (called_by fun r rest to t) ((ops_of g).enter fun t.frame) vs
        t m

  -- a call through a value may trap, or leave what the meaning speaks of
  pub data ValueCalled (r : Running) (i : TacInstr) (rest : List TacInstr) (t : State Store) (m : Machine) :
      Type 0 where
    Calls : Called r i rest t m → ValueCalled r i rest t m
    Traps : (c : Cause) (source : Pos) (e : End)
        → ((k : Next → State Store → Fate)
        → effect (ops_of g) w g.program (kinds_at g r.fun) i t k
        ≡ over (ending.Trap c source) t)
        → StopsBy (g.dear r.fun i) m e → g.report e ≡ Some (ending.Trap c source) → ValueCalled r i rest t m
    Leaves : (source : Pos)
        → ((k : Next → State Store → Fate)
        → effect (ops_of g) w g.program (kinds_at g r.fun) i t k
        ≡ over (ending.Outside source) t)
        → ValueCalled r i rest t m

  -- the caller goes on with the result
  pub record Returned (fun : ℕ) (c : Caller) (cs : List Caller) (v : Option ℕ) (t : State Store) (m : Machine) :
      Type 0 where
    pub value : Value
    pub means : Means g w fun (instr.Return v) t (Back value) t
    pub kinded : AreOfKinds (kinds_at g c.fun) (with_result c.vars c.to value)
    pub does : Arrives g.setting g.code (at_place.behind (record { fun = c.fun; callers = cs }) c.rest) 1
        (g.dear fun (instr.Return v) + g.setup c.fun) (g.word c.fun c.rest) (back_in g fun c value t) m

  -- the last return
  pub record Left (fun : ℕ) (v : Option ℕ) (t : State Store) (m : Machine) : Type 0 where
    pub value : Value
    pub means : Means g w fun (instr.Return v) t (Back value) t
    pub does : StopsBy (last_acts + g.dear fun (instr.Return v)) m (end.Exit (number_of value % 256))

  -- ---- all instructions

  pub record InstructionsRun : Type 0 where
    pub constants : Each IsConst Goes
    pub copies : Each IsCopy Goes
    pub labels : Each IsPassed Goes
    pub operations : Each IsInteger Goes
    pub comparisons : Each IsComparison Goes
    pub conversions : Each IsConversion Goes
    pub intrinsics : Each IsIntrinsic Goes
    pub offsets : Each IsOffset Goes
    pub narrows : Each IsNarrow Goes
    pub pointers : Each IsPointing Goes
    pub zeroes : Each IsZero Goes
    pub allocations : Each IsAllocation Goes
    pub accesses : Each IsAccess Accessed
    pub struct_copies : Each IsStructCopy Copied
    pub jumps : (b : Bool) (l : ℕ) (r : Running) (rest : List TacInstr) (t : State Store) (m : Machine)
        → Here r b (instr.Jump l ∷ rest) t m → Jumped b l r rest t m
    pub branches : (b : Bool) (on : ℕ) (when : Bool) (l : ℕ) (r : Running) (rest : List TacInstr) (t : State Store)
        (m : Machine) → Here r b (instr.Branch on when l ∷ rest) t m → Branched b on when l r rest t m
    pub turns : (r : Running) (rest : List TacInstr) (t : State Store) (m : Machine)
        → Here r false (instr.Turn ∷ rest) t m → here r (instr.Turn ∷ rest) ≡ here r rest
    pub puts : (to : Option ℕ) (a : ℕ) (r : Running) (rest : List TacInstr) (t : State Store) (m : Machine)
        → Here r false (putting to a ∷ rest) t m → Put to a r rest t m
    pub takes : (to : Option ℕ) (r : Running) (rest : List TacInstr) (t : State Store) (m : Machine)
        → Here r false (taking to ∷ rest) t m → Taken to r rest t m
    pub exits : (a : ℕ) (r : Running) (rest : List TacInstr) (t : State Store) (m : Machine)
        → Here r false (leaving a ∷ rest) t m → Exited a r t m
    pub strange : Each IsStrange (λ r i rest t m. ⊥)
    pub calls : Each IsCall Called
    pub value_calls : Each IsValueCall ValueCalled
    pub returns : (fun : ℕ) (c : Caller) (cs : List Caller) (v : Option ℕ) (rest : List TacInstr) (t : State Store)
        (m : Machine) → Here (record { fun = fun; callers = c ∷ cs }) false (instr.Return v ∷ rest) t m
        → Returned fun c cs v t m
    pub last_returns : (fun : ℕ) (v : Option ℕ) (rest : List TacInstr) (t : State Store) (m : Machine)
        → Here (record { fun = fun; callers = [] }) false (instr.Return v ∷ rest) t m → Left fun v t m
