-- What selection chose: at each place to which a run comes the words of the instruction stand, in the form that the
-- laws of selected code ask for.
use Rattle.std.specs.Prelude.{◌≡◌, ℕ, ◌+◌, ◌*◌, ◌/◌, ◌<◌, ◌≤◌, ℤ, Bool, true, false, List, [], ◌∷◌, length, Option}
use Rattle.std.specs.Prelude.{Some, None, slice_get, slice_index_or}
use Rattle.ck_base.specs.Agreement.{DoesWhatIsMeant}
use Rattle.ck_base.specs.World.{World, GivesBytes}
use Rattle.ck_base.specs.declared.positions.Pos.{Pos}
use Rattle.rv_instr.specs.declared.instr.Instr.{Instr}
use Rattle.rv_instr.specs.declared.instr.Instr.TheVariants.{Cjal}
use Rattle.cap_machine.specs.declared.machine.Machine.{Machine}
use Rattle.cap_machine.specs.declared.end.End.TheVariants as end
use Rattle.cap_ops.specs.declared.access.Cause.{Cause}
use Rattle.cheri_c_sem.specs.Modes.{Store}
use Rattle.cheri_c_sem.specs.Steps.{State}
use Rattle.tac_ir.specs.Costs.{cost, prologue_cost}
use Rattle.obj_mem.specs.Table.{addresses_of}
use Rattle.obj_mem.specs.declared.ending.Ending.TheVariants as ending
use Rattle.purecap_abi.specs.Ends.{before_store}
use Rattle.tac_ir.specs.Effects.{fits}
use Rattle.tac_ir.specs.Meaning.{Caller, Running, name_of}
use Rattle.tac_ir.specs.Temps.{behind}
use Rattle.tac_ir.specs.WellFormed.{Signature, begins_with, has_label, int_result, signature_of, signature_of_function}
use Rattle.tac_ir.specs.declared.code.TacInstr.{TacInstr}
use Rattle.tac_ir.specs.declared.code.TacInstr.TheVariants as instr
use Rattle.place_inject.specs.Entering.{caller_of, entry_of}
use Rattle.place_inject.specs.Frames.{IsLive, locals_by}
use Rattle.place_inject.specs.Spills.{StackIsThere}
use Rattle.place_inject.specs.Tables.{TableIsThere}
use Rattle.tracked_runs.specs.Matching.{IsReport}
use Rattle.select_words.specs.Accesses.{AccessWords, IsAccess, place_of}
use Rattle.select_words.specs.Selecting.{Selecting}
use Rattle.select_words.specs.Standing.{HasAt}
use Rattle.select_words.specs.Calling.{CallWords, FarCallWords}
use Rattle.select_words.specs.Capabilities.{IsNarrow, NarrowWords, IsOffset, OffsetWords, IsIntrinsic, CapWords}
use Rattle.select_words.specs.Capabilities.{IsPointing, PointingWords}
use Rattle.select_words.specs.Copying.{CopyWords}
use Rattle.select_words.specs.Jumps.{BranchWords}
use Rattle.select_words.specs.Returning.{ReturnWords}
use Rattle.select_words.specs.Operations.{OperationWords, IsComparison, CompareWords, IsConversion, ConversionWords}
use Rattle.select_words.specs.Services.{Asks, putting, taking, leaving}
use Rattle.select_words.specs.Through.{ThroughWords, through}
use Rattle.select_words.specs.Words as words
use Rattle.select_words.specs.Words.{IsConst, ConstantWords, IsCopy, IsPassed, NoWords}
use Rattle.select_words.specs.Zeroing.{ZeroWords, granules}
use Rattle.select_words.specs.Heap.{Mallocs, allocating}
use Rattle.select_runs.specs.Acts.{place}
use Rattle.select_runs.specs.Calling.{Begins, begin_words, MayCall}
use Rattle.select_runs.specs.Copying.{copy_cost}
use Rattle.select_runs.specs.Instructions.{IsAskedBy, IsOperation}
use Rattle.select_runs.specs.Jumps.{LeadsTo}
use Rattle.select_runs.specs.Operands.{IsText, ground_of}
use Rattle.select_runs.specs.Returning.{ResumesAt, StubAt}
use Rattle.select_runs.specs.Results.{IsSelectable}
use Rattle.select_runs.specs.Services.{StandsAside}
use Rattle.select_runs.specs.Through.{IsCalled}
use Rattle.select_heap.specs.Heap.{StandsBeside}
use Rattle.select_whole.specs.Matching.{AreFine, Starts, code_sides}
use Rattle.select_whole.specs.Visited.{Whole, ops_of, kinds_at, tac_at, locals_of, gives_at, main_of}
use Rattle.select_whole.specs.Runs.{Here, here, Leads_on, Each, Reports_at, searched, IsInteger, IsStrange}
use Rattle.select_whole.specs.Runs.{InstructionsRun, last_acts}
use Rattle.select_runs.specs.Selecting.{selecting}

-- ---- what stands at the places

module _ (g : Whole) (w : World) where
  -- the words of an instruction stand there in their form, and it takes no more acts than are counted
  pub record Stand (Form : Selecting → TacInstr → List Instr → Type 0) (r : Running) (i : TacInstr)
      (rest : List TacInstr) : Type 0 where
    pub words : List Instr
    pub form : Form (selecting g.setting r.fun) i words
    pub has : HasAt g.code (here g w r (i ∷ rest)) words
    pub then_on : Leads_on g w r i rest words
    pub cheap : cost i ≤ g.dear r.fun i

  abbrev pub EachStands : (TacInstr → Type 0) → (Selecting → TacInstr → List Instr → Type 0) → Type 0
  EachStands Is Form = Each g w Is (λ r i rest t m. Stand Form r i rest)

  pub record ZeroStands (var : ℕ) (r : Running) (rest : List TacInstr) : Type 0 where
    pub words : List Instr
    pub form : ZeroWords (selecting g.setting r.fun) var words
    pub has : HasAt g.code (here g w r (instr.Zero var ∷ rest)) words
    pub then_on : Leads_on g w r (instr.Zero var) rest words
    pub cheap : cost (instr.Zero var) + 8 * granules form.slot ≤ g.dear r.fun (instr.Zero var)

  pub record AccessStands (r : Running) (i : TacInstr) (rest : List TacInstr) : Type 0 where
    pub skip : ℕ
    pub words : List Instr
    pub form : AccessWords (selecting g.setting r.fun) i skip words
    pub has : HasAt g.code (here g w r (i ∷ rest)) words
    pub then_on : Leads_on g w r i rest words
    pub cheap : cost i ≤ g.dear r.fun i
    pub reports : Reports_at g w (here g w r (i ∷ rest) + skip) (place_of i)

  pub record CopyStands (from to bytes unit : ℕ) (from_pos to_pos : Pos) (r : Running) (i : TacInstr)
      (rest : List TacInstr) : Type 0 where
    pub skip : ℕ
    pub words : List Instr
    pub form : CopyWords (selecting g.setting r.fun) from to (bytes / unit) unit skip words
    pub has : HasAt g.code (here g w r (i ∷ rest)) words
    pub then_on : Leads_on g w r i rest words
    pub cheap : copy_cost i ≤ g.dear r.fun i
    -- where there are units to copy
    pub reports_reading : 0 < bytes / unit → Reports_at g w (here g w r (i ∷ rest) + skip) from_pos
    pub reports_writing : 0 < bytes / unit → Reports_at g w (here g w r (i ∷ rest) + skip + 1) to_pos

  abbrev pub copying : (from to bytes unit : ℕ) → Pos → Pos → TacInstr
  copying from to bytes unit from_pos to_pos = instr.CopyUnits from to bytes unit from_pos to_pos

  pub record JumpStands (b : Bool) (l : ℕ) (r : Running) (rest : List TacInstr) : Type 0 where
    pub has_it : has_label (searched g w r.fun b rest) l ≡ true
    pub offset : ℤ
    pub leads : LeadsTo g.setting g.code (here g w r (instr.Jump l ∷ rest))
        (here g w r (behind l (searched g w r.fun b rest))) offset
    pub has : HasAt g.code (here g w r (instr.Jump l ∷ rest)) (Cjal 0 offset ∷ [])
    pub cheap : cost (instr.Jump l) ≤ g.dear r.fun (instr.Jump l)

  pub record BranchStands (b : Bool) (on : ℕ) (when : Bool) (l : ℕ) (r : Running) (rest : List TacInstr) : Type 0 where
    pub has_it : has_label (searched g w r.fun b rest) l ≡ true
    pub is_temp : on < length (kinds_at g r.fun)
    pub offset : ℤ
    pub finds : List Instr
    pub words : List Instr
    pub form : BranchWords (selecting g.setting r.fun) on when offset finds words
    pub has : HasAt g.code (here g w r (instr.Branch on when l ∷ rest)) words
    pub leads : LeadsTo g.setting g.code (here g w r (instr.Branch on when l ∷ rest) + length finds + 1)
        (here g w r (behind l (searched g w r.fun b rest))) offset
    pub then_on : Leads_on g w r (instr.Branch on when l) rest words
    pub cheap : cost (instr.Branch on when l) ≤ g.dear r.fun (instr.Branch on when l)

  -- a call of the library, for which the environment is asked for a service
  pub record ServiceStands (args : List ℕ) (service : ℕ) (to : Option ℕ) (r : Running) (i : TacInstr)
      (rest : List TacInstr) : Type 0 where
    pub words : List Instr
    pub form : Asks (selecting g.setting r.fun) args service to words
    pub aside : StandsAside g.setting r to rest
    pub has : HasAt g.code (here g w r (i ∷ rest)) words
    pub then_on : Leads_on g w r i rest words
    pub cheap : cost i ≤ g.dear r.fun i

  pub record MallocStands (to : Option ℕ) (a : ℕ) (r : Running) (rest : List TacInstr) : Type 0 where
    pub words : List Instr
    pub form : Mallocs (selecting g.setting r.fun) a to words
    pub beside : StandsBeside g.setting r to rest
    pub has : HasAt g.code (here g w r (allocating to a ∷ rest)) words
    pub then_on : Leads_on g w r (allocating to a) rest words
    pub cheap : cost (allocating to a) ≤ g.dear r.fun (allocating to a)

  -- ---- calls and returns

  -- a function that is called with such arguments: its code stands there
  pub record CalleeStands (to : Option ℕ) (fun : ℕ) (args : List ℕ) (r : Running) (rest : List TacInstr)
      (t : State Store) : Type 0 where
    pub is : fun < length g.setting.code.funs
    pub begins : Begins g.setting g.code fun (length args) (tac_at g fun)
        (IsLive g.setting (entry_of fun (caller_of r rest to t) r.callers (tac_at g fun)))
    pub lengths : begins.lengths ≡ locals_of g fun
    pub kinds : begins.kinds ≡ kinds_at g fun
    pub there : begins.entry + length (begin_words g.setting fun begins.frame begins.words) ≡ g.word fun (tac_at g fun)
    pub reports : (c : Cause)
        → g.report (end.Trap c (place (ground_of g.setting g.code) (begins.entry + length (before_store begins.frame))))
        ≡ Some (ending.Stack (name_of (slice_get g.setting.code.funs fun)))
    pub cheap : prologue_cost (length args) < g.setup fun

  -- the words of a call, which leads to a word of the code: it lies so many bytes ahead, or the function's sentry leads
  -- there
  pub data CallLeads (fun : ℕ) (args : List ℕ) (r : Running) (at entry : ℕ) (words : List Instr) : Type 0 where
    Near : (offset : ℤ) (form : CallWords (selecting g.setting r.fun) args offset words)
        → LeadsTo g.setting g.code (at + length form.passes) entry offset → CallLeads fun args r at entry words
    Far : FarCallWords (selecting g.setting r.fun) fun args words
        → (addresses_of g.setting.map).entry fun ≡ place (ground_of g.setting g.code) entry
        → CallLeads fun args r at entry words

  -- the callee's code stands where the call leads, and the caller may call
  pub record CallStands (to : Option ℕ) (fun : ℕ) (args : List ℕ) (r : Running) (rest : List TacInstr)
      (t : State Store) : Type 0 where
    pub callee : CalleeStands to fun args r rest t
    pub words : List Instr
    pub leads : CallLeads fun args r (here g w r (instr.Call to fun args ∷ rest)) callee.begins.entry words
    pub has : HasAt g.code (here g w r (instr.Call to fun args ∷ rest)) words
    pub may : MayCall g.setting g.code r to args rest (here g w r (instr.Call to fun args ∷ rest) + length words) t
    pub cheap : cost (instr.Call to fun args) ≤ g.dear r.fun (instr.Call to fun args)

  -- the code of each function that may be called so stands where its sentry leads
  pub record ValueCallStands (to : Option ℕ) (v of : ℕ) (args : List ℕ) (source : Pos) (r : Running)
      (rest : List TacInstr) (t : State Store) : Type 0 where
    pub callees : (f : ℕ) → IsCalled g.setting w g.program v of t f → CalleeStands to f args r rest t
    pub leads : (f : ℕ) (is : IsCalled g.setting w g.program v of t f)
        → (addresses_of g.setting.map).entry f ≡ place (ground_of g.setting g.code) (callees f is).begins.entry
    pub words : List Instr
    pub form : ThroughWords (selecting g.setting r.fun) v args words
    pub has : HasAt g.code (here g w r (through to v of args source ∷ rest)) words
    pub may : MayCall g.setting g.code r to args rest
        (here g w r (through to v of args source ∷ rest) + length words) t
    pub cheap : cost (through to v of args source) ≤ g.dear r.fun (through to v of args source)
    pub reports : Reports_at g w
        (here g w r (through to v of args source ∷ rest) + length form.finds + length form.passes) source

  pub record ReturnStands (fun : ℕ) (c : Caller) (cs : List Caller) (v : Option ℕ) (rest : List TacInstr)
      (t : State Store) : Type 0 where
    pub words : List Instr
    pub form : ReturnWords (selecting g.setting fun) v words
    pub has : HasAt g.code (g.word fun (instr.Return v ∷ rest)) words
    pub to : ℕ
    pub keep : List Instr
    pub resumes : ResumesAt g.setting g.code c cs to keep
    pub there : to + length keep ≡ g.word c.fun c.rest
    pub locals : length (locals_of g fun) ≡ length (locals_by (slice_get g.setting.needs.functions fun))
    pub cheap : cost (instr.Return v) + 3 ≤ g.dear fun (instr.Return v) + g.setup c.fun

  pub record LastStands (fun : ℕ) (v : Option ℕ) (rest : List TacInstr) : Type 0 where
    pub words : List Instr
    pub form : ReturnWords (selecting g.setting fun) v words
    pub has : HasAt g.code (g.word fun (instr.Return v ∷ rest)) words
    pub to : ℕ
    pub stub : StubAt g.setting g.code to
    pub cheap : cost (instr.Return v) ≤ g.dear fun (instr.Return v)

  -- The code is loaded as the text of a legal map, with its stack and its table, for the program; and the words of each
  -- instruction stand at its place. A function's first temps are of the kinds of its parameters, the first function
  -- gives an int, and functions that may be called through a type have its signature
  pub record Chosen : Type 0 where
    pub text : IsText g.setting g.code
    pub stack : StackIsThere g.setting
    pub table : TableIsThere g.setting
    pub asked : IsAskedBy g.setting g.program
    pub selectable : (r : Running) (b : Bool) (i : TacInstr) (rest : List TacInstr) (t : State Store) (m : Machine)
        → Here g w r b (i ∷ rest) t m → IsSelectable g.setting g.program r i rest
    pub parameters : (fun : ℕ) (x : Signature) → signature_of_function g.program fun ≡ Some x
        → begins_with (kinds_at g fun) x.params ≡ true
    pub main_gives : gives_at g (main_of g) ≡ Some int_result
    pub alike : (fun of : ℕ) → slice_index_or (fits (ops_of g) w g.program of) fun false ≡ true
        → signature_of_function g.program fun ≡ signature_of g.program of
    pub constants : EachStands IsConst ConstantWords
    pub copies : EachStands IsCopy words.CopyWords
    pub labels : EachStands IsPassed NoWords
    pub promoted : Each g w IsInteger (λ r i rest t m. IsOperation i)
    pub operations : EachStands IsOperation OperationWords
    pub comparisons : EachStands IsComparison CompareWords
    pub conversions : EachStands IsConversion ConversionWords
    pub intrinsics : EachStands IsIntrinsic CapWords
    pub offsets : EachStands IsOffset OffsetWords
    pub narrows : EachStands IsNarrow NarrowWords
    pub pointers : EachStands IsPointing PointingWords
    pub zeroes : (var : ℕ) (r : Running) (rest : List TacInstr) (t : State Store) (m : Machine)
        → Here g w r false (instr.Zero var ∷ rest) t m → ZeroStands var r rest
    pub accesses : Each g w IsAccess (λ r i rest t m. AccessStands r i rest)
    pub struct_copies : (from to bytes unit : ℕ) (from_pos to_pos : Pos) (r : Running) (rest : List TacInstr)
        (t : State Store) (m : Machine) → Here g w r false (copying from to bytes unit from_pos to_pos ∷ rest) t m
        → CopyStands from to bytes unit from_pos to_pos r (copying from to bytes unit from_pos to_pos) rest
    pub jumps : (b : Bool) (l : ℕ) (r : Running) (rest : List TacInstr) (t : State Store) (m : Machine)
        → Here g w r b (instr.Jump l ∷ rest) t m → JumpStands b l r rest
    pub branches : (b : Bool) (on : ℕ) (when : Bool) (l : ℕ) (r : Running) (rest : List TacInstr) (t : State Store)
        (m : Machine) → Here g w r b (instr.Branch on when l ∷ rest) t m → BranchStands b on when l r rest
    pub turns : (r : Running) (rest : List TacInstr) (t : State Store) (m : Machine)
        → Here g w r false (instr.Turn ∷ rest) t m → here g w r (instr.Turn ∷ rest) ≡ here g w r rest
    pub puts : (to : Option ℕ) (a : ℕ) (r : Running) (rest : List TacInstr) (t : State Store) (m : Machine)
        → Here g w r false (putting to a ∷ rest) t m → ServiceStands (a ∷ []) 1 to r (putting to a) rest
    pub takes : (to : Option ℕ) (r : Running) (rest : List TacInstr) (t : State Store) (m : Machine)
        → Here g w r false (taking to ∷ rest) t m → ServiceStands [] 2 to r (taking to) rest
    pub exits : (a : ℕ) (r : Running) (rest : List TacInstr) (t : State Store) (m : Machine)
        → Here g w r false (leaving a ∷ rest) t m → ServiceStands (a ∷ []) 3 None r (leaving a) rest
    pub strange : Each g w IsStrange (λ r i rest t m. ⊥)
    pub allocations : (to : Option ℕ) (a : ℕ) (r : Running) (rest : List TacInstr) (t : State Store) (m : Machine)
        → Here g w r false (allocating to a ∷ rest) t m → MallocStands to a r rest
    pub calls : (to : Option ℕ) (fun : ℕ) (args : List ℕ) (r : Running) (rest : List TacInstr) (t : State Store)
        (m : Machine) → Here g w r false (instr.Call to fun args ∷ rest) t m → CallStands to fun args r rest t
    pub value_calls : (to : Option ℕ) (v of : ℕ) (args : List ℕ) (source : Pos) (r : Running) (rest : List TacInstr)
        (t : State Store) (m : Machine) → Here g w r false (through to v of args source ∷ rest) t m
        → ValueCallStands to v of args source r rest t
    pub returns : (fun : ℕ) (c : Caller) (cs : List Caller) (v : Option ℕ) (rest : List TacInstr) (t : State Store)
        (m : Machine) → Here g w (record { fun = fun; callers = c ∷ cs }) false (instr.Return v ∷ rest) t m
        → ReturnStands fun c cs v rest t
    pub last_returns : (fun : ℕ) (v : Option ℕ) (rest : List TacInstr) (t : State Store) (m : Machine)
        → Here g w (record { fun = fun; callers = [] }) false (instr.Return v ∷ rest) t m → LastStands fun v rest

-- By the laws, where selection chose so each instruction runs
abbrev pub ChosenCodeRuns : Type 0
ChosenCodeRuns = (g : Whole) (w : World) → Chosen g w → InstructionsRun g w

-- Whole runs match there
abbrev pub ChosenCodeMatches : Type 0
ChosenCodeMatches = (g : Whole) → IsReport g.report → AreFine g → (w : World) → GivesBytes w → Chosen g w
    → (first count : ℕ) → first + last_acts + g.most ≤ count → (m : Machine) → Starts g w first m
    → DoesWhatIsMeant (code_sides g w m) count
