-- Calls and the first entry: the machine jumps to the function and is in it.
use Rattle.std.proofs.Common.{◌≡◌, ℕ, zero, suc, ◌+◌, ◌%◌, ◌<◌, ◌≤◌, ℤ, true, List, [], ◌∷◌, ◌++◌, length, refl}
use Rattle.std.proofs.Common.{sym, ap, ◌∙◌, subst, arith, Option, Some, None, inl, inr}
use Rattle.std.specs.Prelude.{slice_get, slice_set, slice_index_or, map, drop}
use Rattle.std.proofs.lemmas.List.{length-append, length-map, length-drop, length-set}
use Rattle.std.proofs.lemmas.Option.{same_Some, none-some, slice_get_within}
use Rattle.ck_base.specs.Runs.{Goes}
use Rattle.cap_concentrate.specs.Encoding.{with_bounds}
use Rattle.cap_ops.specs.declared.capability.Cap.{Cap}
use Rattle.cap_ops.specs.declared.capability.TheConstants.{UNSEALED, SENTRY}
use Rattle.cap_ops.specs.Bounded.{bounded}
use Rattle.cap_ops.specs.Capability.{sealed, added, with_otype}
use Rattle.cap_ops.specs.Permissions.{code_permissions}
use Rattle.rv_instr.specs.declared.instr.Instr.{Instr}
use Rattle.rv_instr.specs.declared.instr.Instr.TheVariants.{Cjal}
use Rattle.cap_machine.specs.declared.machine.Machine.{Machine}
use Rattle.cap_machine.specs.Integers.{extended}
use Rattle.cap_machine.specs.State.{register}
use Rattle.cap_machine.specs.Rows.{row, cjal_row}
use Rattle.cap_machine.specs.Step.{act}
use Rattle.cheri_c_sem.specs.Kinds.{zero_of}
use Rattle.cheri_c_sem.specs.Modes.{Store, frame_within}
use Rattle.cheri_c_sem.specs.Steps.{State}
use Rattle.obj_mem.specs.Objects.{base_in}
use Rattle.obj_mem.specs.Table.{addresses_of}
use Rattle.obj_mem.specs.Values.{Value, capability_of}
use Rattle.obj_mem.specs.declared.map.Frame.{Frame}
use Rattle.reg_alloc.specs.declared.places.Home.{Home}
use Rattle.reg_alloc.specs.Placed.{IsKept}
use Rattle.purecap_abi.specs.declared.taking.Way.TheVariants.{ToFrame}
use Rattle.purecap_abi.specs.Ends.{before_store, link_store, stack_code, keep_code, prologue_code}
use Rattle.purecap_abi.specs.Saving.{registers_at, kept_homes, stack_at}
use Rattle.tac_ir.specs.Costs.{cost, prologue_cost}
use Rattle.tac_ir.specs.Effects.{kind_of, temp_in, held}
use Rattle.tac_ir.specs.Meaning.{Caller, Running, entry_temps}
use Rattle.tac_ir.specs.Temps.{now, in_option, IsIn as IsAmong}
use Rattle.tac_ir.specs.Temps as temps
use Rattle.tac_ir.specs.declared.code.TacInstr.{TacInstr}
use Rattle.tac_ir.specs.declared.code.TacInstr.TheVariants as instr
use Rattle.tac_ir.specs.declared.code.TacKind.{TacKind}
use Rattle.place_inject.specs.Values.{IsKnown}
use Rattle.place_inject.specs.Parts.{kept_at}
use Rattle.place_inject.specs.Frames.{Setting, Point, IsLive, Waits, HomesFit, homes_of, functions_of, slots_from}
use Rattle.place_inject.specs.Frames.{stack_top, return_sentry}
use Rattle.place_inject.specs.Fits.{Fits, registers_in}
use Rattle.place_inject.specs.Homes.{CallersKeep}
use Rattle.place_inject.specs.Entering.{HasEntered, caller_of, entry_of, first_of, entered}
use Rattle.place_inject.specs.Registers.{CallersUseOnly}
use Rattle.place_inject.specs.Spills.{StackIsThere}
use Rattle.place_inject.proofs.Entering.{enters_fit_law, first_enters_fit_law}
use Rattle.select_words.specs.Standing.{HasAt}
use Rattle.select_words.specs.Calling.{CallWords}
use Rattle.select_words.specs.Entries.{stack_place}
use Rattle.select_words.specs.Services.{IsAside, taking}
use Rattle.select_runs.specs.Acts.{Ground, IsThere, Leads, counter_at, place}
use Rattle.select_runs.specs.Calling.{Begins, begin_words, HasWords, SinksWithin, EntersWithin, MayCall, values}
use Rattle.select_runs.specs.Calling.{CallsRun, FirstIsEntered}
use Rattle.select_runs.specs.Entries.{ArePassed, HasParameters}
use Rattle.select_runs.specs.Jumps.{LeadsTo}
use Rattle.select_runs.specs.Operands.{ground_of, IsText, IsAtPoint}
use Rattle.select_runs.specs.Passing.{GoesOnAside, PassesArguments}
use Rattle.select_runs.specs.Prologue.{IsEntered, FrameIsTaken}
use Rattle.select_runs.specs.Results.{Arrives, before}
use Rattle.select_runs.proofs.Acts.{has_front, has_back, join, set_same, set_other, act_on_row, fetched_here}
use Rattle.select_runs.proofs.Acts.{counter_moved}
use Rattle.select_runs.proofs.Costs.{arguments_few, begins_few}
use Rattle.select_runs.proofs.Entries.{parameters_come_law}
use Rattle.select_runs.proofs.Epilogue.{kept_range}
use Rattle.select_runs.proofs.Passing.{numbers, value_small, arguments_pass_law}
use Rattle.select_runs.proofs.Points.{laid, there, text_there}
use Rattle.select_runs.proofs.Prologue.{prologues_run_law}
use Rattle.select_runs.proofs.Returning.{waits}
use Rattle.select_runs.specs.Selecting.{selecting}

-- ---- lists

element : (xs : List ℕ) (k : ℕ) → k < length xs → slice_get xs k ≡ Some (slice_index_or xs k 0)
element [] k l = absurd (omega (arith, l))
element (x ∷ xs) zero l = refl
element (x ∷ xs) (suc k) l = element xs k (omega (arith, l))

mapped : (f : ℕ → Value) (xs : List ℕ) (ys : List (Option Value)) (k a : ℕ) → slice_get xs k ≡ Some a
    → slice_get (map (λ v. Some v) (map f xs) ++ ys) k ≡ Some (Some (f a))
mapped f [] ys k a e = absurd (none-some a e)
mapped f (x ∷ xs) ys zero a e = ap (λ v. Some (Some (f v))) (same_Some x a e)
mapped f (x ∷ xs) ys (suc k) a e = mapped f xs ys k a e

in_some : (o : Option ℕ) (k : ℕ) → IsAmong k (in_option o) → o ≡ Some k
in_some None k h = absurd (none-some k h.1)
in_some (Some t) k (zero, e) = e
in_some (Some t) k (suc j, e) = absurd (none-some k e)

-- the store of the link is one of the words
store_first : (homes : List Home) (f : Frame) (ws : List Instr)
    → length (before_store f) ≤ length (prologue_code homes f ++ ws)
store_first homes f ws =
    let link : List Instr = link_store ∷ [] in
    let stack : List Instr = stack_code (stack_at homes f) in
    let kept : List Instr = keep_code ToFrame (registers_at homes f) (kept_homes homes) in
    let a = length-append (prologue_code homes f) ws in
    let d = length-append (before_store f ++ link ++ stack) kept in
    let e = length-append (before_store f ++ link) stack in
    let h = length-append (before_store f) link in
    omega (arith, a, d, e, h)

-- ---- registers that functions keep

kept_aside : (r : ℕ) → IsKept r → IsAside r
kept_aside r (inl e) = inl (omega (arith, e))
kept_aside r (inr (inl e)) = inl (omega (arith, e))
kept_aside r (inr (inr l)) = let from = l.0 in inr (omega (arith, from))

callers_aside : (s : Setting) (cs : List Caller) → CallersKeep s cs → CallersUseOnly s IsAside cs
callers_aside s [] k = tt
callers_aside s (c ∷ cs) k = (λ t r l e. kept_aside r (k.0 t r l e), callers_aside s cs k.1)

-- ---- the jump

pub sealed_is : (low high at : ℕ) → sealed (bounded low high code_permissions UNSEALED at)
    ≡ bounded low high code_permissions SENTRY at
unfolding sealed with_bounds with_otype
sealed_is low high at = refl

module _ (s : Setting) (code : List Instr) (x : IsText s code) where
  abbrev g : Ground
  g = ground_of s code

  -- the machine behind a jump that links
  abbrev pub jumped : Machine → (at to : ℕ) → Machine
  jumped m at to = record m {
    regs = slice_set m.regs 1 (return_sentry s (place g (at + 1)));
    pc = counter_at g to;
  }

  pub links : (m : Machine) (at to : ℕ) (z : ℤ) → IsThere g m at → slice_get code at ≡ Some (Cjal 1 z)
      → LeadsTo s code at to z → act m ≡ Goes (jumped m at to)
  unfolding row cjal_row
  links m at to z h has leads =
      let l = slice_get_within code at (Cjal 1 z) has in
      let room = x.room in let below = x.legal.in_range.1 in
      let next : added m.pc 4 ≡ counter_at g (at + 1) =
      ap (λ c. added c 4) h.counter
      ∙ counter_moved g (laid s code x) at (at + 1) 4 (omega arith) (omega arith) (omega arith) in
      let target : added m.pc (extended z) ≡ counter_at g to =
      ap (λ c. added c (extended z)) h.counter
      ∙ counter_moved g (laid s code x) at to (extended z) leads.from leads.inside leads.there in
      fetched_here g (laid s code x) m at (Cjal 1 z) h.counter h.text has ∙ act_on_row m (Cjal 1 z) refl
      ∙ ap (λ c. Goes (record m { regs = slice_set m.regs 1 c; pc = added m.pc (extended z) }))
      (ap sealed next ∙ sealed_is s.map.text.0 (s.map.text.0 + s.map.text.1) (place g (at + 1)))
      ∙ ap (λ c. Goes (record m { regs = slice_set m.regs 1 (return_sentry s (place g (at + 1))); pc = c })) target

  pub link_there : (m : Machine) (at to : ℕ) → length m.regs ≡ 32
      → register (jumped m at to) 1 ≡ return_sentry s (place g (at + 1))
  link_there m at to long =
      set_same m (counter_at g to) m.mem 1 (return_sentry s (place g (at + 1))) long (omega arith) (omega arith)

  pub others_there : (m : Machine) (at to q : ℕ) → (q ≡ 1 → ⊥) → register (jumped m at to) q ≡ register m q
  others_there m at to q d = set_other m (counter_at g to) m.mem 1 q (return_sentry s (place g (at + 1))) d

  pub jumped_there : (m : Machine) (at to : ℕ) → IsThere g m at → IsThere g (jumped m at to) to
  jumped_there m at to h = record {
    counter = refl;
    registers = length-set m.regs 1 (return_sentry s (place g (at + 1))) ∙ h.registers;
    text = h.text;
  }

  -- what was entered from the machine behind the jump was entered from the one before
  pub entered_before : (fun place' above link : ℕ) (frame : Frame) (m : Machine) (at to : ℕ) (after : Machine)
      → HasEntered s fun place' above link frame (jumped m at to) after →
      HasEntered s fun place' above link frame m after
  entered_before fun place' above link frame m at to after e = record {
    registers = e.registers;
    areas = e.areas;
    same = e.same;
    stack = e.stack;
    table = e.table ∙ others_there m at to 3 (λ q. absurd (omega (arith, q)));
    link_kept = e.link_kept;
    stack_kept = e.stack_kept;
    kept = λ r k.
        let range = kept_range r k in let from = range.0 in
        e.kept r k ∙ ap (λ c. Some c) (others_there m at to r (λ q. absurd (omega (arith, q, from))));
  }

-- ---- from the jump on

-- the caller goes on behind a call
abbrev pub awaiting : Running → Option ℕ → List TacInstr → Point
awaiting running to rest = record { running = running; rest = taking to ∷ rest }

module _ (s : Setting) (code : List Instr) (x : IsText s code) (stack : StackIsThere s) (running : Running)
    (to : Option ℕ) (fun : ℕ) (args : List ℕ) (rest body : List TacInstr) (t : State Store) (m : Machine)
    (words64 : HasWords m)
    (b : Begins s code fun (length args) body
    (IsLive s (entry_of fun (caller_of running rest to t) running.callers body)))
    (keeps : CallersKeep s (caller_of running rest to t ∷ running.callers))
    (known_each : (temp : ℕ) → IsAmong temp args → IsKnown t.mem.memory.shapes (functions_of s) (temp_in t temp))
    (low_is : s.map.stack.0 ≤ t.frame) (up : t.frame + stack_place (length args) ≤ stack_top s)
    (even : t.frame % 16 ≡ 0) (begun : ℕ) (n : Machine) (leads_to : Leads begun m n) (mid : ℕ)
    (point : IsAtPoint s code (awaiting running to rest) mid t n)
    (registers : (k temp : ℕ) → k < 8 → slice_get args k ≡ Some temp
    → register n (10 + k) ≡ capability_of (addresses_of s.map) (base_in t.mem.memory.shapes) (temp_in t temp))
    (on_stack : (k temp : ℕ) → 8 ≤ k → slice_get args k ≡ Some temp → kept_at n.mem (t.frame + stack_place k)
    ≡ Some (capability_of (addresses_of s.map) (base_in t.mem.memory.shapes) (temp_in t temp)))
    (goes : act n ≡ Goes (jumped s code x n mid b.entry))
    (back_is : s.back running.fun rest ≡ place (ground_of s code) (mid + 1)) (most : ℕ)
    (few : begun + 1 + length (begin_words s fun b.frame b.words) ≤ most) where
  abbrev ground : Ground
  ground = ground_of s code

  abbrev c : Caller
  c = caller_of running rest to t

  abbrev bits : Value → Cap
  bits = capability_of (addresses_of s.map) (base_in t.mem.memory.shapes)

  abbrev count : ℕ
  count = length args

  waits_left : (temp : ℕ) → Waits s c temp → IsLive s (awaiting running to rest) temp
  waits_left temp w = temps.onward refl (λ h. w.0 (in_some to temp h)) w.1

  abbrev n' : Machine
  n' = jumped s code x n mid b.entry

  n_there : IsThere ground n mid
  n_there = there s code x (awaiting running to rest) mid t n point

  leads_on : Leads (begun + 1) m n'
  leads_on = join begun 1 m n n' leads_to (n', goes, refl)

  at_entry : IsEntered s code t.frame (s.back running.fun rest) b.entry n'
  at_entry = record {
    there = jumped_there s code x n mid b.entry n_there;
    areas = point.fits.objects.areas;
    places = point.fits.places;
    stack = others_there s code x n mid b.entry 2 (λ q. absurd (omega (arith, q))) ∙ point.fits.stack.stack;
    link_is = link_there s code x n mid b.entry n_there.registers ∙ ap (return_sentry s) (sym back_is);
    words = words64 (begun + 1) n' leads_on;
    from = low_is;
    to = omega (arith, up);
    aligned = even;
  }

  abbrev argument : ℕ → ℕ
  argument k = slice_index_or args k 0

  known : (k : ℕ) → k < count → IsKnown t.mem.memory.shapes (functions_of s) (temp_in t (argument k))
  known k l = known_each (argument k) (k, element args k l)

  are_passed : ArePassed s t.frame count (λ k. bits (temp_in t (argument k))) n'
  are_passed = record {
    room = λ some. up;
    registers = λ k l less.
        others_there s code x n mid b.entry (10 + k) (λ q. absurd (omega (arith, q)))
        ∙ registers k (argument k) less (element args k l);
    stack = λ k l far. on_stack k (argument k) far (element args k l);
    words = λ k l. value_small s (Some (awaiting running to rest)) t n point.fits (temp_in t (argument k)) (known k l);
  }

  -- ---- there is room

  abbrev vars : List (Option Value)
  vars = entry_temps b.kinds (values t args)

  value_of_parameter : (k : ℕ) → k < count → held (slice_get vars k) ≡ temp_in t (argument k)
  value_of_parameter k l = ap held (mapped (temp_in t) args _ k (argument k) (element args k l))

  module _ (place' : ℕ) (room : frame_within s.map.stack.0 t.frame (Some b.frame) ≡ Some place') where
    has_parameters : HasParameters s code fun count (λ k. bits (temp_in t (argument k))) b.frame t.frame
        (s.back running.fun rest) (b.entry + length (begin_words s fun b.frame b.words)) place'
        (length (begin_words s fun b.frame b.words)) n'
    has_parameters = parameters_come_law s code x stack fun b.frame b.is_frame.is b.is_frame.for_homes t.frame
        (s.back running.fun rest) b.entry n' at_entry count (λ k. bits (temp_in t (argument k))) b.parameters are_passed
        b.words b.parameter_words b.has place' room

    homes_fit : HomesFit (functions_of s) (addresses_of s.map) t.mem.memory.shapes has_parameters.after.mem
        (registers_in has_parameters.after) (homes_of s fun) (s.numbers fun)
        (slots_from (Some b.frame) (homes_of s fun) place') (IsLive s (entry_of fun c running.callers body)) vars
    homes_fit = record {
      one_each = long_vars;
      kept = λ k h live none e.
          let l = b.reads k live in
          has_parameters.homes k h l e ∙ ap (λ v. Some (bits v)) (sym (value_of_parameter k l));
      numbered = λ k v live e.
          let l = b.reads k live in absurd (none-some v (sym (b.parameters.stand k l) ∙ e));
      known = λ k live.
          let l = b.reads k live in
          subst (IsKnown t.mem.memory.shapes (functions_of s)) (sym (value_of_parameter k l)) (known k l);
    }
      where
        long_vars : length (homes_of s fun) ≡ length vars
        long_vars =
            let left_kinds = drop (length (values t args)) b.kinds in
            let given = map (λ v. Some v) (values t args) in
            let a = length-append given (map (λ k. Some (zero_of (kind_of k))) left_kinds) in
            let d = length-map (values t args) (λ (v : Value). Some v) in
            let e = length-map args (temp_in t) in
            let f = length-map left_kinds (λ (k : TacKind). Some (zero_of (kind_of k))) in
            let h = length-drop (length (values t args)) b.kinds in
            let one = b.one_each in let enough = b.enough in
            omega (arith, a, d, e, f, h, one, enough)

    arrives : Arrives s code (entry_of fun c running.callers body) 1
        most (b.entry + length (begin_words s fun b.frame b.words)) (entered s fun place' b.lengths vars t) m
    arrives =
        let r = has_parameters in
        let fits = enters_fit_law s x.legal running (taking to ∷ rest) rest to t n point.fits keeps waits_left fun
        b.lengths b.frame b.is_frame place' room r.after
        (entered_before s code x fun place' t.frame (s.back running.fun rest) b.frame n mid b.entry r.after r.entered)
        body vars homes_fit in
        let acts_few = r.few in
        record {
          count = begun + 1 + r.acts;
          to = r.after;
          ge = omega arith;
          le = omega arith;
          leads = join (begun + 1) r.acts m n' r.after leads_on r.leads;
          point = record { fits = fits; counter = r.there.counter };
        }

  -- ---- there is none

  sinks : frame_within s.map.stack.0 t.frame (Some b.frame) ≡ None
      → SinksWithin s code most b.entry b.frame m
  sinks none =
      let k = subst (FrameIsTaken s code fun b.frame t.frame (s.back running.fun rest) b.entry n') none
      (prologues_run_law s code x stack fun b.frame b.is_frame.is b.is_frame.for_homes t.frame
      (s.back running.fun rest) b.entry n' at_entry
      (has_front code b.entry (prologue_code (homes_of s fun) b.frame) b.words b.has)) in
      let first = store_first (homes_of s fun) b.frame b.words in
      record {
        count = begun + 1 + length (before_store b.frame);
        few = omega (arith, few, first);
        sinks = k.sinks;
        leads = join (begun + 1) (length (before_store b.frame)) m n' k.sinks leads_on k.leads;
        cause = k.cause;
        ends = k.ends;
      }

  pub whole : (o : Option ℕ) → frame_within s.map.stack.0 t.frame (Some b.frame) ≡ o
      → EntersWithin s code most b.entry
      (b.entry + length (begin_words s fun b.frame b.words)) b.frame (entry_of fun c running.callers body)
      (λ place'. entered s fun place' b.lengths vars t) m o
  whole (Some place') q = arrives place' q
  whole None q = sinks q

-- ---- what waits behind a call

module _ (s : Setting) (running : Running) (i : TacInstr) (to : Option ℕ) (rest : List TacInstr) (t : State Store)
    (keeps : CallersKeep s (caller_of running rest to t ∷ running.callers)) (falls_on : temps.falls i ≡ true)
    (wrote : temps.writes i ≡ in_option to) where
  abbrev own : Caller
  own = caller_of running rest to t

  left_waits : (temp : ℕ) → IsLive s (awaiting running to rest) temp → Waits s own temp
  left_waits temp l = waits s own running.callers temp l

  waits_here : (temp : ℕ) → Waits s own temp → IsLive s (before running i rest) temp
  waits_here temp w = temps.onward falls_on (λ h. w.0 (in_some to temp (subst (IsAmong temp) wrote h))) w.1

  pub goes_aside : GoesOnAside s (before running i rest) (taking to ∷ rest)
  goes_aside = record {
    reads = λ temp l. waits_here temp (left_waits temp l);
    own = λ temp r l e. kept_aside r (keeps.0 temp r (left_waits temp l) e);
    callers = callers_aside s running.callers keeps.1;
  }

-- ---- a call of a function

module _ (s : Setting) (code : List Instr) (x : IsText s code) (stack : StackIsThere s) (running : Running)
    (to : Option ℕ) (fun : ℕ) (args : List ℕ) (rest body : List TacInstr) (at : ℕ) (t : State Store) (m : Machine)
    (point : IsAtPoint s code (before running (instr.Call to fun args) rest) at t m) (words64 : HasWords m)
    (b : Begins s code fun (length args) body
    (IsLive s (entry_of fun (caller_of running rest to t) running.callers body))) (z : ℤ) (words : List Instr)
    (form : CallWords (selecting s running.fun) args z words) (has : HasAt code at words)
    (leads : LeadsTo s code (at + length form.passes) b.entry z)
    (may : MayCall s code running to args rest (at + length words) t) where
  abbrev p : Point
  p = before running (instr.Call to fun args) rest

  aside : GoesOnAside s p (taking to ∷ rest)
  aside = goes_aside s running (instr.Call to fun args) to rest t may.keeps refl refl

  all_words : HasAt code at (form.passes ++ Cjal 1 z ∷ [])
  all_words = subst (HasAt code at) form.are has

  long_words : length words ≡ length form.passes + 1
  long_words = ap (λ ws. length ws) form.are ∙ length-append form.passes (Cjal 1 z ∷ [])

  passed : PassesArguments s code p (taking to ∷ rest) args (at + length form.passes) (length form.passes) t m
  passed = arguments_pass_law s code x stack p (taking to ∷ rest) aside may.frame may.is args
      (λ temp h. now h) may.room at
      t m point form.passes form.passed (has_front code at form.passes (Cjal 1 z ∷ []) all_words)

  pub calls : EntersWithin s code (cost (instr.Call to fun args) + prologue_cost (length args)) b.entry
      (b.entry + length (begin_words s fun b.frame b.words)) b.frame
      (entry_of fun (caller_of running rest to t) running.callers body)
      (λ place'. entered s fun place' b.lengths (entry_temps b.kinds (values t args)) t) m
      (frame_within s.map.stack.0 t.frame (Some b.frame))
  calls =
      let y = numbers s code x stack p (taking to ∷ rest) aside may.frame may.is args (λ temp h. now h) may.room t m
      point.fits in
      let there_now = there s code x (awaiting running to rest) (at + length form.passes) t passed.to passed.point in
      let l = long_words in let less = passed.few in
      let passing_few = arguments_few s running.fun args form.passes form.passed in
      let begin_few = begins_few s fun (homes_of s fun) b.frame (length args) b.words b.parameter_words in
      let back_place : at + length words ≡ at + length form.passes + 1 = omega (arith, l) in
      whole s code x stack running to fun args rest body t m words64 b may.keeps
      (λ temp h. point.fits.calls.1.known temp (now h)) y.low y.up y.even passed.count passed.to passed.leads
      (at + length form.passes) passed.point passed.registers passed.stack
      (links s code x passed.to (at + length form.passes) b.entry z there_now
      (has_back code at form.passes (Cjal 1 z ∷ []) all_words).0 leads)
      (may.back ∙ ap (place (ground_of s code)) back_place)
      (cost (instr.Call to fun args) + prologue_cost (length args)) (omega (arith, less, passing_few, begin_few))
      (frame_within s.map.stack.0 t.frame (Some b.frame)) refl

pub calls_run_law : CallsRun
calls_run_law s code x stack w p running to fun args rest body at t m point words64 b z words form has leads may =
    record {
      means = λ k. refl;
      does = calls s code x stack running to fun args rest body at t m point words64 b z words form has leads may;
    }

-- ---- the first entry

module _ (s : Setting) (code : List Instr) (x : IsText s code) (stack : StackIsThere s) (fun : ℕ)
    (body : List TacInstr) (t : State Store) (m : Machine) (words64 : HasWords m)
    (b : Begins s code fun 0 body (IsLive s (first_of fun body))) (begun : ℕ) (n : Machine) (leads_to : Leads begun m n)
    (fits : Fits s None t n) (mid : ℕ) (n_there : IsThere (ground_of s code) n mid)
    (goes : act n ≡ Goes (jumped s code x n mid b.entry)) (stub : s.stub ≡ place (ground_of s code) (mid + 1))
    (few : begun ≤ 3) where
  abbrev first_next : Machine
  first_next = jumped s code x n mid b.entry

  first_leads : Leads (begun + 1) m first_next
  first_leads = join begun 1 m n first_next leads_to (first_next, goes, refl)

  first_entry : IsEntered s code t.frame s.stub b.entry first_next
  first_entry =
      let top_is = fits.calls in let base = x.legal.stack_base in let long = x.legal.stack_length in
      record {
        there = jumped_there s code x n mid b.entry n_there;
        areas = fits.objects.areas;
        places = fits.places;
        stack = others_there s code x n mid b.entry 2 (λ q. absurd (omega (arith, q))) ∙ fits.stack.stack;
        link_is = link_there s code x n mid b.entry fits.registers ∙ ap (return_sentry s) (sym stub);
        words = words64 (begun + 1) first_next first_leads;
        from = omega (arith, top_is);
        to = omega (arith, top_is);
        aligned = omega (arith, top_is, base, long);
      }

  none_passed : ArePassed s t.frame 0 (λ k. register n 0) first_next
  none_passed = record {
    room = λ some. absurd (omega (arith, some));
    registers = λ k l few. absurd (omega (arith, l));
    stack = λ k l far. absurd (omega (arith, l));
    words = λ k l. absurd (omega (arith, l));
  }

  module _ (place' : ℕ) (room : frame_within s.map.stack.0 t.frame (Some b.frame) ≡ Some place') where
    first_has : HasParameters s code fun 0 (λ k. register n 0) b.frame t.frame s.stub
        (b.entry + length (begin_words s fun b.frame b.words)) place' (length (begin_words s fun b.frame b.words))
        first_next
    first_has = parameters_come_law s code x stack fun b.frame b.is_frame.is b.is_frame.for_homes t.frame s.stub b.entry
        first_next first_entry 0 (λ k. register n 0) b.parameters none_passed b.words b.parameter_words b.has place' room

    first_homes : HomesFit (functions_of s) (addresses_of s.map) t.mem.memory.shapes first_has.after.mem
        (registers_in first_has.after) (homes_of s fun) (s.numbers fun)
        (slots_from (Some b.frame) (homes_of s fun) place') (IsLive s (first_of fun body)) (entry_temps b.kinds [])
    first_homes = record {
      one_each = b.one_each ∙ sym (length-map b.kinds (λ (k : TacKind). Some (zero_of (kind_of k))));
      kept = λ k h live none e. let l = b.reads k live in absurd (omega (arith, l));
      numbered = λ k v live e. let l = b.reads k live in absurd (omega (arith, l));
      known = λ k live. let l = b.reads k live in absurd (omega (arith, l));
    }

    first_arrives : Arrives s code (first_of fun body) 1 (prologue_cost 0)
        (b.entry + length (begin_words s fun b.frame b.words))
        (entered s fun place' b.lengths (entry_temps b.kinds []) t) m
    first_arrives =
        let r = first_has in let most = r.few in
        let begin_few = begins_few s fun (homes_of s fun) b.frame 0 b.words b.parameter_words in
        record {
          count = begun + 1 + r.acts;
          to = r.after;
          ge = omega arith;
          le = omega (arith, most, few, begin_few);
          leads = join (begun + 1) r.acts m first_next r.after first_leads r.leads;
          point = record {
            fits = first_enters_fit_law s x.legal t n fits fun b.lengths b.frame b.is_frame place' room r.after
                (entered_before s code x fun place' t.frame s.stub b.frame n mid b.entry r.after r.entered) body
                (entry_temps b.kinds []) first_homes;
            counter = r.there.counter;
          };
        }

  first_sinks : frame_within s.map.stack.0 t.frame (Some b.frame) ≡ None
      → SinksWithin s code (prologue_cost 0) b.entry b.frame m
  first_sinks none =
      let k = subst (FrameIsTaken s code fun b.frame t.frame s.stub b.entry first_next) none
      (prologues_run_law s code x stack fun b.frame b.is_frame.is b.is_frame.for_homes t.frame s.stub b.entry first_next
      first_entry
      (has_front code b.entry (prologue_code (homes_of s fun) b.frame) b.words b.has)) in
      let store = store_first (homes_of s fun) b.frame b.words in
      let begin_few = begins_few s fun (homes_of s fun) b.frame 0 b.words b.parameter_words in
      record {
        count = begun + 1 + length (before_store b.frame);
        few = omega (arith, store, few, begin_few);
        sinks = k.sinks;
        leads = join (begun + 1) (length (before_store b.frame)) m first_next k.sinks first_leads k.leads;
        cause = k.cause;
        ends = k.ends;
      }

  pub first_whole : (o : Option ℕ) → frame_within s.map.stack.0 t.frame (Some b.frame) ≡ o
      → EntersWithin s code (prologue_cost 0) b.entry
      (b.entry + length (begin_words s fun b.frame b.words)) b.frame (first_of fun body)
      (λ place'. entered s fun place' b.lengths (entry_temps b.kinds []) t) m o
  first_whole (Some place') q = first_arrives place' q
  first_whole None q = first_sinks q

pub first_is_entered_law : FirstIsEntered
first_is_entered_law s code x stack fun at body t m fits counter words64 b z has leads stub =
    let there : IsThere (ground_of s code) m at = record {
      counter = counter;
      registers = fits.registers;
      text = text_there s code x None t m fits;
    } in
    first_whole s code x stack fun body t m words64 b 0 m refl fits at there
    (links s code x m at b.entry z there has leads) stub (omega arith)
    (frame_within s.map.stack.0 t.frame (Some b.frame)) refl
