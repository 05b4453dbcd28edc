-- Returns: the machine goes to the link, and the caller goes on with the result.
use Rattle.std.proofs.Common.{◌≡◌, ℕ, zero, ◌+◌, ◌%◌, ◌<◌, ◌≤◌, pos, true, List, [], ◌∷◌, ◌++◌, length, refl, sym, ap}
use Rattle.std.proofs.Common.{◌∙◌, subst, arith, Option, Some, None, inl, inr}
use Rattle.std.specs.Prelude.{slice_get}
use Rattle.std.proofs.lemmas.List.{length-append}
use Rattle.std.proofs.lemmas.Option.{same_Some, none-some, slice_get_within}
use Rattle.ck_base.specs.Runs.{Ends}
use Rattle.ck_base.specs.World.{World}
use Rattle.cap_ops.specs.declared.capability.Cap.{Cap}
use Rattle.cap_ops.specs.Capability.{null_at}
use Rattle.rv_instr.specs.declared.instr.Instr.{Instr}
use Rattle.rv_instr.specs.declared.instr.Instr.TheVariants.{Imm, Ecall, Clc, Cjalr}
use Rattle.rv_instr.specs.declared.ops.ImmOp.TheVariants.{Addi}
use Rattle.tag_mem.specs.Areas.{is_inside}
use Rattle.cap_machine.specs.declared.end.End.TheVariants as end
use Rattle.cap_machine.specs.declared.machine.Machine.{Machine}
use Rattle.cap_machine.specs.State.{register}
use Rattle.cap_machine.specs.Step.{act}
use Rattle.c_tree.specs.declared.typed.Typed.{Typed}
use Rattle.cheri_c_sem.specs.Kinds.{number_of}
use Rattle.cheri_c_sem.specs.Modes.{Store, operations, placed_plan}
use Rattle.cheri_c_sem.specs.Steps.{State, Fate}
use Rattle.obj_mem.specs.Objects.{base_in}
use Rattle.obj_mem.specs.Table.{addresses_of}
use Rattle.obj_mem.specs.Values.{Value, Int, capability_of}
use Rattle.reg_alloc.specs.Placed.{IsKept}
use Rattle.purecap_abi.specs.declared.taking.Way.TheVariants.{FromFrame}
use Rattle.purecap_abi.specs.Ends.{epilogue_code, keep_code, give_code}
use Rattle.purecap_abi.specs.Saving.{registers_at, kept_homes, stack_at}
use Rattle.purecap_abi.proofs.EndLaws.{epilogue_most}
use Rattle.tac_ir.specs.Costs.{cost}
use Rattle.tac_ir.specs.Effects.{Next, Back, effect, temp_in}
use Rattle.tac_ir.specs.Meaning.{Caller, Running, with_result}
use Rattle.tac_ir.specs.Temps.{now, onward, ahead, in_option, IsIn as IsAmong}
use Rattle.tac_ir.specs.declared.code.TacInstr.{TacInstr}
use Rattle.tac_ir.specs.declared.code.TacInstr.TheVariants as instr
use Rattle.place_inject.specs.Values.{IsKnown}
use Rattle.place_inject.specs.Frames.{Setting, FrameFits, IsLive, Waits, homes_of, functions_of, stack_top}
use Rattle.place_inject.specs.Frames.{stack_pointer, behind_return, from_place, kept_place, locals_by}
use Rattle.place_inject.specs.Fits.{registers_in}
use Rattle.place_inject.specs.Homes.{CallersKeep}
use Rattle.place_inject.specs.Leaving.{OthersAreOlder, caller_at, returned, IsBack}
use Rattle.place_inject.specs.Spills.{StackIsThere}
use Rattle.place_inject.proofs.Leaving.{value_stays, leaves_fit_law}
use Rattle.place_inject.proofs.ReadBack.{newest, under_top}
use Rattle.place_inject.proofs.Results.{moves_on_law}
use Rattle.select_words.specs.Standing.{HasAt}
use Rattle.select_words.specs.Returning.{ReturnWords}
use Rattle.select_words.specs.Services.{Argument, KeepSome, taking}
use Rattle.select_runs.specs.Acts.{Ground, IsThere, Leads, place, counter_at}
use Rattle.select_runs.specs.Operands.{ground_of, IsText, IsAtPoint}
use Rattle.select_runs.specs.Results.{Computed, MayTake, Arrives, before, behind, kinds_in}
use Rattle.select_runs.specs.Returning.{ResumesAt, Gives, value_of, ending, resumed, ReturnsRun, StubAt, LastReturnsRun}
use Rattle.select_runs.proofs.Acts.{has_front, has_back, join, still, fetched_here}
use Rattle.select_runs.proofs.Bringing.{brought}
use Rattle.select_runs.proofs.Epilogue.{Ended, ends}
use Rattle.select_runs.proofs.Numbers.{number_at, numbers_are_made_law}
use Rattle.select_runs.proofs.Points.{laid, there}
use Rattle.select_runs.proofs.Results.{reads_no_more, reads_as_before, results_go_home_law}
use Rattle.select_runs.proofs.Services.{makes_service, call_is, low_byte_is}
use Rattle.select_runs.proofs.Simple.{bring_few, keep_few}
use Rattle.select_runs.proofs.Stretches.{Gone, gone, gone_as, gone_nowhere, gone_on, stays_there}
use Rattle.select_runs.specs.Selecting.{selecting}

-- ---- c10

ten_is_free : IsKept 10 → ⊥
ten_is_free k = by k
  where
    by : IsKept 10 → ⊥
    by (inl e) = absurd (omega (arith, e))
    by (inr (inl e)) = absurd (omega (arith, e))
    by (inr (inr l)) = let from = l.0 in absurd (omega (arith, from))

-- ---- what waits for a result

no_reads : (k : ℕ) → IsAmong k [] → ⊥
no_reads k h = none-some k h.1

-- behind a call for that result, what is read is what waited
pub waits : (s : Setting) (c : Caller) (cs : List Caller) (temp : ℕ)
    → IsLive s (caller_at c cs (taking c.to ∷ c.rest)) temp → Waits s c temp
waits s c cs temp (now h) = absurd (no_reads temp h)
waits s c cs temp (onward goes not_written live) = (
  λ e. not_written (subst (λ o. IsAmong temp (in_option o)) (sym e) (zero, refl)),
  live,
)
waits s c cs temp (ahead l h live) = absurd (no_reads l h)

-- ---- the result is kept

module _ (s : Setting) (code : List Instr) (x : IsText s code) (stack : StackIsThere s) (running : Running)
    (to : Option ℕ) (rest : List TacInstr) (at : ℕ) (t : State Store) (m : Machine)
    (point : IsAtPoint s code (before running (taking to) rest) at t m) (v : Value)
    (known : IsKnown t.mem.memory.shapes (functions_of s) v) where
  abbrev result : Cap
  result = capability_of (addresses_of s.map) (base_in t.mem.memory.shapes) v

  -- where there is a temp for it, c10 has it
  pub result_kept : (o : Option ℕ) → to ≡ o → ((temp : ℕ) → o ≡ Some temp → register m 10 ≡ result)
      → ((temp : ℕ) → o ≡ Some temp → MayTake s (behind running rest) temp) → (keep : List Instr)
      → KeepSome (selecting s running.fun) o keep → HasAt code at keep
      → Arrives s code (behind running rest) 0 3 (at + length keep) (record t { vars = with_result t.vars o v }) m
  result_kept None none holds free keep kept has =
      let e : at ≡ at + length keep =
      (let z : at ≡ at + 0 = omega arith in z) ∙ sym (ap (λ y. at + length y) kept) in
      record {
        count = 0;
        to = m;
        ge = omega arith;
        le = omega arith;
        leads = refl;
        point = record {
          fits = moves_on_law s (before running (taking to) rest) t m point.fits rest
              (λ temp live. reads_as_before s running (taking to) rest refl (ap in_option none) temp live);
          counter = point.counter ∙ ap (counter_at (ground_of s code)) e;
        };
      }
  result_kept (Some temp) is holds free keep kept has =
      let computed : Computed s code m 0 at 28 10 result = record {
        to = m;
        leads = refl;
        counter = point.counter;
        registers = point.fits.registers;
        holds = holds temp refl;
        others = λ q l d. refl;
        memory = refl;
      } in
      let a = results_go_home_law s code x stack (before running (taking to) rest) at t m point rest temp
      (free temp refl) (reads_no_more s running (taking to) rest temp refl (ap in_option is)) v known 0 at 28 10
      (inl (omega arith)) (λ e. absurd (omega (arith, e))) computed keep kept has in
      let less = a.le in let few = keep_few s running.fun temp 10 keep kept in
      record {
        count = a.count;
        to = a.to;
        ge = omega arith;
        le = omega arith;
        leads = a.leads;
        point = a.point;
      }

-- ---- the end of a function

module _ (s : Setting) (code : List Instr) (x : IsText s code) (stack : StackIsThere s) (running : Running)
    (v : Option ℕ) (rest : List TacInstr) (at : ℕ) (t : State Store) (m : Machine)
    (point : IsAtPoint s code (ending running v rest) at t m) (words : List Instr)
    (form : ReturnWords (selecting s running.fun) v words) (has : HasAt code at words) where
  abbrev g : Ground
  g = ground_of s code

  abbrev bits : Value → Cap
  bits = capability_of (addresses_of s.map) (base_in t.mem.memory.shapes)

  -- c10 has the value, where there is one
  abbrev pub Carries : Option ℕ → Machine → Type 0
  Carries None n = Unit {0}
  Carries (Some a) n = register n 10 ≡ bits (temp_in t a)

  abbrev Found : Machine → Type 0
  Found n = Carries v n × ((q : ℕ) → (q ≡ 10 → ⊥) → register n q ≡ register m q)

  abbrev epilogue : List Instr
  epilogue = epilogue_code (homes_of s running.fun) form.frame

  all_words : HasAt code at (form.finds ++ epilogue)
  all_words = subst (HasAt code at) form.are has

  starts : IsThere g m at
  starts = there s code x (ending running v rest) at t m point

  found : (o : Option ℕ) → Argument (selecting s running.fun) (in_option o) form.finds
      → ((a : ℕ) → o ≡ Some a → IsLive s (ending running v rest) a)
      → Gone g m (length form.finds) (at + length form.finds)
      (λ n. Carries o n × ((q : ℕ) → (q ≡ 10 → ⊥) → register n q ≡ register m q))
  found None none live =
      subst (λ y. Gone g m (length y) (at + length y)
      (λ n. Unit {0} × ((q : ℕ) → (q ≡ 10 → ⊥) → register n q ≡ register m q))) (sym none)
      (gone_nowhere g m at (λ n. Unit {0} × ((q : ℕ) → (q ≡ 10 → ⊥) → register n q ≡ register m q)) starts
      (tt, λ q d. refl))
  found (Some a) b live =
      gone g m (length form.finds) (at + length form.finds) 10 10 (bits (temp_in t a))
      (brought s code x (ending running v rest) t m at point a 10 (live a refl) (omega arith) (omega arith) form.finds b
      (has_front code at form.finds epilogue all_words))

  found_few : (o : Option ℕ) → Argument (selecting s running.fun) (in_option o) form.finds → length form.finds ≤ 3
  found_few None none = subst (λ y. length y ≤ 3) (sym none) (omega arith)
  found_few (Some a) b = bring_few s running.fun a 10 form.finds b

  pub count_few : (0 < length form.finds + length epilogue) × (length form.finds + length epilogue ≤ 23)
  count_few =
      let finds = found_few v form.found in
      let most = (epilogue_most (homes_of s running.fun) form.frame).few in
      let homes = homes_of s running.fun in
      let long = length-append (keep_code FromFrame (registers_at homes form.frame) (kept_homes homes)
      ++ Clc 1 2 (pos 0) ∷ [] ++ give_code (stack_at homes form.frame) form.frame.size) (Cjalr 0 1 (pos 0) ∷ []) in
      (omega arith, omega arith)

  module _ (first above link : ℕ) (fr : FrameFits s t.mem.memory.shapes m.mem running.fun first t.frame above link)
      (up : above ≤ stack_top s) (whole : above % 16 ≡ 0) where
    -- the machine at the link
    pub record Left (n : Machine) : Type 0 where
      pub stack_is : register n 2 ≡ stack_pointer s above
      pub table : register n 3 ≡ register m 3
      pub carries : Carries v n
      pub kept : (r : ℕ) → IsKept r
          → Some (register n r) ≡ behind_return s m.mem running.fun t.frame (registers_in m) r

    inside : (y : ℕ) → s.map.stack.0 ≤ y → y < stack_top s → is_inside m.mem y ≡ true
    inside y l u = point.fits.places y ∙ stack y l u

    same_frame : fr.frame ≡ form.frame
    same_frame = same_Some fr.frame form.frame (sym fr.is ∙ form.is)

    carried : (o : Option ℕ) (n to : Machine) → register to 10 ≡ register n 10 → Carries o n → Carries o to
    carried None n to e c = tt
    carried (Some a) n to e c = e ∙ c

    pub leaves : (to : ℕ) → link ≡ place g to → to < length code
        → Gone g m (length form.finds + length epilogue) to Left
    leaves to is in_code =
        let f = found v form.found (λ a e. now (subst (λ o. IsAmong a (in_option o)) (sym e) (zero, refl))) in
        gone_on g m (length form.finds) (length epilogue) (at + length form.finds) to Found Left f
        (ended f.to (stays_there g m f.to at (at + length form.finds) starts f.counter f.registers f.memory) f.memory
        f.has)
      where
        differs : (r : ℕ) → IsKept r → r ≡ 10 → ⊥
        differs r k e = ten_is_free (subst IsKept e k)

        ended : (n : Machine) → IsThere g n (at + length form.finds) → n.mem ≡ m.mem → Found n
            → Gone g n (length epilogue) to Left
        ended n there' mem h =
            gone_as g n (length epilogue) to
            (Ended s code x m inside running.fun first t.frame above link t.mem.memory.shapes fr up whole n) Left
            (subst (λ f. Gone g n (length (epilogue_code (homes_of s running.fun) f)) to
            (Ended s code x m inside running.fun first t.frame above link t.mem.memory.shapes fr up whole n)) same_frame
            (ends s code x m inside running.fun first t.frame above link t.mem.memory.shapes fr up whole n
            (at + length form.finds) there' mem
            (h.1 2 (λ e. absurd (omega (arith, e))) ∙ point.fits.stack.stack)
            (subst (λ f. HasAt code (at + length form.finds) (epilogue_code (homes_of s running.fun) f))
            (sym same_frame)
            (has_back code at form.finds epilogue all_words)) to is in_code))
            (λ a e. record {
              stack_is = e.stack;
              table = e.table ∙ h.1 3 (λ d. absurd (omega (arith, d)));
              carries = carried v n a e.value h.0;
              kept = λ r k.
                  e.kept r k
                  ∙ ap (λ c. from_place m.mem (kept_place (slice_get s.map.frames running.fun) (homes_of s running.fun)
                  t.frame r) (Some c)) (h.1 r (differs r k));
            })

-- ---- the laws

means_back : (s : Setting) (w : World) (p : Typed) (running : Running) (v : Option ℕ) (t : State Store)
    (k : Next → State Store → Fate)
    → effect (operations (placed_plan s.map)) w p (kinds_in s running) (instr.Return v) t k ≡ k (Back (value_of t v)) t
means_back s w p running None t k = refl
means_back s w p running (Some a) t k = refl

module _ (s : Setting) (code : List Instr) (x : IsText s code) (stack : StackIsThere s) (fun : ℕ) (v : Option ℕ)
    (c : Caller) (cs : List Caller) (rest : List TacInstr) (at : ℕ) (t : State Store) (m : Machine)
    (point : IsAtPoint s code (ending (record { fun = fun; callers = c ∷ cs }) v rest) at t m)
    (keeps : CallersKeep s (c ∷ cs)) (older : OthersAreOlder s t.first (c ∷ cs)) (gives : Gives v c.to)
    (words : List Instr) (form : ReturnWords (selecting s fun) v words) (has : HasAt code at words) (to : ℕ)
    (keep : List Instr)
    (resumes : ResumesAt s code c cs to keep) (lengths : List ℕ)
    (long : length lengths ≡ length (locals_by (slice_get s.needs.functions fun))) where
  abbrev callee : Running
  callee = record { fun = fun; callers = c ∷ cs }

  abbrev own : Running
  own = record { fun = c.fun; callers = cs }

  abbrev out : State Store
  out = returned s lengths c t

  up : c.frame ≤ stack_top s
  up = under_top s t.mem.memory.shapes m.mem (behind_return s m.mem fun t.frame (registers_in m)) c.fun c.first c.frame
      cs point.fits.calls.2.3

  whole : c.frame % 16 ≡ 0
  whole = (newest s t.mem.memory.shapes m.mem (behind_return s m.mem fun t.frame (registers_in m)) c.fun c.first c.frame
      cs point.fits.calls.2.3).frame.aligned

  abbrev Left_now : Machine → Type 0
  Left_now = Left s code x stack callee v rest at t m point words form has t.first c.frame (s.back c.fun c.rest)
      point.fits.calls.2.0 up whole

  left_now : Gone (ground_of s code) m (length form.finds + length (epilogue_code (homes_of s fun) form.frame)) to
      Left_now
  left_now = leaves s code x stack callee v rest at t m point words form has t.first c.frame (s.back c.fun c.rest)
      point.fits.calls.2.0 up whole to resumes.is resumes.inside

  back_there : (a : Machine) → length a.regs ≡ 32 → a.mem ≡ m.mem → Left_now a → IsBack s fun c t m a
  back_there a registers memory l = record {
    registers = registers;
    memory = memory;
    stack = l.stack_is;
    table = l.table;
    kept = l.kept;
  }

  -- the value, known to the caller, and in c10 where it asks for it
  known_value : (o : Option ℕ) → v ≡ o → IsKnown out.mem.memory.shapes (functions_of s) (value_of t o)
  known_value None e = omega arith
  known_value (Some a) e =
      (value_stays s fun c cs (instr.Return v ∷ rest) t m point.fits keeps older lengths long (temp_in t a)
      (point.fits.calls.1.known a (now (subst (λ o. IsAmong a (in_option o)) (sym e) (zero, refl))))).0

  holds_value : (o p : Option ℕ) → v ≡ o → c.to ≡ p → Gives o p → (a : Machine)
      → Carries s code x stack callee v rest at t m point words form has o a → (temp : ℕ) → p ≡ Some temp
      → register a 10 ≡ capability_of (addresses_of s.map) (base_in out.mem.memory.shapes) (value_of t o)
  holds_value None None e q gives_it a carries temp is = absurd (none-some temp is)
  holds_value None (Some to') e q gives_it a carries temp is = absurd gives_it
  holds_value (Some b) p e q gives_it a carries temp is =
      carries ∙ sym (value_stays s fun c cs (instr.Return v ∷ rest) t m point.fits keeps older lengths long
      (temp_in t b)
      (point.fits.calls.1.known b (now (subst (λ o. IsAmong b (in_option o)) (sym e) (zero, refl))))).1

  goes_back : Arrives s code (caller_at c cs c.rest) 1 (cost (instr.Return v) + 3) (to + length keep)
      (resumed s lengths c v t) m
  goes_back = by left_now.to left_now.leads left_now.counter left_now.registers left_now.memory left_now.has
    where
      by : (a : Machine) → Leads (length form.finds + length (epilogue_code (homes_of s fun) form.frame)) m a
          → a.pc ≡ counter_at (ground_of s code) to → length a.regs ≡ 32 → a.mem ≡ m.mem → Left_now a
          → Arrives s code (caller_at c cs c.rest) 1 (cost (instr.Return v) + 3) (to + length keep)
          (resumed s lengths c v t) m
      by a leads counter registers memory l =
          let fits = leaves_fit_law s fun c cs (instr.Return v ∷ rest) t m point.fits keeps older lengths long
          (taking c.to ∷ c.rest) (waits s c cs) a (back_there a registers memory l) in
          let k = result_kept s code x stack own c.to c.rest to out a (record { fits = fits; counter = counter })
          (value_of t v) (known_value v refl) c.to refl
          (holds_value v c.to refl refl gives a l.carries) resumes.free keep
          resumes.kept resumes.words in
          let few = count_few s code x stack callee v rest at t m point words form has in
          let some = few.0 in let most = few.1 in let less = k.le in
          record {
            count = length form.finds + length (epilogue_code (homes_of s fun) form.frame) + k.count;
            to = k.to;
            ge = omega arith;
            le = omega arith;
            leads = join (length form.finds + length (epilogue_code (homes_of s fun) form.frame)) k.count m a k.to leads
                k.leads;
            point = k.point;
          }

pub returns_run_law : ReturnsRun
returns_run_law s code x stack w p fun v c cs rest at t m point keeps older gives words form has to keep resumes =
    record {
      means = means_back s w p (record { fun = fun; callers = c ∷ cs }) v t;
      does = goes_back s code x stack fun v c cs rest at t m point keeps older gives words form has to keep resumes;
    }

module _ (s : Setting) (code : List Instr) (x : IsText s code) (stack : StackIsThere s) (fun v : ℕ)
    (rest : List TacInstr) (at : ℕ) (t : State Store) (m : Machine)
    (point : IsAtPoint s code (ending (record { fun = fun; callers = [] }) (Some v) rest) at t m)
    (whole_number : value_of t (Some v) ≡ Int (number_of (value_of t (Some v)))) (words : List Instr)
    (form : ReturnWords (selecting s fun) (Some v) words) (has : HasAt code at words) (to : ℕ)
    (stub : StubAt s code to) where
  abbrev first : Running
  first = record { fun = fun; callers = [] }

  top_whole : stack_top s % 16 ≡ 0
  top_whole = let base = x.legal.stack_base in let long = x.legal.stack_length in omega arith

  top_is : stack_top s ≤ stack_top s
  top_is = omega arith

  last_left : Gone (ground_of s code) m (length form.finds + length (epilogue_code (homes_of s fun) form.frame)) to
      (Left s code x stack first (Some v) rest at t m point words form has t.first
      (stack_top s) s.stub point.fits.calls.2
      top_is top_whole)
  last_left = leaves s code x stack first (Some v) rest at t m point words form has t.first (stack_top s) s.stub
      point.fits.calls.2 top_is top_whole to stub.is (slice_get_within code to (Imm Addi 17 0 (pos 3)) stub.words.0)

  -- the machine that asks for the end
  pub record Asks_last : Type 0 where
    pub asks : Machine
    pub leads : Leads (length form.finds + length (epilogue_code (homes_of s fun) form.frame) + 1) m asks
    pub ends_by : act asks ≡ Ends (end.Exit (number_of (value_of t (Some v)) % 256))

  asks_last : Asks_last
  asks_last = by last_left.to last_left.leads last_left.counter last_left.registers last_left.memory
      last_left.has.carries
    where
      by : (a : Machine) → Leads (length form.finds + length (epilogue_code (homes_of s fun) form.frame)) m a
          → a.pc ≡ counter_at (ground_of s code) to → length a.regs ≡ 32 → a.mem ≡ m.mem
          → register a 10 ≡ capability_of (addresses_of s.map) (base_in t.mem.memory.shapes) (temp_in t v) → Asks_last
      by a leads counter registers memory carries =
          let g = ground_of s code in
          let begun = there s code x (ending first (Some v) rest) at t m point in
          let there' = stays_there g m a at to begun counter registers memory in
          let b = numbers_are_made_law g (laid s code x) a to there' 17 3 (omega arith) (omega arith)
          (Imm Addi 17 0 (pos 3) ∷ []) (makes_service 3 (omega arith)) (stub.words.0, tt) in
          let at_call = still g (laid s code x) a (to + 1) to 17 17 1 (null_at 3) there' b in
          record {
            asks = b.to;
            leads = join (length form.finds + length (epilogue_code (homes_of s fun) form.frame)) 1 m a b.to leads
                b.leads;
            ends_by = fetched_here g (laid s code x) b.to (to + 1) Ecall at_call.counter at_call.text stub.words.1.0
                ∙ call_is b.to 3 (number_at b.to 17 3 b.holds)
                ∙ ap (λ n. Ends (end.Exit n)) (low_byte_is (addresses_of s.map) (base_in t.mem.memory.shapes)
                (temp_in t v) b.to whole_number (b.others 10 (λ e. absurd (omega (arith, e))) ∙ carries));
          }

pub last_returns_run_law : LastReturnsRun
last_returns_run_law s code x stack w p fun v rest at t m point number words form has to stub =
    let a = asks_last s code x stack fun v rest at t m point number words form has to stub in
    let few = count_few s code x stack (record { fun = fun; callers = [] }) (Some v) rest at t m point words form has in
    let most = few.1 in
    record {
      means = means_back s w p (record { fun = fun; callers = [] }) (Some v) t;
      count = length form.finds + length (epilogue_code (homes_of s fun) form.frame) + 1;
      few = omega arith;
      asks = a.asks;
      leads = a.leads;
      ends = a.ends_by;
    }
