-- Calls of the library that speak with the outside.
use Rattle.std.proofs.Common.{◌≡◌, ℕ, zero, ◌+◌, ◌-◌, ◌%◌, ◌^◌, ◌<◌, ◌≤◌, pos, true, List, [], ◌∷◌, ◌++◌, length}
use Rattle.std.proofs.Common.{Option, Some, None, refl, sym, ap, ◌∙◌, subst, arith, inl, inr, if◌then◌else◌}
use Rattle.std.specs.Prelude.{slice_set, ◌==◌}
use Rattle.std.proofs.lemmas.Bool.{and_parts}
use Rattle.std.proofs.lemmas.List.{length-append, length-set}
use Rattle.std.proofs.lemmas.Option.{slice_get_within}
use Rattle.ck_base.specs.Runs.{Act, Puts, Reads, Ends}
use Rattle.ck_base.specs.World.{World, Done}
use Rattle.ck_int.specs.declared.kinds.IntKind.TheVariants as int
use Rattle.ck_int.specs.Kinds.{IsKept, kept_of, wrapped, reduced}
use Rattle.cap_ops.specs.declared.capability.Cap.{Cap}
use Rattle.cap_ops.specs.Capability.{null_at}
use Rattle.c_tree.specs.declared.typed.Typed.{Typed}
use Rattle.rv_instr.specs.declared.instr.Instr.{Instr}
use Rattle.rv_instr.specs.declared.instr.Instr.TheVariants.{Imm, Ecall}
use Rattle.rv_instr.specs.declared.ops.ImmOp.TheVariants.{Addi}
use Rattle.cap_machine.specs.declared.end.End.{End}
use Rattle.cap_machine.specs.declared.end.End.TheVariants as end
use Rattle.cap_machine.specs.declared.machine.Machine.{Machine}
use Rattle.cap_machine.specs.State.{register, integer, counter, next}
use Rattle.cap_machine.specs.Step.{act, call, low_byte, answered, read_value}
use Rattle.cheri_c_sem.specs.Kinds.{number_of}
use Rattle.cheri_c_sem.specs.Modes.{Store, operations}
use Rattle.cheri_c_sem.specs.Steps.{State, byte_or_end}
use Rattle.obj_mem.specs.Objects.{base_in}
use Rattle.obj_mem.specs.Table.{addresses_of}
use Rattle.obj_mem.specs.Values.{Value, Int, Addresses, capability_of}
use Rattle.purecap_abi.specs.Numbers as numbers
use Rattle.purecap_abi.specs.Numbers.{number_after}
use Rattle.tac_ir.specs.Effects.{kind_at, temp_in}
use Rattle.tac_ir.specs.Meaning.{Running, with_result}
use Rattle.tac_ir.specs.Temps.{Awaits, falls, reads, writes, in_option, now, IsIn as IsAmong}
use Rattle.tac_ir.specs.Temps as temps
use Rattle.tac_ir.specs.WellFormed.{has, int_result, result_fits, all_have}
use Rattle.tac_ir.specs.declared.code.TacInstr.{TacInstr}
use Rattle.place_inject.specs.Frames.{Setting, Point, IsLive}
use Rattle.place_inject.specs.Fits.{Fits}
use Rattle.place_inject.specs.Spills.{StackIsThere}
use Rattle.place_inject.proofs.Registers.{registers_keep, done_keeps_fits_law}
use Rattle.place_inject.proofs.Results.{moves_on_law}
use Rattle.select_words.specs.Standing.{HasAt}
use Rattle.select_words.specs.Numbers.{MakesNumber}
use Rattle.select_words.specs.Services.{ask, KeepSome, Argument, Asks, IsAside, putting, taking, leaving}
use Rattle.select_runs.specs.Acts.{Ground, Holds, IsThere, Leads, counter_at}
use Rattle.select_runs.specs.Kinds.{AreOfKinds}
use Rattle.select_runs.specs.Operands.{ground_of, IsText, IsAtPoint}
use Rattle.select_runs.specs.Results.{Computed, Arrives, IsConstant, IsSelectable, before, behind, kinds_in, code_in}
use Rattle.select_runs.specs.Services.{StandsAside, served, IsByteOrEnd, PutsRun, TakesRun, ExitsRun}
use Rattle.select_runs.proofs.Acts.{has_front, has_back, join, still, with_is, set_same, set_other, fetched_here}
use Rattle.select_runs.proofs.Acts.{next_is, begins}
use Rattle.select_runs.proofs.Bringing.{brought}
use Rattle.select_runs.proofs.Kinded.{kinded_set, has_kind, kind_passes, same_turned}
use Rattle.select_runs.proofs.Numbers.{number_at, null_address, numbers_are_made_law, signed_small, wrapped_word}
use Rattle.select_runs.proofs.Points.{laid, there}
use Rattle.select_runs.proofs.Results.{reads_no_more, reads_as_before, results_go_home_law}
use Rattle.select_runs.proofs.Simple.{bring_few, keep_few, may_take}
use Rattle.select_runs.proofs.Working.{integer_bits, integer_of}
use Rattle.select_runs.specs.Selecting.{selecting}

-- ---- the number of the service

pub makes_service : (k : ℕ) → k < 2 ^ 64 → MakesNumber 17 k (Imm Addi 17 0 (pos k) ∷ [])
unfolding number_after numbers.plus
makes_service k small = record { own = ((refl, inr refl), tt); some = omega arith; made = λ x. omega arith }

-- what an environment call does, by that number
module _ (m : Machine) where
  abbrev pub by_number : ℕ → Act Machine End
  by_number n =
      if n == 1 then Puts (low_byte m) (answered m (low_byte m))
      else if n == 2 then Reads (λ byte. answered m (read_value byte))
      else if n == 3 then Ends (end.Exit (low_byte m))
      else Ends (end.Illegal (counter m))

  pub call_is : (n : ℕ) → integer m 17 ≡ n → call m ≡ by_number n
  unfolding call
  call_is n e = ap by_number e

-- ---- temps that wait for the call

-- what is to be read from a call of that shape on is to be read behind it, and isn't its result
pub waits_by : (whole is : List TacInstr) (k : ℕ) → Awaits reads writes whole is k → (to : Option ℕ)
    (rest : List TacInstr) → is ≡ taking to ∷ rest
    → (IsAmong k (in_option to) → ⊥) × Awaits reads writes whole rest k
waits_by whole is k (now {i = i} {is = r} h) to rest e =
    let q : ◌≡◌ {A = TacInstr} i (taking to) = cc in
    absurd (let z : IsAmong k [] = subst (λ j. IsAmong k (reads j)) q h in let y = z.1 in cc)
waits_by whole is k (temps.onward {i = i} {is = r} f w live) to rest e =
    let q : ◌≡◌ {A = TacInstr} i (taking to) = cc in
    let y : ◌≡◌ {A = List TacInstr} r rest = cc in
    (λ h. w (subst (λ j. IsAmong k (writes j)) (sym q) h), subst (λ z. Awaits reads writes whole z k) y live)
waits_by whole is k (temps.ahead {i = i} {is = r} l h live) to rest e =
    let q : ◌≡◌ {A = TacInstr} i (taking to) = cc in
    absurd (let z : IsAmong l [] = subst (λ j. IsAmong l (temps.goes_to j)) q h in let y = z.1 in cc)
waits_by whole is k (temps.back l h live) to rest e = absurd cc

-- ---- up to the call, and behind it

module _ (s : Setting) (code : List Instr) (x : IsText s code) (stack : StackIsThere s) (p : Typed) (running : Running)
    (args : List ℕ) (k : ℕ) (few : k < 4) (i : TacInstr) (to : Option ℕ) (falls_on : falls i ≡ true)
    (wrote : writes i ≡ in_option to) (reads_all : reads i ≡ args) (no_constant : (n : ℕ) → IsConstant i n → ⊥)
    (rest : List TacInstr) (sel : IsSelectable s p running i rest) (aside : StandsAside s running to rest)
    (at : ℕ) (t : State Store) (m : Machine) (point : IsAtPoint s code (before running i rest) at t m)
    (words : List Instr) (form : Asks (selecting s running.fun) args k to words) (has_words : HasAt code at words) where
  abbrev g : Ground
  g = ground_of s code

  abbrev here : Point
  here = before running i rest

  -- what is to be read behind the call, but for its result, is to be read from here on
  abbrev waiting : Point
  waiting = before running (taking to) rest

  waits : (k : ℕ) → IsLive s waiting k → (IsAmong k (in_option to) → ⊥) × IsLive s (behind running rest) k
  waits k live = waits_by (code_in s running) (taking to ∷ rest) k live to rest refl

  waiting_fits : Fits s (Some waiting) t m
  waiting_fits =
      moves_on_law s here t m point.fits (taking to ∷ rest)
      (λ k live. let w = waits k live in temps.onward falls_on (λ h. w.0 (subst (IsAmong k) wrote h)) w.1)

  abbrev bits : Value → Cap
  bits = capability_of (addresses_of s.map) (base_in t.mem.memory.shapes)

  all_words : HasAt code at (form.finds ++ (ask k ++ form.keep))
  all_words = subst (HasAt code at) form.are has_words

  abbrev mid : ℕ
  mid = at + length form.finds

  asked : HasAt code mid (ask k ++ form.keep)
  asked = has_back code at form.finds (ask k ++ form.keep) all_words

  -- what c10 has then
  abbrev argument : List ℕ → Machine → Cap
  argument [] n = register n 10
  argument (a ∷ more) n = bits (temp_in t a)

  found : (xs : List ℕ) → Argument (selecting s running.fun) xs form.finds → ((a : ℕ) → IsAmong a xs → IsLive s here a)
      → (c : Cap) × Holds g m (length form.finds) mid 10 10 c × (c ≡ argument xs m) × (length form.finds ≤ 3)
  found [] none live =
      let e : at ≡ at + length form.finds =
      (let z : at ≡ at + 0 = omega arith in z) ∙ sym (ap (λ y. at + length y) none) in (
        register m 10,
        subst (λ y. Holds g m (length y) mid 10 10 (register m 10)) (sym none)
            (subst (λ y. Holds g m 0 y 10 10 (register m 10)) e
            (begins g (laid s code x) m at 10 10 (there s code x here at t m point))),
        refl,
        subst (λ y. length y ≤ 3) (sym none) (omega arith),
      )
  found (a ∷ more) b live = (
    bits (temp_in t a),
    brought s code x here t m at point a 10 (live a (zero, refl)) (omega arith) (omega arith) form.finds b
        (has_front code at form.finds (ask k ++ form.keep) all_words),
    refl,
    bring_few s running.fun a 10 form.finds b,
  )

  abbrev lives : (a : ℕ) → IsAmong a args → IsLive s here a
  lives = λ a h. now (subst (IsAmong a) (sym reads_all) h)

  -- the machine at the call
  record At_call : Type 0 where
    asks : Machine
    leads : Leads (length form.finds + 1) m asks
    stands : IsThere g asks (mid + 1)
    service : integer asks 17 ≡ k
    holds : register asks 10 ≡ argument args m
    others : (q : ℕ) → IsAside q → register asks q ≡ register m q
    memory : asks.mem ≡ m.mem
    short : length form.finds ≤ 3

  aside_of : (q r : ℕ) → IsAside q → 10 ≤ r → r ≤ 17 → q ≡ r → ⊥
  aside_of q r (inl l) from below e = absurd (omega (arith, l, from, e))
  aside_of q r (inr l) from below e = absurd (omega (arith, l, below, e))

  at_call : At_call
  at_call =
      let f = found args form.found lives in
      let a = f.1 in
      let now_there = still g (laid s code x) m mid at 10 10 (length form.finds) f.0
      (there s code x here at t m point) a in
      let b = numbers_are_made_law g (laid s code x) a.to mid now_there 17 k (omega arith) (omega arith)
      (Imm Addi 17 0 (pos k) ∷ []) (makes_service k (omega (arith, few))) (asked.0, tt) in
      record {
        asks = b.to;
        leads = join (length form.finds) 1 m a.to b.to a.leads b.leads;
        stands = still g (laid s code x) a.to (mid + 1) mid 17 17 1 (null_at k) now_there b;
        service = number_at b.to 17 k b.holds;
        holds = b.others 10 (λ e. absurd (omega (arith, e))) ∙ a.holds ∙ f.2;
        others = λ q l. b.others q (aside_of q 17 l (omega arith) (omega arith))
            ∙ a.others q (aside_of q 10 l (omega arith) (omega arith));
        memory = b.memory ∙ a.memory;
        short = f.3;
      }

  calls : act at_call.asks ≡ by_number at_call.asks k
  calls =
      let c = at_call in
      fetched_here g (laid s code x) c.asks (mid + 1) Ecall c.stands.counter c.stands.text asked.1.0
      ∙ call_is c.asks k c.service

  -- the machine behind it, with an answer in c10
  abbrev answer_of : ℕ → Machine
  answer_of n = record at_call.asks {
    regs = slice_set at_call.asks.regs 10 (null_at n);
    pc = counter_at g (mid + 1 + 1);
  }

  answered_is : (n : ℕ) → answered at_call.asks n ≡ answer_of n
  answered_is n =
      let c = at_call in
      let inside = slice_get_within code (mid + 1) Ecall asked.1.0 in
      ap next (with_is c.asks 10 (null_at n) (omega arith))
      ∙ next_is g (laid s code x) (record c.asks { regs = slice_set c.asks.regs 10 (null_at n) }) (mid + 1)
      c.stands.counter inside

  answer_fits : (n : ℕ) (done : Done)
      → IsAtPoint s code waiting (mid + 1 + 1) (record t { done = done }) (answer_of n)
  answer_fits n done =
      let c = at_call in
      let long = c.stands.registers in
      let fits = registers_keep s IsAside (inl (omega arith)) (inl (omega arith)) waiting t m waiting_fits
      (λ k r live e. aside.own k r (waits k live) e) aside.callers (answer_of n)
      (length-set c.asks.regs 10 (null_at n) ∙ long) c.memory
      (λ q l. set_other c.asks (counter_at g (mid + 1 + 1)) c.asks.mem 10 q (null_at n)
      (aside_of q 10 l (omega arith) (omega arith)) ∙ c.others q l) in
      record { fits = done_keeps_fits_law s (Some waiting) t (answer_of n) fits done t.left; counter = refl }

  -- the answer is kept
  goes_on : (n : ℕ) (done : Done) → n < 2 ^ 64 → (o : Option ℕ) → to ≡ o →
      KeepSome (selecting s running.fun) o form.keep
      → Arrives s code (behind running rest) 0 3 (at + length words) (served t o done (Int n)) (answer_of n)
  goes_on n done small None none kept =
      let p' = answer_fits n done in
      let e : mid + 1 + 1 ≡ at + length words =
      sym (ap (λ y. at + length y) form.are ∙ end (ap length kept)) in
      record {
        count = 0;
        to = answer_of n;
        ge = omega arith;
        le = omega arith;
        leads = refl;
        point = record {
          fits = moves_on_law s waiting (record t { done = done }) (answer_of n) p'.fits rest
              (λ temp live. reads_as_before s running (taking to) rest refl (ap in_option none) temp live);
          counter = p'.counter ∙ ap (counter_at g) e;
        };
      }
    where
      end : length form.keep ≡ 0 → at + length (form.finds ++ (ask k ++ form.keep)) ≡ mid + 1 + 1
      end q = omega (arith, q, length-append form.finds (ask k ++ form.keep), length-append (ask k) form.keep)
  goes_on n done small (Some temp) is kept =
      let p' = answer_fits n done in
      let c = at_call in
      let long = c.stands.registers in
      let among : IsAmong temp (writes i) =
      subst (IsAmong temp) (sym (wrote ∙ ap in_option is)) (zero, refl) in
      let computed : Computed s code (answer_of n) 0 (mid + 1 + 1) 28 10 (bits (Int n)) = record {
        to = answer_of n;
        leads = refl;
        counter = refl;
        registers = length-set c.asks.regs 10 (null_at n) ∙ long;
        holds = set_same c.asks (counter_at g (mid + 1 + 1)) c.asks.mem 10 (null_at n) long (omega arith) (omega arith)
            ∙ sym (integer_bits (addresses_of s.map) (base_in t.mem.memory.shapes) n);
        others = λ q l d. refl;
        memory = refl;
      } in
      let has_keep = has_back code mid (ask k) form.keep asked in
      let place_is : mid + length (ask k) ≡ mid + 1 + 1 = omega arith in
      let t' = record t { done = done } in
      let a = results_go_home_law s code x stack waiting (mid + 1 + 1) t' (answer_of n) p' rest temp
      (may_take s p running i rest temp sel among no_constant)
      (reads_no_more s running (taking to) rest temp refl (ap in_option is)) (Int n) small 0 (mid + 1 + 1) 28 10
      (inl (omega arith)) (λ e. absurd (omega (arith, e))) computed form.keep kept
      (subst (λ y. HasAt code y form.keep) place_is has_keep) in
      let keep_less = keep_few s running.fun temp 10 form.keep kept in
      let al = a.le in
      let e : mid + 1 + 1 + length form.keep ≡ at + length words =
      sym (ap (λ y. at + length y) form.are
      ∙ omega (arith, length-append form.finds (ask k ++ form.keep), length-append (ask k) form.keep)) in
      record {
        count = a.count;
        to = a.to;
        ge = omega arith;
        le = omega arith;
        leads = a.leads;
        point = record { fits = a.point.fits; counter = a.point.counter ∙ ap (counter_at g) e };
      }

  -- the result is of its kind
  kinded_result : AreOfKinds (kinds_in s running) t.vars → (n : ℕ) → IsKept int.I32 n → (o : Option ℕ)
      → result_fits p sel.d (kinds_in s running) (code_in s running) o (Some int_result) ≡ true
      → AreOfKinds (kinds_in s running) (with_result t.vars o (Int n))
  kinded_result kinded n kept None fits = kinded
  kinded_result kinded n kept (Some temp) fits =
      let h = has_kind p sel.d (kinds_in s running) (code_in s running) temp int_result fits in
      kinded_set (kinds_in s running) t.vars temp (Int n) kinded h.0
      (kind_passes (kind_at (kinds_in s running) temp) int_result (Int n) h.1 kept)

byte_kept : (n : ℕ) → n < 256 → IsKept int.I32 n
byte_kept n h = record { kept = wrapped_word n ∙ signed_small n (omega arith) ∙ omega arith }

end_kept : IsKept int.I32 (2 ^ 64 - 1)
unfolding wrapped reduced kept_of
end_kept = record { kept = refl }

-- the low byte of an argument
pub low_byte_is : (a : Addresses) (base : ℕ → ℕ) (v : Value) (m : Machine) → v ≡ Int (number_of v)
    → register m 10 ≡ capability_of a base v → low_byte m ≡ number_of v % 256
low_byte_is a base v m is holds =
    ap (λ (c : Cap). c.fields.address % 256) (holds ∙ ap (capability_of a base) is ∙ integer_bits a base (number_of v))
    ∙ ap (λ n. n % 256) (null_address (number_of v))

module _ (s : Setting) (code : List Instr) (x : IsText s code) (stack : StackIsThere s) (w : World) (p : Typed)
    (running : Running) (rest : List TacInstr) where
  -- a first argument of kind int
  argument_is : (i : TacInstr) (sel : IsSelectable s p running i rest) (t : State Store)
      → AreOfKinds (kinds_in s running) t.vars → (a : ℕ)
      → has p sel.d (kinds_in s running) (code_in s running) a int_result ≡ true
      → temp_in t a ≡ Int (number_of (temp_in t a))
  argument_is i sel t kinded a h =
      let k = has_kind p sel.d (kinds_in s running) (code_in s running) a int_result h in
      integer_of int_result (temp_in t a) refl
      (kind_passes int_result (kind_at (kinds_in s running) a) (temp_in t a)
      (same_turned (kind_at (kinds_in s running) a) int_result k.1)
      (kinded.each a k.0))

few_one : 1 < 4
few_one = omega arith

few_two : 2 < 4
few_two = omega arith

few_three : 3 < 4
few_three = omega arith

pub puts_run_law : PutsRun
unfolding operations
puts_run_law to a s code x stack w p running rest sel aside at t m point kinded ws form has_words =
    let i = putting to a in
    let h = and_parts (all_have (has p sel.d (kinds_in s running) (code_in s running)) (a ∷ []) (int_result ∷ [])) _
    sel.fits in
    let h' = and_parts (has p sel.d (kinds_in s running) (code_in s running) a int_result) true h.0 in
    let is = argument_is s code x stack w p running rest i sel t kinded a h'.0 in
    let byte : ℕ = number_of (temp_in t a) % 256 in
    let c = at_call s code x stack p running (a ∷ []) 1 few_one i to refl refl refl (λ n z. z) rest sel aside at t m
    point ws form has_words in
    let low = low_byte_is (addresses_of s.map) (base_in t.mem.memory.shapes) (temp_in t a) c.asks is c.holds in
    let less = c.short in
    record {
      byte = byte;
      means = λ k. refl;
      kinded = kinded_result s code x stack p running (a ∷ []) 1 few_one i to refl refl refl (λ n z. z) rest sel
          aside at t m point ws form has_words kinded byte (byte_kept byte (omega arith)) to h.1;
      count = length form.finds + 1;
      most = 3;
      few = omega arith;
      asks = c.asks;
      leads = c.leads;
      after = answer_of s code x stack p running (a ∷ []) 1 few_one i to refl refl refl (λ n z. z) rest sel aside
          at t m point ws form has_words byte;
      puts = calls s code x stack p running (a ∷ []) 1 few_one i to refl refl refl (λ n z. z) rest sel aside at t m
          point ws form has_words
          ∙ ap (λ n. Puts n (answered c.asks n)) low
          ∙ ap (Puts byte) (answered_is s code x stack p running (a ∷ []) 1 few_one i to refl refl refl (λ n z. z)
          rest sel aside at t m point ws form has_words byte);
      goes = λ done. goes_on s code x stack p running (a ∷ []) 1 few_one i to refl refl refl (λ n z. z) rest sel
          aside at t m point ws form has_words byte done (omega arith) to refl form.kept;
    }

pub takes_run_law : TakesRun
unfolding operations
takes_run_law to s code x stack w p running rest sel aside at t m point kinded ws form has_words =
    let i = taking to in
    let h = and_parts true (result_fits p sel.d (kinds_in s running) (code_in s running) to (Some int_result)) sel.fits
    in
    let c = at_call s code x stack p running [] 2 few_two i to refl refl refl (λ n z. z) rest sel aside at t m point
    ws form has_words in
    let less = c.short in
    record {
      means = λ k. refl;
      kinded = kinds h.1;
      count = length form.finds + 1;
      most = 3;
      few = empty_finds;
      asks = c.asks;
      leads = c.leads;
      after = λ b. answered c.asks (read_value b);
      reads = calls s code x stack p running [] 2 few_two i to refl refl refl (λ n z. z) rest sel aside at t m point
          ws form has_words;
      goes = goes_from;
    }
  where
    empty_finds : length form.finds + 1 + 1 + 3 ≤ 6
    empty_finds = let none : length form.finds ≡ 0 = ap length form.found in omega (arith, none)

    kinds : result_fits p sel.d (kinds_in s running) (code_in s running) to (Some int_result) ≡ true → (b : Option ℕ)
        → IsByteOrEnd b → AreOfKinds (kinds_in s running) (with_result t.vars to (byte_or_end b))
    kinds h None u = kinded_result s code x stack p running [] 2 few_two (taking to) to refl refl refl (λ n z. z) rest
        sel aside at t m point ws form has_words kinded (2 ^ 64 - 1) end_kept to h
    kinds h (Some n) l = kinded_result s code x stack p running [] 2 few_two (taking to) to refl refl refl (λ n z. z)
        rest sel aside at t m point ws form has_words kinded n (byte_kept n l) to h

    at_answer : (n : ℕ) (done : Done) → n < 2 ^ 64 → Arrives s code (behind running rest) 0 3 (at + length ws)
        (served t to done (Int n))
        (answered (at_call s code x stack p running [] 2 few_two (taking to) to refl refl refl (λ n z. z) rest sel
        aside at t m point ws form has_words).asks n)
    at_answer n done small =
        subst (Arrives s code (behind running rest) 0 3 (at + length ws) (served t to done (Int n)))
        (sym (answered_is s code x stack p running [] 2 few_two (taking to) to refl refl refl (λ n z. z) rest sel
        aside at t m point ws form has_words n))
        (goes_on s code x stack p running [] 2 few_two (taking to) to refl refl refl (λ n z. z) rest sel aside at t m
        point ws form has_words n done small to refl form.kept)

    goes_from : (b : Option ℕ) (done : Done) → IsByteOrEnd b → Arrives s code (behind running rest) 0 3 (at + length ws)
        (served t to done (byte_or_end b))
        (answered (at_call s code x stack p running [] 2 few_two (taking to) to refl refl refl (λ n z. z) rest sel
        aside at t m point ws form has_words).asks (read_value b))
    goes_from None done u = at_answer (2 ^ 64 - 1) done (omega arith)
    goes_from (Some n) done l = at_answer n done (omega arith)

pub exits_run_law : ExitsRun
unfolding operations
exits_run_law a s code x stack w p running rest sel aside at t m point kinded ws form has_words =
    let i = leaving a in
    let h = and_parts (all_have (has p sel.d (kinds_in s running) (code_in s running)) (a ∷ []) (int_result ∷ [])) _
    sel.fits in
    let h' = and_parts (has p sel.d (kinds_in s running) (code_in s running) a int_result) true h.0 in
    let is = argument_is s code x stack w p running rest i sel t kinded a h'.0 in
    let c = at_call s code x stack p running (a ∷ []) 3 few_three i None refl refl refl (λ n z. z) rest sel aside at t
    m point ws form has_words in
    let less = c.short in
    record {
      byte = number_of (temp_in t a) % 256;
      means = λ k. refl;
      count = length form.finds + 1;
      lt = omega arith;
      asks = c.asks;
      leads = c.leads;
      ends = calls s code x stack p running (a ∷ []) 3 few_three i None refl refl refl (λ n z. z) rest sel aside at t m
          point ws form has_words
          ∙ ap (λ n. Ends (end.Exit n)) (low_byte_is (addresses_of s.map) (base_in t.mem.memory.shapes)
          (temp_in t a) c.asks
          is c.holds);
    }
