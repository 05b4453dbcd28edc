-- A text of whole granules is contained exactly where no word of it breaks a rule.
use Rattle.std.proofs.Common.{◌≡◌, ℕ, zero, suc, ◌+◌, ◌-◌, ◌*◌, ◌/◌, ◌%◌, ◌<◌, ◌&&◌, ◌||◌, ◌==◌, inl, inr, Bool, true}
use Rattle.std.proofs.Common.{false, cond, List, [], ◌∷◌, length, Option, Some, None, refl, sym, ap, ◌∙◌, subst, arith}
use Rattle.std.specs.Prelude.{not, nat_le, nat_lt, Contains, slice_index_or}
use Rattle.std.proofs.lemmas.Bool.{false≢true, both_ways, cases_Bool, cases_lt, and_parts, and_from, and_left}
use Rattle.std.proofs.lemmas.Bool.{and_right, or_from, or_cases, or_left, or_right, leb-true, ltb-true, eqb-true}
use Rattle.std.proofs.lemmas.Bool.{le-leb, lt-ltb, eq-eqb, not-false, not_from_true, false_from_ne_true}
use Rattle.std.proofs.lemmas.Option.{same_Some}
use Rattle.rv_instr.specs.declared.instr.Instr.{Instr}
use Rattle.rv_instr.specs.declared.instr.Instr.TheVariants.{Upper, Cjal, Cjalr, Branch, Load, Store, Clc, Imm, Shift}
use Rattle.rv_instr.specs.declared.instr.Instr.TheVariants.{Op, Ecall, Ebreak, CapImm, CapReg, CapGet}
use Rattle.cap_machine.specs.Step.{is_call}
use Rattle.cap_machine.specs.ContainedText.{Text, end_of, IsPlace, instr_at, Stands, is_allowed, target, is_plain_jump}
use Rattle.cap_machine.specs.ContainedText.{sets_service, IsContainedText}
use Rattle.elf_audit.specs.Rules.{holds, is_place, leads_inside, leads_to, is_target, is_among, follows_service}
use Rattle.elf_audit.specs.Rules.{reason_by, NoWord}

call_is : (i : Instr) → is_call i ≡ true → i ≡ Ecall
call_is Ecall h = refl
call_is (Upper op rd n) h = absurd (false≢true h)
call_is (Cjal rd z) h = absurd (false≢true h)
call_is (Cjalr rd rs1 z) h = absurd (false≢true h)
call_is (Branch op rs1 rs2 z) h = absurd (false≢true h)
call_is (Load op rd rs1 z) h = absurd (false≢true h)
call_is (Store op rs2 rs1 z) h = absurd (false≢true h)
call_is (Clc rd rs1 z) h = absurd (false≢true h)
call_is (Imm op rd rs1 z) h = absurd (false≢true h)
call_is (Shift op rd rs1 n) h = absurd (false≢true h)
call_is (Op op rd rs1 rs2) h = absurd (false≢true h)
call_is (CapImm op rd rs1 z) h = absurd (false≢true h)
call_is (CapReg op rd rs1 rs2) h = absurd (false≢true h)
call_is (CapGet op rd rs1) h = absurd (false≢true h)
call_is Ebreak h = absurd (false≢true h)

-- ---- the tests

pub place_true : (t : Text) (x : ℕ) → is_place t x ≡ true → IsPlace t x
place_true t x h =
    let a = and_parts (nat_le t.base x && nat_lt x (end_of t)) (x % 4 == 0) h in
    let b = and_parts (nat_le t.base x) (nat_lt x (end_of t)) a.0 in
    record { from = leb-true _ _ b.0; below = ltb-true _ _ b.1; even = eqb-true _ _ a.1 }

pub place_from : (t : Text) (x : ℕ) → IsPlace t x → is_place t x ≡ true
place_from t x p = and_from _ _ (and_from _ _ (le-leb t.base x p.from) (lt-ltb x (end_of t) p.below))
    (eq-eqb (x % 4) 0 p.even)

holds_true : (test : Instr → Bool) (o : Option Instr) → holds test o ≡ true →
    (i : Instr) × (o ≡ Some i) × (test i ≡ true)
holds_true test None h = absurd (false≢true h)
holds_true test (Some i) h = (i, refl, h)

to_true : (o : Option ℕ) (y : ℕ) → leads_to o y ≡ true → o ≡ Some y
to_true None y h = absurd (false≢true h)
to_true (Some z) y h = ap (λ (n : ℕ). Some n) (eqb-true z y h)

among_true : (xs : List ℕ) (x : ℕ) → is_among xs x ≡ true → Contains xs x
unfolding is_among
among_true [] x h = absurd (false≢true h)
among_true (y ∷ ys) x h = elim (or_cases (y == x) (is_among ys x) h) as (λ _. Contains (y ∷ ys) x) [
  | inl here ↦ (0, omega arith, eqb-true y x here)
  | inr there ↦ let k = among_true ys x there in (suc k.0, (let lt = k.1 in omega arith), k.2)
]

among_from : (xs : List ℕ) (x k : ℕ) → k < length xs → slice_index_or xs k x ≡ x → is_among xs x ≡ true
unfolding is_among
among_from [] x k lt e = absurd (omega arith)
among_from (y ∷ ys) x zero lt e = or_left (y == x) (is_among ys x) (eq-eqb y x e)
among_from (y ∷ ys) x (suc k) lt e = or_right (y == x) (is_among ys x) (among_from ys x k (omega arith) e)

record Led (t : Text) (n y : ℕ) : Type 0 where
  at : ℕ
  below : at < n
  by : Instr
  is : instr_at t (t.base + 4 * at) ≡ Some by
  to : target by (t.base + 4 * at) ≡ Some y

led_true : (t : Text) (n y : ℕ) → is_target t n y ≡ true → Led t n y
unfolding is_target
led_true t zero y h = absurd (false≢true h)
led_true t (suc k) y h = elim (or_cases (holds (λ i. leads_to (target i (t.base + 4 * k)) y)
    (instr_at t (t.base + 4 * k))) (is_target t k y) h) as (λ _. Led t (suc k) y) [
      | inl here ↦
          let f = holds_true (λ i. leads_to (target i (t.base + 4 * k)) y) (instr_at t (t.base + 4 * k)) here in
          record { at = k; below = omega arith; by = f.0; is = f.1; to = to_true (target f.0 (t.base + 4 * k)) y f.2 }
      | inr there ↦ let l = led_true t k y there in let lt = l.below in
          record { at = l.at; below = omega arith; by = l.by; is = l.is; to = l.to }
    ]

led_from : (t : Text) (n y k : ℕ) (i : Instr) → k < n → instr_at t (t.base + 4 * k) ≡ Some i →
    target i (t.base + 4 * k) ≡ Some y → is_target t n y ≡ true
unfolding is_target
led_from t zero y k i lt is to = absurd (omega arith)
led_from t (suc n) y k i lt is to = elim (cases_lt k n) as (λ _. is_target t (suc n) y ≡ true) [
  | inl less ↦ or_right _ (is_target t n y) (led_from t n y k i less is to)
  | inr more ↦
      let e : k ≡ n = omega arith in
      let here : holds (λ i. leads_to (target i (t.base + 4 * k)) y) (instr_at t (t.base + 4 * k)) ≡ true =
      ap (holds (λ i. leads_to (target i (t.base + 4 * k)) y)) is ∙ ap (λ o. leads_to o y) to
      ∙ eq-eqb y y refl in
      or_left (holds (λ i. leads_to (target i (t.base + 4 * n)) y) (instr_at t (t.base + 4 * n))) (is_target t n y)
      (subst (λ m. holds (λ i. leads_to (target i (t.base + 4 * m)) y) (instr_at t (t.base + 4 * m)) ≡ true) e here)
]

-- ---- a word that breaks no rule

record IsFine (t : Text) (x : ℕ) (i : Instr) : Type 0 where
  allowed : is_allowed i ≡ true
  inside : leads_inside t (target i x) ≡ true
  follows : (is_call i && not (follows_service t x)) ≡ false
  unled : (is_call i && (is_target t (length t.bytes / 4) x || is_among t.entries x)) ≡ false
  last : (x + 4 == end_of t && not (is_plain_jump i)) ≡ false

passes : (b : Bool) (n rest : ℕ) → cond b (suc n) rest ≡ 0 → (b ≡ false) × (rest ≡ 0)
passes true n rest h = absurd (omega arith)
passes false n rest h = (refl, h)

fine_by : (t : Text) (x : ℕ) (o : Option Instr) → reason_by t x o ≡ 0 → (i : Instr) × (o ≡ Some i) × IsFine t x i
fine_by t x None h = absurd (omega arith)
fine_by t x (Some i) h =
    let a = passes (not (is_allowed i)) 1 _ h in
    let b = passes (not (leads_inside t (target i x))) 2 _ a.1 in
    let c = passes (is_call i && not (follows_service t x)) 3 _ b.1 in
    let d = passes (is_call i && (is_target t (length t.bytes / 4) x || is_among t.entries x)) 4 _ c.1 in
    let e = passes (x + 4 == end_of t && not (is_plain_jump i)) 5 0 d.1 in
    (i, refl, record { allowed = not-false _ a.0; inside = not-false _ b.0; follows = c.0; unled = d.0; last = e.0 })

reason_of_fine : (t : Text) (x : ℕ) (i : Instr) → IsFine t x i → reason_by t x (Some i) ≡ 0
reason_of_fine t x i f = rw (f.allowed, f.inside, f.follows, f.unled, f.last) refl

module _ (t : Text) (base : t.base % 16 ≡ 0) (size : length t.bytes % 16 ≡ 0) (some : 0 < length t.bytes) where
  -- ---- from the tests to the rules

  module _ (none : NoWord t) where
    fine : (x : ℕ) (i : Instr) → Stands t x i → IsFine t x i
    fine x i s =
        let f = fine_by t x (instr_at t x) (none x s.place) in
        let same : f.0 ≡ i = same_Some f.0 i (sym f.1 ∙ s.is) in
        subst (λ j. IsFine t x j) same f.2

    goes : (o : Option ℕ) (y : ℕ) → leads_inside t o ≡ true → o ≡ Some y → IsPlace t y
    goes None y h e = absurd cc
    goes (Some z) y h e = subst (λ n. IsPlace t n) (same_Some z y e) (place_true t z h)

    index : (x : ℕ) → IsPlace t x → (k : ℕ) × (k < length t.bytes / 4) × (x ≡ t.base + 4 * k)
    index x p = let a = p.from in let b = p.below in let c = p.even in ((x - t.base) / 4, omega arith, omega arith)

    ends : (x : ℕ) (i : Instr) → x + 4 ≡ end_of t → IsFine t x i → is_plain_jump i ≡ true
    ends x i end f =
        let last : (true && not (is_plain_jump i)) ≡ false =
        sym (ap (λ b. b && not (is_plain_jump i)) (eq-eqb (x + 4) (end_of t) end)) ∙ f.last in
        not-false (is_plain_jump i) last

    pub audited : IsContainedText t
    audited = record {
      decodes = λ x place. let f = fine_by t x (instr_at t x) (none x place) in (f.0, f.1);
      allowed = λ x i s. (fine x i s).allowed;
      targets = λ x y i s e. goes (target i x) y (fine x i s).inside e;
      no_target = λ x y i s e call.
          let k = index x s.place in
          let led : is_target t (length t.bytes / 4) y ≡ true =
          led_from t (length t.bytes / 4) y k.0 i k.1 (ap (instr_at t) (sym k.2) ∙ s.is)
          (ap (target i) (sym k.2) ∙ e) in
          both_ways (is_target t (length t.bytes / 4) y || is_among t.entries y) (fine y Ecall call).unled
          (or_left (is_target t (length t.bytes / 4) y) (is_among t.entries y) led);
      numbered = λ x call.
          let a = and_parts (nat_le (t.base + 4) x) (holds sets_service (instr_at t (x - 4)))
          (not-false (follows_service t x) (fine x Ecall call).follows) in
          let low = leb-true (t.base + 4) x a.0 in
          let f = holds_true sets_service (instr_at t (x - 4)) a.1 in
          let below = call.place.below in
          let even = call.place.even in
          record {
            sets = f.0;
            service = f.2;
            before = x - 4;
            next = omega arith;
            stands = record {
              place = record { from = omega arith; below = omega arith; even = omega arith };
              is = f.1;
            };
          };
      no_entry = λ x h call.
          both_ways (is_target t (length t.bytes / 4) x || is_among t.entries x) (fine x Ecall call).unled
          (or_right (is_target t (length t.bytes / 4) x) (is_among t.entries x) (among_from t.entries x h.0 h.1 h.2));
      last =
          let place : IsPlace t (end_of t - 4) =
          record { from = omega arith; below = omega arith; even = omega arith } in
          let f = fine_by t (end_of t - 4) (instr_at t (end_of t - 4)) (none (end_of t - 4) place) in
          let end : end_of t - 4 + 4 ≡ end_of t = omega arith in
          record {
            last = f.0;
            plain = ends (end_of t - 4) f.0 end f.2;
            at = end_of t - 4;
            end = end;
            stands = record { place = place; is = f.1 };
          };
    }

  -- ---- and back

  module _ (text : IsContainedText t) where
    inside_from : (o : Option ℕ) → ((y : ℕ) → o ≡ Some y → IsPlace t y) → leads_inside t o ≡ true
    inside_from None h = refl
    inside_from (Some y) h = place_from t y (h y refl)

    follows_from : (x : ℕ) → Stands t x Ecall → follows_service t x ≡ true
    follows_from x call =
        let f = text.numbered x call in
        let next = f.next in
        let from = f.stands.place.from in
        let back : x - 4 ≡ f.before = omega arith in
        and_from (nat_le (t.base + 4) x) (holds sets_service (instr_at t (x - 4))) (le-leb (t.base + 4) x (omega arith))
        (ap (λ y. holds sets_service (instr_at t y)) back ∙ ap (holds sets_service) f.stands.is ∙ f.service)

    unled_from : (x : ℕ) → Stands t x Ecall → (is_target t (length t.bytes / 4) x || is_among t.entries x) ≡ false
    unled_from x call = or_from _ _
        (false_from_ne_true (is_target t (length t.bytes / 4) x) (λ h.
        let l = led_true t (length t.bytes / 4) x h in
        let lt = l.below in
        text.no_target (t.base + 4 * l.at) x l.by
        (record { place = record { from = omega arith; below = omega arith; even = omega arith }; is = l.is }) l.to
        call))
        (false_from_ne_true (is_among t.entries x) (λ h. text.no_entry x (among_true t.entries x h) call))

    unless_call : (i : Instr) (b : Bool) → (is_call i ≡ true → b ≡ false) → (is_call i && b) ≡ false
    unless_call i b h = elim (cases_Bool (is_call i)) as (λ _. (is_call i && b) ≡ false) [
      | inl call ↦ and_right (is_call i) b (h call)
      | inr other ↦ and_left (is_call i) b other
    ]

    pub no_reason : NoWord t
    no_reason x place =
        let found = text.decodes x place in
        let i = found.0 in
        let s : Stands t x i = record { place = place; is = found.1 } in
        let at_call : is_call i ≡ true → Stands t x Ecall = λ h. subst (λ j. Stands t x j) (call_is i h) s in
        let last : (x + 4 == end_of t && not (is_plain_jump i)) ≡ false =
        elim (cases_Bool (x + 4 == end_of t)) as (λ _. (x + 4 == end_of t && not (is_plain_jump i)) ≡ false) [
          | inl end ↦
              let e = eqb-true (x + 4) (end_of t) end in
              let l = text.last in
              let f = l.end in
              let here : l.at ≡ x = omega arith in
              let same : l.last ≡ i = same_Some l.last i (sym l.stands.is ∙ ap (instr_at t) here ∙ found.1) in
              and_right _ _ (not_from_true (is_plain_jump i) (sym (ap (λ j. is_plain_jump j) same) ∙ l.plain))
          | inr other ↦ and_left _ _ other
        ] in
        ap (reason_by t x) found.1 ∙ reason_of_fine t x i (record {
          allowed = text.allowed x i s;
          inside = inside_from (target i x) (λ y e. text.targets x y i s e);
          follows = unless_call i (not (follows_service t x))
              (λ h. not_from_true (follows_service t x) (follows_from x (at_call h)));
          unled = unless_call i (is_target t (length t.bytes / 4) x || is_among t.entries x)
              (λ h. unled_from x (at_call h));
          last = last;
        })
