-- Jumps that are led to their places.
use Rattle.std.proofs.Common.{◌≡◌, ℕ, ◌+◌, ◌*◌, ◌<◌, ◌≤◌, ⊎_elim, ℤ, pos, negsuc, List, [], ◌∷◌, ◌++◌, get_or, take}
use Rattle.std.proofs.Common.{length, to_z, of_z, w32, Some, refl, sym, ap, ◌∙◌, subst, arith}
use Rattle.std.specs.Prelude.{◌≤ℤ◌, neg_ℤ, slice_get}
use Rattle.std.specs.List.{All, Contains}
use Rattle.std.proofs.lemmas.Int.{ints}
use Rattle.std.proofs.lemmas.List.{length-append, take_more, take_all}
use Rattle.std.proofs.lemmas.List.Elements.{All-contains, Contains-get_or, Contains-push, Contains-push_cases}
use Rattle.std.proofs.Math.ListN.{get_or-append}
use Rattle.std.proofs.lemmas.Bool.{cases_eq, cases_lt}
use Rattle.std.proofs.lemmas.Cmp.{ranked, nat_cmp_total}
use Rattle.std.proofs.lemmas.List.Sorted.{searchable_from_sorted, Contains-permutation, All-permutation}
use Rattle.std.specs.List.Sorted.{IsNonDecreasingBy, IsPartitionPoint, IsPermutation}
use Rattle.std.specs.Ordering.{nat_cmp, ordering_index}
use Rattle.std.specs.declared.cmp.Ordering.TheVariants.{Less, Equal, Greater}
use Rattle.std.proofs.lemmas.Option.{same_Some, slice_get_within}
use Rattle.std.proofs.Math.ListN.{set, length-set}
use Rattle.rv_instr.specs.Range.{FitsBits}
use Rattle.rv_instr.specs.declared.instr.Instr.{Instr}
use Rattle.rv_instr.specs.declared.instr.Instr.TheVariants.{Branch, Cjal}
use Rattle.rv_words.specs.declared.jumps.Jump.{Jump}
use Rattle.rv_words.specs.declared.jumps.Mark.{Mark}
use Rattle.rv_words.specs.Leading.{leading, span, Spans, IsHop, IsLedTo, StandsAt, IsEnteredAt, AreOrdered}
use Rattle.rv_words.specs.Leading.{IsJumpLed, AreLedSoFar, AreLedTo}
use Rattle.rv_words.proofs.Contained.{set_same, set_other}
use Rattle.rv_words.proofs.Targets.{word_again}

-- ---- one instruction

abbrev own : Instr → ℤ
own (Branch op a b z) = z
own (Cjal link z) = z
own i = pos 0

leading_own : (i : Instr) → leading i (own i) ≡ i
leading_own (Branch op a b z) = refl
leading_own (Cjal link z) = refl
leading_own i = refl

pub leading_again : (i : Instr) (y z : ℤ) → leading (leading i y) z ≡ leading i z
leading_again (Branch op a b x) y z = refl
leading_again (Cjal link x) y z = refl
leading_again i y z = refl

pub span_leading : (i : Instr) (y : ℤ) → span (leading i y) ≡ span i
span_leading (Branch op a b x) y = refl
span_leading (Cjal link x) y = refl
span_leading i y = refl

span_most : (i : Instr) → span i ≤ 262144
span_most (Branch op a b x) = omega arith
span_most (Cjal link x) = omega arith
span_most i = omega arith

-- the bytes of a hop are the only ones
hop_same : (at to : ℕ) (y z : ℤ) → IsHop at to y → IsHop at to z → y ≡ z
hop_same at to (pos y) (pos z) e f = omega (arith, ints, e, f)
hop_same at to (pos y) (negsuc z) e f = omega (arith, ints, e, f)
hop_same at to (negsuc y) (pos z) e f = omega (arith, ints, e, f)
hop_same at to (negsuc y) (negsuc z) e f = omega (arith, ints, e, f)

-- ---- one jump

-- nothing was done, since it can't be
pub led_not : (a : List Instr) (at to : ℕ)
    → ((i : Instr) (z : ℤ) → slice_get a at ≡ Some i → Spans i at to → IsHop at to z → ⊥) → IsLedTo a a at to
led_not a at to n = record {
  len = refl;
  led = λ i z e s h. absurd (n i z e s h);
  others = λ k d. refl;
  kinds = λ k i e. (own i, e ∙ ap Some (sym (leading_own i)));
}

pub led_past : (a : List Instr) (at to : ℕ) → (at < length a → ⊥) → IsLedTo a a at to
led_past a at to n = led_not a at to (λ i z e s h. n (slice_get_within a at i e))

pub led_far : (a : List Instr) (at to : ℕ) → (to < at + 262144 → to + 262144 < at) → IsLedTo a a at to
led_far a at to f = led_not a at to (λ i z e s h.
    let m = span_most i in
    let g = f (omega (arith, m, s.ahead)) in
    omega (arith, m, s.back, g))

-- the bytes are too many for the word
too_many : (i : Instr) (at to : ℕ) (z : ℤ) → Spans i at to → IsHop at to z
    → (neg_ℤ (pos (4 * span i)) ≤ℤ z → pos (4 * span i) ≤ℤ z) → ⊥
too_many i at to (pos z) s h f =
    let g = f (omega (arith, ints)) in
    let a = s.ahead in
    omega (arith, ints, g, h, a)
too_many i at to (negsuc z) s h f =
    let b = s.back in
    let g = f (omega (arith, ints, h, b)) in
    omega (arith, ints, g)

pub led_narrow : (a : List Instr) (at to : ℕ) (i : Instr) (z : ℤ) → FitsBits 21 z → slice_get a at ≡ Some i
    → IsHop at to z
    → (neg_ℤ (pos (4 * span i)) ≤ℤ to_z w32 (of_z w32 z) → pos (4 * span i) ≤ℤ to_z w32 (of_z w32 z))
    → IsLedTo a a at to
led_narrow a at to i z fits e h f = led_not a at to (λ j y d s g.
    let same : j ≡ i = same_Some j i (sym d ∙ e) in
    let far = subst (λ (x : ℤ). neg_ℤ (pos (4 * span i)) ≤ℤ x → pos (4 * span i) ≤ℤ x) (word_again z fits) f in
    too_many i at to z (subst (λ (x : Instr). Spans x at to) same s) h far)

-- it was led
pub led_by : (a : List Instr) (at to : ℕ) (i j : Instr) (z : ℤ) → FitsBits 21 z → at < length a
    → slice_get a at ≡ Some i → IsHop at to z → j ≡ leading i (to_z w32 (of_z w32 z)) → IsLedTo a (set a at j) at to
led_by a at to i j z fits lt e h is =
    let now : j ≡ leading i z = is ∙ ap (λ (x : ℤ). leading i x) (word_again z fits) in
    record {
      len = length-set a at j;
      led = λ k y d s g.
          let same : k ≡ i = same_Some k i (sym d ∙ e) in
          set_same a at j lt ∙ ap Some (now ∙ ap (λ (x : ℤ). leading i x) (hop_same at to z y h g)
          ∙ ap (λ (x : Instr). leading x y) (sym same));
      others = λ k d. set_other a at k j d;
      kinds = λ k m d. kind k m d;
    }
  where
    kind : (k : ℕ) (m : Instr) → slice_get a k ≡ Some m → (y : ℤ) × (slice_get (set a at j) k ≡ Some (leading m y))
    kind k m d = ⊎_elim (λ (q : k ≡ at). here k m d q) (λ (q : k ≡ at → ⊥).
        (own m, set_other a at k j q ∙ d ∙ ap Some (sym (leading_own m)))) (cases_eq k at)
      where
        here : (k : ℕ) (m : Instr) → slice_get a k ≡ Some m → k ≡ at
            → (y : ℤ) × (slice_get (set a at j) k ≡ Some (leading m y))
        here k m d q =
            let same : m ≡ i = same_Some m i (sym d ∙ ap (slice_get a) q ∙ e) in (
              z,
              ap (slice_get (set a at j)) q ∙ set_same a at j lt
                  ∙ ap Some (is ∙ ap (λ (x : ℤ). leading i x) (word_again z fits)
                  ∙ ap (λ (x : Instr). leading x z) (sym same)),
            )

-- ---- where labels stand

pub marked_one : (ms : List Mark) (label k place : ℕ) (d : Mark) → k < length ms
    → nat_cmp (get_or ms k d).label label ≡ Equal → StandsAt ms label place → place ≡ (get_or ms k d).at
marked_one ms label k place d lt e h = sym (h.only k d lt (ranked (get_or ms k d).label label Equal (sym e)))

pub marked_none : (ms : List Mark) (label i place : ℕ) → AreOrdered ms
    → (IsNonDecreasingBy (λ (m : Mark). ordering_index (nat_cmp m.label label)) ms
    → IsPartitionPoint (λ (m : Mark). nat_cmp m.label label ≡ Less)
    (λ (m : Mark). nat_cmp m.label label ≡ Greater) ms i)
    → StandsAt ms label place → ⊥
marked_none ms label i place o p h =
    let sides = p (searchable_from_sorted nat_cmp_total (λ (m : Mark). m.label) ms label o) in
    let k = h.some.0 in
    let mark : Mark = record { label = label; at = place } in
    let is = h.some.2 in
    ⊎_elim
    (λ (l : k < i).
    let less = subst (λ (m : Mark). nat_cmp m.label label ≡ Less) is (sides.0 k mark (omega arith) l) in
    let never : label < label = ranked label label Less (sym less) in
    omega (arith, never))
    (λ (l : i ≤ k).
    let more = subst (λ (m : Mark). nat_cmp m.label label ≡ Greater) is (sides.1 k mark l h.some.1) in
    let never : label < label = ranked label label Greater (sym more) in
    omega (arith, never))
    (cases_lt k i)

-- ---- many jumps

all_first : {A : Type 0} (P : A → Type 0) (xs ys : List A) → All P (xs ++ ys) → All P xs
all_first P xs ys h k d lt = subst P (get_or-append xs ys d k lt) (h k d (omega (arith, lt, length-append xs ys)))

module _ (Place : (to place : ℕ) → Type 0) where
  pub jump_led : (j : Jump) (to : ℕ) (a b : List Instr) → ((place : ℕ) → Place j.to place → place ≡ to)
      → IsLedTo a b j.at to → IsJumpLed Place j a b
  jump_led j to a b one l = record {
    len = l.len;
    led = λ place i z p e s h.
        let same = one place p in
        l.led i z e (subst (λ x. Spans i j.at x) same s) (subst (λ x. IsHop j.at x z) same h);
    others = l.others;
    kinds = l.kinds;
  }

  pub jump_not : (j : Jump) (a : List Instr) → ((place : ℕ) → Place j.to place → ⊥) → IsJumpLed Place j a a
  jump_not j a n = record {
    len = refl;
    led = λ place i z p e s h. absurd (n place p);
    others = λ k d. refl;
    kinds = λ k i e. (own i, e ∙ ap Some (sym (leading_own i)));
  }

  pub so_far_none : (all : List Jump) (a : List Instr) → AreLedSoFar Place all [] a a
  so_far_none all a = record {
    len = refl;
    led = λ at to place i z s o p e h g. absurd (omega (arith, s.1));
    others = λ k n. refl;
    kinds = λ k i e. (own i, e ∙ ap Some (sym (leading_own i)));
  }

  pub so_far_more : (all done : List Jump) (j : Jump) (a b c : List Instr) → Contains all j
      → AreLedSoFar Place all done a b → IsJumpLed Place j b c → AreLedSoFar Place all (done ++ j ∷ []) a c
  so_far_more all done j a b c inside l m = record {
    len = m.len ∙ l.len;
    led = λ at to place i z some only p e s h. ⊎_elim
        (λ (q : at ≡ j.at). again at to place i z only p e s h q)
        (λ (q : at ≡ j.at → ⊥). m.others at q ∙ ⊎_elim
        (λ (was : Contains done (record { at = at; to = to })). l.led at to place i z was only p e s h)
        (λ (is : j ≡ record { at = at; to = to }). absurd (q (sym (ap (λ (x : Jump). x.at) is))))
        (Contains-push_cases done j (record { at = at; to = to }) some))
        (cases_eq at j.at);
    others = λ k n.
        let apart : k ≡ j.at → ⊥ = λ q. All-contains (λ (x : Jump). x.at ≡ k → ⊥) (done ++ j ∷ []) j n
        (Contains-push done j) (sym q) in
        m.others k apart ∙ l.others k (all_first (λ (x : Jump). x.at ≡ k → ⊥) done (j ∷ []) n);
    kinds = λ k i e.
        let y = l.kinds k i e in
        let z = m.kinds k (leading i y.0) y.1 in
        (z.0, z.1 ∙ ap Some (leading_again i y.0 z.0));
  }
    where
      again : (at to place : ℕ) (i : Instr) (z : ℤ) → All (λ j. j.at ≡ at → j.to ≡ to) all → Place to place
          → slice_get a at ≡ Some i → Spans i at place → IsHop at place z → at ≡ j.at
          → slice_get c at ≡ Some (leading i z)
      again at to place i z only p e s h q =
          let same = All-contains (λ (x : Jump). x.at ≡ at → x.to ≡ to) all j only inside (sym q) in
          let y = l.kinds at i e in
          let span_is = span_leading i y.0 in
          let spans : Spans (leading i y.0) j.at place =
          subst (λ x. Spans (leading i y.0) x place) q (record {
            ahead = omega (arith, span_is, s.ahead);
            back = omega (arith, span_is, s.back);
          }) in
          ap (slice_get c) q ∙ m.led place (leading i y.0) z (subst (λ x. Place x place) (sym same) p)
          (ap (slice_get b) (sym q) ∙ y.1) spans (subst (λ x. IsHop x place z) q h)
          ∙ ap Some (leading_again i y.0 z)

  -- the next of them
  pub so_far_next : (all : List Jump) (n : ℕ) (d : Jump) (a b c : List Instr) → n < length all
      → AreLedSoFar Place all (take n all) a b → IsJumpLed Place (get_or all n d) b c
      → AreLedSoFar Place all (take (n + 1) all) a c
  so_far_next all n d a b c lt l m =
      subst (λ done. AreLedSoFar Place all done a c) (sym (take_more all n d lt))
      (so_far_more all (take n all) (get_or all n d) a b c (Contains-get_or all n d lt) l m)

  pub so_far_all : (all : List Jump) (n : ℕ) (a b : List Instr) → length all ≤ n
      → AreLedSoFar Place all (take n all) a b → AreLedTo Place all a b
  so_far_all all n a b h l =
      let m = subst (λ done. AreLedSoFar Place all done a b) (take_all n all h) l in
      record {
        len = m.len;
        led = λ at to place i z j p e s h. m.led at to place i z j.some j.only p e s h;
        others = m.others;
        kinds = m.kinds;
      }

-- ---- labels that were sorted

stands_moved : (ms ns : List Mark) → IsPermutation ms ns → (label at : ℕ) → StandsAt ms label at → StandsAt ns label at
stands_moved ms ns p label at h = record {
  some = Contains-permutation ms ns (record { label = label; at = at }) p h.some;
  only = All-permutation (λ (m : Mark). m.label ≡ label → m.at ≡ at) ms ns p h.only;
}

pub led_sorted : (ms sorted ns : List Mark) (jumps js : List Jump) (a b : List Instr) → IsPermutation ms sorted
    → ns ≡ sorted → js ≡ jumps → AreLedTo (StandsAt ns) js a b → AreLedTo (StandsAt ms) jumps a b
led_sorted ms sorted ns jumps js a b p e f l =
    let m = subst (λ ks. AreLedTo (StandsAt ns) ks a b) f l in
    record {
      len = m.len;
      led = λ at to place i z j s. m.led at to place i z j
          (subst (λ ks. StandsAt ks to place) (sym e) (stands_moved ms sorted p to place s));
      others = m.others;
      kinds = m.kinds;
    }
