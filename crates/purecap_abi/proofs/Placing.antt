-- Objects are placed one after the other, those of one alignment after those of lesser ones.
use Rattle.std.proofs.Common.{◌≡◌, ◌≢◌, ℕ, zero, suc, ◌+◌, ◌*◌, ◌%◌, ◌^◌, ◌<◌, ◌≤◌, ◌⊎◌, max, List, [], ◌∷◌, length}
use Rattle.std.proofs.Common.{take, get_or, set, refl, sym, ap, ◌∙◌, arith, subst, inl, inr, if◌then◌else◌}
use Rattle.std.specs.Prelude.{sum_by, nat_lt, ◌==◌}
use Rattle.std.specs.List.{All}
use Rattle.std.proofs.lemmas.Bool.{cases_lt}
use Rattle.std.proofs.lemmas.Bool.Decides.{nat_tests}
use Rattle.std.proofs.lemmas.List.{get_or-set_same, get_or-set_other}
use Rattle.std.proofs.lemmas.List.Sums.{sum_by-cons, sum_by_more, sum_by-take-le, sum_by-le-sum_by}
use Rattle.std.proofs.Math.ListN.{length-set}
use Rattle.cap_concentrate.specs.Rounding.{rounded_up}
use Rattle.cap_concentrate.proofs.Least.{rounded_up_ge, rounded_up_near, rounded_up_multiple}
use Rattle.cap_layout.specs.declared.answers.Owned.{Owned}
use Rattle.obj_mem.specs.Legal.{Apart}
use Rattle.purecap_abi.specs.Placing.{greatest_of, object, Lies, ArePlaced, IsAny}
use Rattle.purecap_abi.specs.Frames.{IsLocal, AreLocals, room}
use Rattle.purecap_abi.proofs.Powers.{next_power, half_step}

-- ---- sums

-- the bytes that an object takes: its length, or one, up to a multiple of its alignment
abbrev pub taken : Owned → ℕ
taken o = rounded_up (max o.length 1) o.align

-- the same for the objects of one alignment, or of lesser ones; the others take nothing
abbrev pub taken_at : ℕ → Owned → ℕ
taken_at align o = if o.align == align then taken o else 0

abbrev pub taken_below : ℕ → Owned → ℕ
taken_below align o = if nat_lt o.align align then taken o else 0

pub local_at : (os : List Owned) (k : ℕ) → All IsLocal os → k < length os → IsLocal (object os k)
local_at os k all h = all k (record { length = 0; align = 0 }) h

rest_all : (o : Owned) (os : List Owned) → All IsLocal (o ∷ os) → All IsLocal os
rest_all o os all k d h = all (suc k) d (omega arith)

-- what an object takes is its length, or at most 16 bytes more
taken_plain : (o : Owned) → o.align ≡ 16 → taken o ≤ o.length + 16
taken_plain o e =
    let r : taken o < max o.length 1 + o.align = rounded_up_near (max o.length 1) o.align (omega arith) in omega arith

taken_aligned : (o : Owned) → IsLocal o → 16 < o.align → taken o ≡ o.length
taken_aligned o l h =
    let some = l.some h in
    let e : max o.length 1 ≡ o.length = omega arith in
    ap (λ n. rounded_up n o.align) e ∙ rounded_up_multiple o.length o.align (omega arith) (l.multiple h)

one_taken : (o : Owned) (sums rooms greatest : ℕ) → IsLocal o → 16 ≤ greatest → sums + greatest ≤ rooms + 16 →
    (taken o + sums) + max o.align greatest ≤ (room o + rooms) + 16
one_taken o sums rooms greatest l g h =
    elim (cases_lt 16 o.align) as (λ _. (taken o + sums) + max o.align greatest ≤ (room o + rooms) + 16) [
      | inl more ↦ let t = taken_aligned o l more in omega arith
      | inr less ↦ let low : 16 ≤ o.align = l.least in let e : o.align ≡ 16 = omega arith in let t = taken_plain o e in
          omega arith
    ]

pub greatest_least : (os : List Owned) → 16 ≤ greatest_of os
unfolding greatest_of
greatest_least [] = omega arith
greatest_least (o ∷ os) = let r = greatest_least os in omega arith

pub greatest_most : (os : List Owned) (k : ℕ) → k < length os → (object os k).align ≤ greatest_of os
unfolding greatest_of
greatest_most [] k h = absurd (omega arith)
greatest_most (o ∷ os) zero h = omega arith
greatest_most (o ∷ os) (suc k) h = let r = greatest_most os k (omega arith) in omega arith

-- one more object, as at a step of a loop
pub greatest_more : (os : List Owned) (i : ℕ) (d : Owned) → i < length os →
    greatest_of (take (i + 1) os) ≡ max (greatest_of (take i os)) (get_or os i d).align
unfolding greatest_of
greatest_more [] i d h = absurd (omega arith)
greatest_more (o ∷ os) zero d h = omega arith
greatest_more (o ∷ os) (suc i) d h =
    let r = greatest_more os i d (omega arith) in let e : suc i + 1 ≡ suc (i + 1) = omega arith in
    rw e (omega (arith, r))

pub greatest_power : (os : List Owned) → All IsLocal os → (k : ℕ) × (greatest_of os ≡ 2 ^ k)
unfolding greatest_of
greatest_power [] all = (4, refl)
greatest_power (o ∷ os) all =
    let r = greatest_power os (rest_all o os all) in
    let l = (local_at (o ∷ os) 0 all (omega arith)).power in
    elim (cases_lt o.align (greatest_of os)) as (λ _. (k : ℕ) × (max o.align (greatest_of os) ≡ 2 ^ k)) [
      | inl less ↦ (r.0, let e : max o.align (greatest_of os) ≡ greatest_of os = omega arith in e ∙ r.1)
      | inr more ↦ (l.0, let e : max o.align (greatest_of os) ≡ o.align = omega arith in e ∙ l.1)
    ]

-- the greatest alignment has room in the sum of all
pub all_taken : (os : List Owned) → All IsLocal os → sum_by taken os + greatest_of os ≤ sum_by room os + 16
unfolding greatest_of
all_taken [] all = omega arith
all_taken (o ∷ os) all =
    let r = all_taken os (rest_all o os all) in
    let t = one_taken o (sum_by taken os) (sum_by room os) (greatest_of os) (local_at (o ∷ os) 0 all (omega arith))
    (greatest_least os) r in
    omega (arith, sum_by-cons taken o os, sum_by-cons room o os)

at_most_taken : (a : ℕ) (o : Owned) → taken_at a o ≤ taken o
at_most_taken a o = grind (arith, nat_tests)

below_most_taken : (a : ℕ) (o : Owned) → taken_below a o ≤ taken o
below_most_taken a o = grind (arith, nat_tests)

both_taken : (a : ℕ) (o : Owned) → 0 < a → taken_below a o + taken_at a o ≤ taken_below (2 * a) o
both_taken a o h = grind (arith, nat_tests)

pub below_and_at : (a : ℕ) (os : List Owned) → 0 < a →
    sum_by (taken_below a) os + sum_by (taken_at a) os ≤ sum_by (taken_below (2 * a)) os
below_and_at a [] h = omega arith
below_and_at a (o ∷ os) h =
    omega (
      arith,
      below_and_at a os h,
      both_taken a o h,
      sum_by-cons (taken_below a) o os,
      sum_by-cons (taken_at a) o os,
      sum_by-cons (taken_below (2 * a)) o os,
    )

pub below_all : (a : ℕ) (os : List Owned) → sum_by (taken_below a) os ≤ sum_by taken os
below_all a os = sum_by-le-sum_by (taken_below a) taken os (below_most_taken a)

pub at_all : (a i : ℕ) (os : List Owned) → sum_by (taken_at a) (take i os) ≤ sum_by taken os
at_all a i os = omega (
  arith,
  sum_by-take-le (taken_at a) os i,
  sum_by-le-sum_by (taken_at a) taken os (at_most_taken a),
)

-- ---- one alignment

-- placed are the objects of lesser alignments, and of this one the first i
abbrev pub Before : ℕ → ℕ → List Owned → ℕ → Type 0
Before align i os k = ((object os k).align < align) ⊎ (((object os k).align ≡ align) × (k < i))

abbrev pub Below : ℕ → List Owned → ℕ → Type 0
Below align os k = (object os k).align < align

pub record Turn (os : List Owned) (starts : List ℕ) (from next align i start : ℕ) : Type 0 where
  pub count : length starts ≡ length os
  pub placed : ArePlaced (Before align i os) os starts from next
  pub multiple : next % align ≡ 0
  pub most : next ≤ start + sum_by (taken_at align) (take i os)
  pub past : from ≤ next

-- what is placed stays so where the end is further on, and where fewer count
pub fewer : (P Q : ℕ → Type 0) (os : List Owned) (starts : List ℕ) (from to end : ℕ) →
    ((k : ℕ) → k < length os → Q k → P k) → to ≤ end → ArePlaced P os starts from to → ArePlaced Q os starts from end
fewer P Q os starts from to end f h p = record {
  lies = λ k j q. let l = p.lies k j (f k j q) in let w = l.within in
      let b = l.inside in record { aligned = l.aligned; past = l.past; inside = omega arith; within = omega arith };
  apart = λ j k hj hk q r n. p.apart j k hj hk (f j hj q) (f k hk r) n;
}

pub turn_skip : (os : List Owned) (starts : List ℕ) (from next align i start : ℕ) → i < length os →
    ((object os i).align ≡ align → ⊥) → Turn os starts from next align i start →
    Turn os starts from next align (i + 1) start
turn_skip os starts from next align i start h n t = record {
  count = t.count;
  placed = fewer (Before align i os) (Before align (i + 1) os) os starts from next next old (omega arith) t.placed;
  multiple = t.multiple;
  most = let m = t.most in omega (arith, sum_by_more (taken_at align) os i (record { length = 0; align = 0 }) h);
  past = t.past;
}
  where
    old : (k : ℕ) → k < length os → Before align (i + 1) os k → Before align i os k
    old k j (inl less) = inl less
    old k j (inr same) = elim (cases_lt k i) as (λ _. Before align i os k) [
      | inl less ↦ inr (same.0, less)
      | inr more ↦ let e : k ≡ i = omega arith in absurd (n (subst (λ x. (object os x).align ≡ align) e same.0))
    ]

taken_here : (os : List Owned) (align i : ℕ) → (object os i).align ≡ align →
    taken_at align (object os i) ≡ taken (object os i)
taken_here os align i e = grind (arith, nat_tests)

pub turn_take : (os : List Owned) (starts : List ℕ) (from next align i start size : ℕ) → i < length os → 0 < align →
    (object os i).align ≡ align → size ≡ rounded_up (max (object os i).length 1) align → size % align ≡ 0
    → (next + size) % align ≡ 0 → Turn os starts from next align i start →
    Turn os (set starts i next) from (next + size) align (i + 1) start
turn_take os starts from next align i start size h positive same is whole multiple t = record {
  count = length-set {A = ℕ} starts i next ∙ t.count;
  placed = record { lies = lies; apart = apart };
  multiple = multiple;
  most =
      let m = t.most in
      let e : taken (object os i) ≡ size = ap (λ a. rounded_up (max (object os i).length 1) a) same ∙ sym is in
      omega (arith, sum_by_more (taken_at align) os i (record { length = 0; align = 0 }) h, taken_here os align i same);
  past = let p = t.past in omega arith;
}
  where
    count : i < length starts
    count = let c = t.count in omega arith

    new : (k : ℕ) → Before align (i + 1) os k → (k ≡ i) ⊎ ((k ≢ i) × Before align i os k)
    new k (inl less) = inr (
      (λ e. let z : (object os i).align < align = subst (λ x. (object os x).align < align) e less
          in omega arith),
      inl less,
    )
    new k (inr s) = elim (cases_lt k i) as (λ _. (k ≡ i) ⊎ ((k ≢ i) × Before align i os k)) [
      | inl less ↦ inr ((λ e. omega arith), inr (s.0, less))
      | inr more ↦ inl (let l = s.1 in omega arith)
    ]

    holds : max (object os i).length 1 ≤ size
    holds =
        let g : max (object os i).length 1 ≤ rounded_up (max (object os i).length 1) align =
        rounded_up_ge (max (object os i).length 1) align positive in
        omega arith

    here : get_or (set starts i next) i 0 ≡ next
    here = get_or-set_same starts i next 0 count

    there : (k : ℕ) → k ≢ i → get_or (set starts i next) k 0 ≡ get_or starts k 0
    there k n = get_or-set_other starts i k next 0 n

    lies_new : (k : ℕ) → k ≡ i → Lies (object os k) (get_or (set starts i next) k 0) from (next + size)
    lies_new k e = subst (λ x. Lies (object os x) (get_or (set starts i next) x 0) from (next + size)) (sym e)
        (subst (λ v. Lies (object os i) v from (next + size)) (sym here)
        (record {
          aligned = subst (λ a. next % a ≡ 0) (sym same) t.multiple;
          past = t.past;
          inside = let w = holds in omega arith;
          within = let w = holds in omega arith;
        }))

    lies_old : (k : ℕ) → k < length os → k ≢ i → Before align i os k →
        Lies (object os k) (get_or (set starts i next) k 0) from (next + size)
    lies_old k j n b = let l = t.placed.lies k j b in let w = l.within in let i = l.inside in
        subst (λ v. Lies (object os k) v from (next + size)) (sym (there k n))
        (record { aligned = l.aligned; past = l.past; inside = omega arith; within = omega arith })

    lies : (k : ℕ) → k < length os → Before align (i + 1) os k →
        Lies (object os k) (get_or (set starts i next) k 0) from (next + size)
    lies k j b = elim (new k b) as (λ _. Lies (object os k) (get_or (set starts i next) k 0) from (next + size)) [
      | inl e ↦ lies_new k e
      | inr o ↦ lies_old k j o.0 o.1
    ]

    -- the new object begins where the others end
    behind : (k : ℕ) → k < length os → k ≢ i → Before align i os k →
        get_or (set starts i next) k 0 + (object os k).length ≤ next
    behind k j n b = let w = (t.placed.lies k j b).within in let e = there k n in omega arith

    start_of : (k : ℕ) → k ≡ i → get_or (set starts i next) k 0 ≡ next
    start_of k e = ap (λ x. get_or (set starts i next) x 0) e ∙ here

    apart : (j k : ℕ) → j < length os → k < length os → Before align (i + 1) os j → Before align (i + 1) os k →
        (j ≡ k → ⊥)
        → Apart (get_or (set starts i next) j 0) (object os j).length (get_or (set starts i next) k 0)
        (object os k).length
    apart j k hj hk p q n = elim (new j p) as
        (λ _. Apart (get_or (set starts i next) j 0) (object os j).length (get_or (set starts i next) k 0)
        (object os k).length) [
          | inl e ↦ elim (new k q) as (λ _. Apart (get_or (set starts i next) j 0) (object os j).length
              (get_or (set starts i next) k 0) (object os k).length) [
                | inl f ↦ absurd (n (e ∙ sym f))
                | inr g ↦ inr (let w = behind k hk g.0 g.1 in let z = start_of j e in omega arith)
              ]
          | inr o ↦ elim (new k q) as (λ _. Apart (get_or (set starts i next) j 0) (object os j).length
              (get_or (set starts i next) k 0) (object os k).length) [
                | inl f ↦ inl (let w = behind j hj o.0 o.1 in let z = start_of k f in omega arith)
                | inr g ↦
                    subst (λ u. Apart u (object os j).length (get_or (set starts i next) k 0) (object os k).length)
                    (sym (there j o.0))
                    (subst (λ v. Apart (get_or starts j 0) (object os j).length v (object os k).length)
                    (sym (there k g.0))
                    (t.placed.apart j k hj hk o.1 g.1 n))
              ]
        ]

-- ---- one alignment after the other

pub record Round (os : List Owned) (starts : List ℕ) (from next half : ℕ) : Type 0 where
  pub count : length starts ≡ length os
  pub power : (p : ℕ) × (half ≡ 2 ^ p)
  pub placed : ArePlaced (Below (2 * half) os) os starts from next
  pub multiple : next % half ≡ 0
  pub most : next + 8 ≤ from + sum_by (taken_below (2 * half)) os + half
  pub past : from ≤ next
  pub least : 8 ≤ half
  pub reached : half ≤ greatest_of os

-- no object has an alignment below 16
pub first_round : (os : List Owned) (starts : List ℕ) (from : ℕ) → All IsLocal os → length starts ≡ length os →
    from % 16 ≡ 0 → Round os starts from from 8
first_round os starts from all e m = record {
  count = e;
  power = (3, refl);
  placed = record { lies = λ k h b. absurd (too_low k h b); apart = λ j k hj hk b c n. absurd (too_low j hj b) };
  multiple = omega arith;
  most = omega arith;
  past = omega arith;
  least = omega arith;
  reached = let g = greatest_least os in omega arith;
}
  where
    too_low : (k : ℕ) → k < length os → Below (2 * 8) os k → ⊥
    too_low k h b = let l = (local_at os k all h).least in omega arith

pub next_round : (os : List Owned) (starts : List ℕ) (from before half start next n : ℕ) (old : List ℕ) →
    All IsLocal os → Round os old from before half → half < greatest_of os → start < before + 2 * half →
    start % (2 * half) ≡ 0 → length os ≤ n
    → Turn os starts from next (2 * half) n start → Round os starts from next (2 * half)
next_round os starts from before half start next n old all r h near m z t = record {
  count = t.count;
  power = (suc r.power.0, let e = r.power.1 in omega arith);
  placed = fewer (Before (2 * half) n os) (Below (2 * (2 * half)) os) os starts from next next known
      (omega arith) t.placed;
  multiple = t.multiple;
  most =
      let a = r.most in
      let b = t.most in
      let c : start ≤ before + half = half_step before start half r.multiple m near in
      let d = below_and_at (2 * half) os (let l = r.least in omega arith) in
      omega (arith, sum_by-take-le (taken_at (2 * half)) os n);
  past = t.past;
  least = let l = r.least in omega arith;
  reached =
      let g = greatest_power os all in
      let e = r.power.1 in
      let f = g.1 in
      let s : 2 * 2 ^ r.power.0 ≤ 2 ^ g.0 = next_power r.power.0 g.0 (omega arith) in
      omega arith;
}
  where
    known : (k : ℕ) → k < length os → Below (2 * (2 * half)) os k → Before (2 * half) n os k
    known k j b = elim (cases_lt (object os k).align (2 * half)) as (λ _. Before (2 * half) n os k) [
      | inl less ↦ inl less
      | inr more ↦ inr (at_it k j b more, omega arith)
    ]
      where
        at_it : (k : ℕ) → k < length os → Below (2 * (2 * half)) os k → 2 * half ≤ (object os k).align →
            (object os k).align ≡ 2 * half
        at_it k j b more = elim (cases_lt (2 * half) (object os k).align) as (λ _. (object os k).align ≡ 2 * half) [
          | inl above ↦
              let l = (local_at os k all j).power in
              let e = r.power.1 in
              let f = l.1 in
              let s : 2 * 2 ^ suc r.power.0 ≤ 2 ^ l.0 = next_power (suc r.power.0) l.0 (omega arith) in
              absurd (omega arith)
          | inr below ↦ omega arith
        ]

-- ---- all

pub record IsDone (os : List Owned) (starts : List ℕ) (from next : ℕ) : Type 0 where
  pub count : length starts ≡ length os
  pub placed : ArePlaced IsAny os starts from next
  pub past : from ≤ next
  pub multiple : next % greatest_of os ≡ 0
  pub most : next ≤ from + sum_by room os + 8

pub done : (os : List Owned) (starts : List ℕ) (from next half : ℕ) → All IsLocal os → Round os starts from next half →
    greatest_of os ≤ half → IsDone os starts from next
done os starts from next half all r h =
    let same : half ≡ greatest_of os = let w = r.reached in omega arith in
    record {
      count = r.count;
      placed = fewer (Below (2 * half) os) IsAny os starts from next next
          (λ k j u. let g = greatest_most os k j in let l = r.least in omega arith) (omega arith) r.placed;
      past = r.past;
      multiple = subst (λ x. next % x ≡ 0) same r.multiple;
      most = let m = r.most in omega (arith, below_all (2 * half) os, all_taken os all);
    }

-- ---- everything fits

pub round_fits : (os : List Owned) (starts : List ℕ) (from next half : ℕ) → AreLocals os →
    Round os starts from next half → (half ≤ 67108880) × (next ≤ from + 67108880)
round_fits os starts from next half l r =
    let t = all_taken os l.each in
    let f = l.fit in
    let w = r.reached in
    let m = r.most in
    (omega arith, omega (arith, below_all (2 * half) os))

pub turn_fits : (os : List Owned) (starts : List ℕ) (from next align i start : ℕ) → AreLocals os →
    Turn os starts from next align i start → next ≤ start + 67108864
turn_fits os starts from next align i start l t =
    let s = all_taken os l.each in
    let g = greatest_least os in
    let f = l.fit in
    let m = t.most in
    omega (arith, at_all align i os)

pub turn_at : (os : List Owned) (starts starts' : List ℕ) (from next next' align i start : ℕ) → starts' ≡ starts →
    next' ≡ next → Turn os starts from next align i start → Turn os starts' from next' align i start
turn_at os starts starts' from next next' align i start e f t =
    subst (λ s. Turn os s from next' align i start) (sym e) (subst (λ n. Turn os starts from n align i start) (sym f) t)
