-- One step of the scan.
use Rattle.std.proofs.Common.{ℕ, ◌≡◌, ◌≢◌, ◌+◌, ◌<◌, ◌≤◌, ◌⊎◌, List, [], ◌∷◌, ◌++◌, length, get_or, set, drop, refl}
use Rattle.std.proofs.Common.{sym, ◌∙◌, ap, subst, inl, inr, cond, arith}
use Rattle.std.specs.Prelude.{Bool, true, nat_lt, nat_le, All, count_by, slice_get, slice_index, Some}
use Rattle.std.proofs.lemmas.Bool.{cases_eq, cases_lt, lt-ltb, le-ltb, le-leb, and_from, cond-true, cond-false}
use Rattle.std.proofs.lemmas.Option.{same_Some, slice_get_within, gets}
use Rattle.std.proofs.lemmas.Grind.{common_steps}
use Rattle.std.proofs.lemmas.List.{length-set, get_or-set_same, get_or-set_other, length_push, length-drop, get_or-drop}
use Rattle.std.proofs.lemmas.List.Elements.{All-head, All-tail, All-from_get_or, All-contains, Contains-append_left}
use Rattle.std.proofs.lemmas.List.Elements.{Contains-get_or, Contains-push, Contains-push_cases}
use Rattle.std.proofs.lemmas.List.Sums.{sum_by_push, sum_by-set, sum_by-take-drop, sum_by-cons}
use Rattle.reg_alloc.specs.declared.intervals.Interval.{Interval}
use Rattle.reg_alloc.specs.declared.places.Home.{Home}
use Rattle.reg_alloc.specs.declared.places.Home.TheVariants.{Register, Slot}
use Rattle.reg_alloc.specs.declared.scan.Entry.{Entry}
use Rattle.reg_alloc.specs.Placed.{holds, Meet, IsCrossed, ApartAt, IsRelaxed}
use Rattle.reg_alloc.specs.Ranks.{register_of, rank_of}
use Rattle.reg_alloc.specs.Scanned.{held, IsNext, IsDone, Suits, IsChoice, AreTaken, IsScanned}
use Rattle.reg_alloc.proofs.Choice.{rank-register}
use Rattle.reg_alloc.proofs.Checked.{apart_back}

-- ---- lists

slice_get-set_same : {X : Type 0} (xs : List X) (i : ℕ) (x : X) → i < length xs → slice_get (set xs i x) i ≡ Some x
slice_get-set_same xs i x l = grind (arith, common_steps, gets)

slice_get-set_other : {X : Type 0} (xs : List X) (i j : ℕ) (x : X) → (j ≡ i → ⊥) →
    slice_get (set xs i x) j ≡ slice_get xs j
slice_get-set_other xs i j x differs = grind (arith, common_steps, gets)

-- all but the last of what holds of each, and the last
all_before : {X : Type 0} (P : X → Type 0) (xs : List X) (x : X) → All P (xs ++ x ∷ []) → All P xs
all_before P xs x all k d l =
    All-contains P (xs ++ x ∷ []) (get_or xs k d) all (Contains-append_left xs (x ∷ []) _ (Contains-get_or xs k d l))

all_last : {X : Type 0} (P : X → Type 0) (xs : List X) (x : X) → All P (xs ++ x ∷ []) → P x
all_last P xs x all = All-contains P (xs ++ x ∷ []) x all (Contains-push xs x)

count-set_le : (p : ℕ → Bool) (xs : List ℕ) (i x : ℕ) → i < length xs →
    count_by p (set xs i x) ≤ count_by p xs + cond (p x) 1 0
count-set_le p xs i x l = let e = sum_by-set (λ y. cond (p y) 1 0) xs i x 0 l in omega arith

count_all : (p : ℕ → Bool) (xs : List ℕ) → All (λ x. p x ≡ true) xs → count_by p xs ≡ length xs
count_all p [] all = refl
count_all p (x ∷ xs) all =
    let e = sum_by-cons (λ y. cond (p y) 1 0) x xs in
    let h = count_all p xs (All-tail (λ y. p y ≡ true) x xs all) in
    let t = cond-true {A = ℕ} (p x) 1 0 (All-head (λ y. p y ≡ true) x xs all) in
    omega arith

-- ---- who is done

done_before : (done : List Entry) (e : Entry) (i : ℕ) → IsDone (done ++ e ∷ []) i → (i ≡ e.index → ⊥) → IsDone done i
done_before done e i d ne =
    elim (Contains-push_cases done e d.0 d.1) [
      | inl h ↦ (d.0, h, d.2)
      | inr q ↦ absurd (ne (sym d.2 ∙ sym (ap (λ (x : Entry). x.index) q)))
    ]

-- the home of interval i behind a write to that of t
Written : List Home → ℕ → Home → ℕ → Home → Type 0
Written homes t h i g = ((i ≡ t) × (g ≡ h)) ⊎ ((i ≡ t → ⊥) × (slice_get homes i ≡ Some g))

written : (homes : List Home) (t : ℕ) (h : Home) (i : ℕ) (g : Home) → t < length homes →
    slice_get (set homes t h) i ≡ Some g → Written homes t h i g
unfolding Written
written homes t h i g l at =
    elim (cases_eq i t) [
      | inl same ↦ inl (
        same,
        same_Some g h (sym at
            ∙ subst (λ (j : ℕ). slice_get (set homes t h) j ≡ Some h) (sym same) (slice_get-set_same homes t h l)),
      )
      | inr other ↦ inr (other, sym (slice_get-set_other homes t i h other) ∙ at)
    ]

-- the interval of the entry that is placed
interval_is : (live : List Interval) (e : Entry) (i : ℕ) (v : Interval) → slice_get live e.index ≡ Some e.interval →
    i ≡ e.index → slice_get live i ≡ Some v → v ≡ e.interval
interval_is live e i v own same at = same_Some v e.interval (sym at ∙ (ap (slice_get live) same ∙ own))

-- ---- what each step keeps

suits_step : (live : List Interval) (calls : List ℕ) (done : List Entry) (homes : List Home) (free_from : List ℕ)
    (slots : ℕ) (e : Entry) (h : Home) → IsScanned live calls done homes free_from slots → IsNext live done e →
    Suits calls e.index e.interval h → (i : ℕ) (v : Interval) (g : Home) → IsDone (done ++ e ∷ []) i →
    slice_get live i ≡ Some v → slice_get (set homes e.index h) i ≡ Some g → Suits calls i v g
unfolding Written
suits_step live calls done homes free_from slots e h s next suits i v g d at home =
    elim (written homes e.index h i g (rw s.one_each (slice_get_within live e.index e.interval next.own)) home) [
      | inl same ↦ rw (same.0, same.1, interval_is live e i v next.own same.0 at) suits
      | inr other ↦ s.suits i v g (done_before done e i d other.0) at other.1
    ]

-- the new home is that of no interval that holds a common instruction
IsNewHome : List Interval → List Entry → List Home → Entry → Home → Type 0
IsNewHome live done homes e h =
    (j : ℕ) (w : Interval) → IsDone done j → slice_get live j ≡ Some w → Meet e.interval w →
    slice_get homes j ≡ Some h → ⊥

apart_new : (live : List Interval) (done : List Entry) (homes : List Home) (e : Entry) (h : Home) →
    length homes ≡ length live → IsNext live done e → IsNewHome live done homes e h → (j : ℕ) →
    IsDone (done ++ e ∷ []) j → (j ≡ e.index → ⊥) → ApartAt live (set homes e.index h) e.index j
unfolding IsNewHome
apart_new live done homes e h one next new j d other v w a b meet same =
    let within : e.index < length homes = rw one (slice_get_within live e.index e.interval next.own) in
    let here : slice_get homes j ≡ Some h =
    sym (slice_get-set_other homes e.index j h other)
    ∙ (sym same ∙ slice_get-set_same homes e.index h within) in
    new j w (done_before done e j d other) b (subst (λ (x : Interval). Meet x w)
    (same_Some v e.interval (sym a ∙ next.own)) meet) here

apart_step : (live : List Interval) (calls : List ℕ) (done : List Entry) (homes : List Home) (free_from : List ℕ)
    (slots : ℕ) (e : Entry) (h : Home) → IsScanned live calls done homes free_from slots → IsNext live done e →
    IsNewHome live done homes e h → (i j : ℕ) → IsDone (done ++ e ∷ []) i → IsDone (done ++ e ∷ []) j → i ≢ j →
    ApartAt live (set homes e.index h) i j
apart_step live calls done homes free_from slots e h s next new i j di dj differ =
    elim (cases_eq i e.index) [
      | inl same ↦ rw same (apart_new live done homes e h s.one_each next new j dj (λ q. differ (same ∙ sym q)))
      | inr other ↦ elim (cases_eq j e.index) [
        | inl same ↦ rw same (apart_back live _ _ _ (apart_new live done homes e h s.one_each next new i di other))
        | inr different ↦ λ v w a b meet equal. s.apart i j (done_before done e i di other)
            (done_before done e j dj different) differ v w a b meet
            (sym (slice_get-set_other homes e.index i h other)
            ∙ (equal ∙ slice_get-set_other homes e.index j h different))
      ]
    ]

-- the ends of two intervals that hold a common instruction are in order
meet_order : (v w : Interval) → Meet v w → (v.first ≤ w.last) × (w.first ≤ v.last) × (v.first ≤ v.last)
meet_order v w m = (omega (arith, m.1, m.4), omega (arith, m.2, m.3), omega (arith, m.1, m.2))

between_held : (n : ℕ) (v : Interval) → v.first ≤ n → n ≤ v.last → holds n v ≡ true
between_held n v a b = and_from (nat_le v.first n) (nat_le n v.last) (le-leb v.first n a) (le-leb n v.last b)

-- ---- how many registers are taken

held-push : (n : ℕ) (done : List Entry) (e : Entry) →
    held n (done ++ e ∷ []) ≡ held n done + cond (holds n e.interval) 1 0
held-push n done e = sum_by_push _ done e

held-le-push : (n : ℕ) (done : List Entry) (e : Entry) → held n done ≤ held n (done ++ e ∷ [])
held-le-push n done e = omega (arith, held-push n done e)

-- a register that is taken up to an interval's last instruction is taken where the interval holds
taken-le-holds : (n : ℕ) (v : Interval) → v.first ≤ n → cond (nat_lt n (v.last + 1)) 1 0 ≤ cond (holds n v) 1 0
taken-le-holds n v low =
    elim (cases_lt v.last n) [
      | inl l ↦ rw (cond-false {A = ℕ} (nat_lt n (v.last + 1)) 1 0 (le-ltb n (v.last + 1) (omega arith))) (omega arith)
      | inr g ↦ rw (
        cond-true {A = ℕ} (nat_lt n (v.last + 1)) 1 0 (lt-ltb n (v.last + 1) (omega arith)),
        cond-true {A = ℕ} (holds n v) 1 0 (between_held n v low g),
      ) (omega arith)
    ]

pressure_register : (n : ℕ) (done : List Entry) (e : Entry) (free_from : List ℕ) (k : ℕ) → k < length free_from →
    count_by (nat_lt n) free_from ≤ held n done → e.interval.first ≤ n →
    count_by (nat_lt n) (set free_from k (e.interval.last + 1)) ≤ held n (done ++ e ∷ [])
pressure_register n done e free_from k l before low =
    let a = count-set_le (nat_lt n) free_from k (e.interval.last + 1) l in
    let b = taken-le-holds n e.interval low in
    let h = held-push n done e in
    omega arith

-- where each register from rank 8 on is taken, fifteen are
fifteen_taken : (n : ℕ) (free_from : List ℕ) → length free_from ≡ 23 → AreTaken free_from 8 n →
    15 ≤ count_by (nat_lt n) free_from
fifteen_taken n free_from long busy =
    let tail : List ℕ = drop 8 free_from in
    let size : length tail ≡ 15 = length-drop 8 free_from ∙ omega arith in
    let all : All (λ x. nat_lt n x ≡ true) tail =
    All-from_get_or (λ x. nat_lt n x ≡ true) tail 0
    (λ i l. lt-ltb n (get_or tail i 0) (rw (get_or-drop 8 free_from i 0)
    (busy (8 + i) (omega arith) (omega arith)))) in
    let parts = sum_by-take-drop (λ x. cond (nat_lt n x) 1 0) free_from 8 in
    let whole = count_all (nat_lt n) tail all in
    omega arith

-- so the scan takes no slot where few intervals hold each instruction
no_slot : (live : List Interval) (calls : List ℕ) (done : List Entry) (homes : List Home) (free_from : List ℕ)
    (slots : ℕ) (e : Entry) → IsScanned live calls done homes free_from slots → IsNext live done e →
    e.interval.first ≤ e.interval.last → ((IsCrossed calls e.interval → ⊥) → AreTaken free_from 8 e.interval.first) →
    IsRelaxed live calls → ⊥
no_slot live calls done homes free_from slots e s next full busy relaxed =
    let first = e.interval.first in
    let taken = fifteen_taken first free_from s.ranks (busy (relaxed.uncrossed e.index e.interval next.own)) in
    let pressed = s.pressure first next.later in
    let here = cond-true {A = ℕ} (holds first e.interval) 1 0 (between_held first e.interval (omega arith) full) in
    let push = held-push first done e in
    let most = next.counted first in
    let few = relaxed.few first in
    omega arith

-- ---- the three steps

pub place_register : (live : List Interval) (calls : List ℕ) (done : List Entry) (homes : List Home)
    (free_from : List ℕ) (slots : ℕ) (e : Entry) (k : ℕ) → e.interval.first ≤ e.interval.last →
    IsChoice calls e.index e.interval free_from k → IsScanned live calls done homes free_from slots →
    IsNext live done e → IsScanned live calls (done ++ e ∷ []) (set homes e.index (Register (register_of k)))
    (set free_from k (e.interval.last + 1)) slots
unfolding IsNewHome Written
place_register live calls done homes free_from slots e k full choice s next = record {
  one_each = length-set homes e.index h ∙ s.one_each;
  ranks = length-set free_from k (e.interval.last + 1) ∙ s.ranks;
  suits = suits_step live calls done homes free_from slots e h s next choice.suits;
  apart = apart_step live calls done homes free_from slots e h s next new;
  taken = taken;
  pressure = λ n all. pressure_register n done e free_from k rank_in
      (s.pressure n (all_before (λ (d : Entry). d.interval.first ≤ n) done e all))
      (all_last (λ (d : Entry). d.interval.first ≤ n) done e all);
  slots_below = slots_below;
  slot_count = let l = length_push done e in omega (arith, s.slot_count);
  registers = registers;
}
  where
    h : Home
    h = Register (register_of k)

    within : e.index < length homes
    within = rw s.one_each (slice_get_within live e.index e.interval next.own)

    rank_in : k < length free_from
    rank_in = rw s.ranks choice.within

    new : IsNewHome live done homes e h
    new j w d at meet home =
        let o = meet_order e.interval w meet in
        let p = meet_order w e.interval (meet.0, meet.3, meet.4, meet.1, meet.2) in
        let l = s.taken j (register_of k) w d at p.2 home in
        let l' = rw (rank-register k choice.within) at l in
        omega (arith, l', choice.free, o.0)

    taken : (i r : ℕ) (v : Interval) → IsDone (done ++ e ∷ []) i → slice_get live i ≡ Some v → v.first ≤ v.last →
        slice_get (set homes e.index h) i ≡ Some (Register r) →
        v.last < slice_index (set free_from k (e.interval.last + 1)) (rank_of r)
    taken i r v d at nonempty home =
        elim (written homes e.index h i (Register r) within home) [
          | inl same ↦
              let number : r ≡ register_of k = cc (same.1) in
              let is : v ≡ e.interval = interval_is live e i v next.own same.0 at in
              rw (
                number,
                rank-register k choice.within,
                get_or-set_same free_from k (e.interval.last + 1) 0 rank_in,
                is,
              ) (omega arith)
          | inr other ↦
              let before = s.taken i r v (done_before done e i d other.0) at nonempty other.1 in
              elim (cases_eq (rank_of r) k) [
                | inl same ↦ rw (same, get_or-set_same free_from k (e.interval.last + 1) 0 rank_in)
                    (let l = rw same at before in omega (arith, l, choice.free))
                | inr differs ↦ rw (get_or-set_other free_from k (rank_of r) (e.interval.last + 1) 0 differs) before
              ]
        ]

    slots_below : (i m : ℕ) → IsDone (done ++ e ∷ []) i → slice_get (set homes e.index h) i ≡ Some (Slot m) → m < slots
    slots_below i m d home =
        elim (written homes e.index h i (Slot m) within home)
        [ inl same ↦ absurd (cc (same.1)) | inr other ↦ s.slots_below i m (done_before done e i d other.0) other.1 ]

    registers : IsRelaxed live calls → (i m : ℕ) → IsDone (done ++ e ∷ []) i →
        slice_get (set homes e.index h) i ≡ Some (Slot m) → ⊥
    registers relaxed i m d home =
        elim (written homes e.index h i (Slot m) within home)
        [ inl same ↦ cc (same.1) | inr other ↦ s.registers relaxed i m (done_before done e i d other.0) other.1 ]

pub place_slot : (live : List Interval) (calls : List ℕ) (done : List Entry) (homes : List Home) (free_from : List ℕ)
    (slots : ℕ) (e : Entry) → e.interval.first ≤ e.interval.last →
    ((IsCrossed calls e.interval → ⊥) → AreTaken free_from 8 e.interval.first) →
    IsScanned live calls done homes free_from slots → IsNext live done e →
    IsScanned live calls (done ++ e ∷ []) (set homes e.index (Slot slots)) free_from (slots + 1)
unfolding IsNewHome Written
place_slot live calls done homes free_from slots e full busy s next = record {
  one_each = length-set homes e.index h ∙ s.one_each;
  ranks = s.ranks;
  suits = suits_step live calls done homes free_from slots e h s next (tt, tt);
  apart = apart_step live calls done homes free_from slots e h s next
      (λ j w d at meet home. let l = s.slots_below j slots d home in omega arith);
  taken = taken;
  pressure = λ n all. let l = held-le-push n done e in
      let p = s.pressure n (all_before (λ (d : Entry). d.interval.first ≤ n) done e all) in omega arith;
  slots_below = slots_below;
  slot_count = let l = length_push done e in omega (arith, s.slot_count);
  registers = λ relaxed. absurd (no_slot live calls done homes free_from slots e s next full busy relaxed);
}
  where
    h : Home
    h = Slot slots

    within : e.index < length homes
    within = rw s.one_each (slice_get_within live e.index e.interval next.own)

    taken : (i r : ℕ) (v : Interval) → IsDone (done ++ e ∷ []) i → slice_get live i ≡ Some v → v.first ≤ v.last →
        slice_get (set homes e.index h) i ≡ Some (Register r) → v.last < slice_index free_from (rank_of r)
    taken i r v d at nonempty home =
        elim (written homes e.index h i (Register r) within home) [
          | inl same ↦ absurd (cc (same.1))
          | inr other ↦ s.taken i r v
              (done_before done e i d other.0) at nonempty other.1
        ]

    slots_below : (i m : ℕ) → IsDone (done ++ e ∷ []) i → slice_get (set homes e.index h) i ≡ Some (Slot m) →
        m < slots + 1
    slots_below i m d home =
        elim (written homes e.index h i (Slot m) within home) [
          | inl same ↦ let number : m ≡ slots = cc (same.1) in omega arith
          | inr other ↦ let l = s.slots_below i m (done_before done e i d other.0) other.1 in omega arith
        ]

-- an interval that holds no instruction
pub place_nothing : (live : List Interval) (calls : List ℕ) (done : List Entry) (homes : List Home) (free_from : List ℕ)
    (slots : ℕ) (e : Entry) → e.interval.last < e.interval.first → IsScanned live calls done homes free_from slots →
    IsNext live done e → IsScanned live calls (done ++ e ∷ []) (set homes e.index (Register 5)) free_from slots
unfolding IsNewHome Written
place_nothing live calls done homes free_from slots e empty s next = record {
  one_each = length-set homes e.index h ∙ s.one_each;
  ranks = s.ranks;
  suits = suits_step live calls done homes free_from slots e h s next
      (((omega arith, omega arith), λ x. absurd (omega (arith, x.2, x.3))), λ p low high. absurd (omega arith));
  apart = apart_step live calls done homes free_from slots e h s next
      (λ j w d at meet home. let o = meet_order e.interval w meet in omega (arith, o.2));
  taken = taken;
  pressure = λ n all. let l = held-le-push n done e in
      let p = s.pressure n (all_before (λ (d : Entry). d.interval.first ≤ n) done e all) in omega arith;
  slots_below = slots_below;
  slot_count = let l = length_push done e in omega (arith, s.slot_count);
  registers = registers;
}
  where
    h : Home
    h = Register 5

    within : e.index < length homes
    within = rw s.one_each (slice_get_within live e.index e.interval next.own)

    taken : (i r : ℕ) (v : Interval) → IsDone (done ++ e ∷ []) i → slice_get live i ≡ Some v → v.first ≤ v.last →
        slice_get (set homes e.index h) i ≡ Some (Register r) → v.last < slice_index free_from (rank_of r)
    taken i r v d at nonempty home =
        elim (written homes e.index h i (Register r) within home) [
          | inl same ↦ let is : v ≡ e.interval = interval_is live e i v next.own same.0 at in
              let a = rw is at nonempty in absurd (omega arith)
          | inr other ↦ s.taken i r v (done_before done e i d other.0) at nonempty other.1
        ]

    slots_below : (i m : ℕ) → IsDone (done ++ e ∷ []) i → slice_get (set homes e.index h) i ≡ Some (Slot m) → m < slots
    slots_below i m d home =
        elim (written homes e.index h i (Slot m) within home)
        [ inl same ↦ absurd (cc (same.1)) | inr other ↦ s.slots_below i m (done_before done e i d other.0) other.1 ]

    registers : IsRelaxed live calls → (i m : ℕ) → IsDone (done ++ e ∷ []) i →
        slice_get (set homes e.index h) i ≡ Some (Slot m) → ⊥
    registers relaxed i m d home =
        elim (written homes e.index h i (Slot m) within home)
        [ inl same ↦ cc (same.1) | inr other ↦ s.registers relaxed i m (done_before done e i d other.0) other.1 ]
