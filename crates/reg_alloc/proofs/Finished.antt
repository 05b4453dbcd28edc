-- The scan's beginning and its end.
use Rattle.std.proofs.Common.{ℕ, ◌≡◌, ◌+◌, ◌<◌, ◌≤◌, List, [], ◌∷◌, ◌++◌, length, get_or, take, replicate, refl, sym}
use Rattle.std.proofs.Common.{◌∙◌, ap, subst, inl, inr, cond, arith}
use Rattle.std.specs.Prelude.{nat_lt, All, Contains, count_by, slice_get, Some}
use Rattle.std.specs.List.Sorted.{IsPermutation}
use Rattle.std.proofs.lemmas.Bool.{le-ltb, cond-false}
use Rattle.std.proofs.lemmas.Option.{slice_get-get_or}
use Rattle.std.proofs.lemmas.List.{length-replicate, take_more, get_or-take, length-take-le, take_all}
use Rattle.std.proofs.lemmas.List.Elements.{All-get_or, All-from_get_or}
use Rattle.std.proofs.lemmas.List.Folds.{sum_by-replicate}
use Rattle.std.proofs.lemmas.List.Sums.{sum_by-take-le}
use Rattle.std.proofs.lemmas.List.Sorted.{Contains-permutation, IsPermutation-sym}
use Rattle.reg_alloc.specs.declared.intervals.Interval.{Interval}
use Rattle.reg_alloc.specs.declared.places.Home.{Home}
use Rattle.reg_alloc.specs.declared.places.Home.TheVariants.{Register, Slot}
use Rattle.reg_alloc.specs.declared.scan.Entry.{Entry}
use Rattle.reg_alloc.specs.Placed.{holds, IsCrossed, Fits, IsPlaced, IsSlotBelow, IsRegister, IsRelaxed, IsPassed}
use Rattle.reg_alloc.specs.Placed.{StaysClear, StaysClearAt}
use Rattle.reg_alloc.specs.Scanned.{held, AreInOrder, IsNext, IsDone, IsScanned}

none_done : (i : ℕ) → IsDone [] i → ⊥
none_done i d = omega (arith, d.1.1)

pub begun : (live : List Interval) (calls : List ℕ) (homes : List Home) (free_from : List ℕ) (slots : ℕ) →
    length homes ≡ length live → free_from ≡ replicate 23 0 → slots ≡ 0 → IsScanned live calls [] homes free_from slots
begun live calls homes free_from slots one free none = record {
  one_each = one;
  ranks = ap length free ∙ length-replicate {A = ℕ} 23 0;
  suits = λ i v h d. absurd (none_done i d);
  apart = λ i j d. absurd (none_done i d);
  taken = λ i r v d. absurd (none_done i d);
  pressure = λ n all.
      let e : count_by (nat_lt n) free_from ≡ 0 = ap (λ (xs : List ℕ). count_by (nat_lt n) xs) free
      ∙ (sum_by-replicate (λ x. cond (nat_lt n x) 1 0) 23 0
      ∙ rw (cond-false {A = ℕ} (nat_lt n 0) 1 0 (le-ltb n 0 (omega arith)))) in
      omega arith;
  slots_below = λ i k d. absurd (none_done i d);
  slot_count = omega arith;
  registers = λ relaxed i k d. absurd (none_done i d);
}

-- the entry at k comes behind those before it
pub next_entry : (live : List Interval) (es : List Entry) (k : ℕ) (d : Entry) → AreInOrder live es → k < length es →
    IsNext live (take k es) (get_or es k d)
next_entry live es k d o l = record {
  own = All-get_or (λ (x : Entry). slice_get live x.index ≡ Some x.interval) es k d l o.own;
  later = All-from_get_or (λ (x : Entry). x.interval.first ≤ (get_or es k d).interval.first) (take k es) d (λ i m.
      let short = length-take-le k es (omega arith) in
      let below : i < k = omega arith in
      rw (get_or-take k es i d below) (o.rising i k d (omega arith) l));
  counted = λ n. subst (λ (xs : List Entry). held n xs ≤ count_by (holds n) live) (take_more es k d l)
      (let a = sum_by-take-le (λ (x : Entry). cond (holds n x.interval) 1 0) es (k + 1) in let b = o.counts n in
      omega arith);
}

-- a fact of the entries before k and that at k
pub one_more : (es : List Entry) (k : ℕ) (d : Entry) (P : List Entry → Type 0) → k < length es →
    P (take k es ++ get_or es k d ∷ []) → P (take (k + 1) es)
one_more es k d P l h = subst P (sym (take_more es k d l)) h

-- the scan behind all entries
pub all_scanned : (live : List Interval) (sorted : List ℕ) (es : List Entry) (homes : List Home) (free_from : List ℕ)
    (slots k : ℕ) → length es ≤ k → IsScanned live sorted (take k es) homes free_from slots →
    IsScanned live sorted es homes free_from slots
all_scanned live sorted es homes free_from slots k l s =
    subst (λ (xs : List Entry). IsScanned live sorted xs homes free_from slots) (take_all k es l) s

-- ---- the calls in another order

more_calls : (calls sorted : List ℕ) → IsPermutation calls sorted → (c : ℕ) → Contains calls c → Contains sorted c
more_calls calls sorted p c h = Contains-permutation calls sorted c p h

fewer_calls : (calls sorted : List ℕ) → IsPermutation calls sorted → (c : ℕ) → Contains sorted c → Contains calls c
fewer_calls calls sorted p c h = Contains-permutation sorted calls c (IsPermutation-sym calls sorted p) h

crossed_too : (calls sorted : List ℕ) (v : Interval) → IsPermutation calls sorted → IsCrossed calls v →
    IsCrossed sorted v
crossed_too calls sorted v p x = (x.0, more_calls calls sorted p x.0 x.1, x.2, x.3)

fits_too : (calls sorted : List ℕ) (v : Interval) (h : Home) → IsPermutation calls sorted → Fits sorted v h →
    Fits calls v h
fits_too calls sorted v (Register r) p f = (f.0, λ x. f.1 (crossed_too calls sorted v p x))
fits_too calls sorted v (Slot s) p f = tt

clear_too : (calls sorted : List ℕ) (i : ℕ) (v : Interval) (h : Home) → IsPermutation calls sorted →
    StaysClear sorted i v h → StaysClear calls i v h
clear_too calls sorted i v (Register r) p f = λ passed low high.
    let q : IsPassed sorted v = elim passed [ inl z ↦ inl z | inr h ↦ inr (more_calls calls sorted p v.last h) ] in
    let g = f q low high in
    (g.0, g.1, λ h. g.2 (more_calls calls sorted p v.last h))
clear_too calls sorted i v (Slot s) p f = tt

relaxed_too : (live : List Interval) (calls sorted : List ℕ) → IsPermutation calls sorted → IsRelaxed live calls →
    IsRelaxed live sorted
relaxed_too live calls sorted p r =
    record {
      few = r.few;
      uncrossed = λ i v at x.
          r.uncrossed i v at (x.0, fewer_calls calls sorted p x.0 x.1, x.2, x.3);
    }

-- ---- what holds at the end

is_done : (live : List Interval) (es : List Entry) (i : ℕ) (v : Interval) → AreInOrder live es →
    slice_get live i ≡ Some v → IsDone es i
is_done live es i v o at = (record { interval = v; index = i }, o.whole i v at, refl)

pub placed : (live : List Interval) (calls sorted : List ℕ) (es : List Entry) (homes : List Home) (free_from : List ℕ)
    (slots : ℕ) → AreInOrder live es → IsPermutation calls sorted → IsScanned live sorted es homes free_from slots →
    IsPlaced live calls homes
placed live calls sorted es homes free_from slots o p s = record {
  one_each = s.one_each;
  fit = λ i v h at home. fits_too calls sorted v h p (s.suits i v h (is_done live es i v o at) at home).0;
  apart = λ i j differ v w a b. s.apart i j (is_done live es i v o a) (is_done live es j w o b) differ v w a b;
}

pub stay_clear : (live : List Interval) (calls sorted : List ℕ) (es : List Entry) (homes : List Home)
    (free_from : List ℕ) (slots : ℕ) → AreInOrder live es → IsPermutation calls sorted →
    IsScanned live sorted es homes free_from slots → (i : ℕ) → StaysClearAt live calls homes i
stay_clear live calls sorted es homes free_from slots o p s i v h at home =
    clear_too calls sorted i v h p (s.suits i v h (is_done live es i v o at) at home).1

-- what holds of the home of each interval holds of each home
each_home : (live : List Interval) (es : List Entry) (homes : List Home) (P : Home → Type 0) → AreInOrder live es →
    length homes ≡ length live → ((i : ℕ) (h : Home) → IsDone es i → slice_get homes i ≡ Some h → P h) → All P homes
each_home live es homes P o one h k d l =
    let v : Interval = record { first = 0; last = 0 } in
    h k (get_or homes k d) (is_done live es k (get_or live k v) o (slice_get-get_or live k v (omega arith)))
    (slice_get-get_or homes k d l)

slot_below : (live : List Interval) (sorted : List ℕ) (es : List Entry) (homes : List Home) (free_from : List ℕ)
    (slots : ℕ) → AreInOrder live es → IsScanned live sorted es homes free_from slots → (i : ℕ) (h : Home) →
    IsDone es i → slice_get homes i ≡ Some h → IsSlotBelow (length live) h
slot_below live sorted es homes free_from slots o s i (Register r) d at = tt
slot_below live sorted es homes free_from slots o s i (Slot k) d at =
    let l = s.slots_below i k d at in omega (arith, s.slot_count, o.one_each)

in_register : (live : List Interval) (sorted : List ℕ) (es : List Entry) (homes : List Home) (free_from : List ℕ)
    (slots : ℕ) → IsScanned live sorted es homes free_from slots → IsRelaxed live sorted → (i : ℕ) (h : Home) →
    IsDone es i → slice_get homes i ≡ Some h → IsRegister h
in_register live sorted es homes free_from slots s r i (Register k) d at = tt
in_register live sorted es homes free_from slots s r i (Slot k) d at = s.registers r i k d at

pub all_slots_below : (live : List Interval) (sorted : List ℕ) (es : List Entry) (homes : List Home)
    (free_from : List ℕ) (slots : ℕ) → AreInOrder live es → IsScanned live sorted es homes free_from slots →
    All (IsSlotBelow (length live)) homes
all_slots_below live sorted es homes free_from slots o s =
    each_home live es homes _ o s.one_each (slot_below live sorted es homes free_from slots o s)

pub all_registers : (live : List Interval) (calls sorted : List ℕ) (es : List Entry) (homes : List Home)
    (free_from : List ℕ) (slots : ℕ) → AreInOrder live es → IsPermutation calls sorted →
    IsScanned live sorted es homes free_from slots → IsRelaxed live calls → All IsRegister homes
all_registers live calls sorted es homes free_from slots o p s r =
    each_home live es homes _ o s.one_each (in_register live sorted es homes free_from slots s
    (relaxed_too live calls sorted p r))
