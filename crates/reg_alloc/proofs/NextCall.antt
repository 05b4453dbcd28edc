-- The next of some numbers in ascending order.
use Rattle.std.proofs.Common.{ℕ, ◌≡◌, ◌<◌, ◌≤◌, ◌↔◌, ◌⊎◌, List, length, get_or, refl, sym, ◌∙◌, ap, inl, inr, arith}
use Rattle.std.specs.Prelude.{true, false, IsTrue, Option, Some, None, Result, Ok, Err, Contains, slice_get, nat_lt}
use Rattle.std.specs.Prelude.{nat_le, is_ok}
use Rattle.std.specs.Option.{option_copied}
use Rattle.std.specs.Ordering.{nat_cmp}
use Rattle.std.specs.Slice.{IsGetResult}
use Rattle.std.specs.List.Sorted.{IsNonDecreasing, IsPartitionPoint, IsBinarySearchResult}
use denote.Ref.{Bor}
use Rattle.std.proofs.lemmas.Bool.{cases_lt, ltb-true, leb-true, leb-false, lt-ltb, false≢true}
use Rattle.std.proofs.lemmas.Option.{slice_get-get_or, slice_get_past}
use Rattle.std.proofs.lemmas.List.{get_or_default}
use Rattle.std.proofs.lemmas.List.Elements.{Contains-get_or}
use Rattle.std.proofs.lemmas.List.Sorted.{searched}
use Rattle.reg_alloc.specs.declared.intervals.Interval.{Interval}
use Rattle.reg_alloc.specs.Calls.{IsNextAbove}
use Rattle.reg_alloc.specs.Crossing.{IsCrossed}

-- what stands before the place is at most n, and what stands from it on is above n
before_place : (xs : List ℕ) (n i k : ℕ) → IsPartitionPoint (λ y. nat_le y n ≡ true) (λ y. nat_le y n ≡ false) xs i →
    k < i → (d : ℕ) → get_or xs k d ≤ n
before_place xs n i k p l d = leb-true _ _ (p.0 k d (omega arith) l)

from_place : (xs : List ℕ) (n i k : ℕ) → IsPartitionPoint (λ y. nat_le y n ≡ true) (λ y. nat_le y n ≡ false) xs i →
    i ≤ k → k < length xs → (d : ℕ) → n < get_or xs k d
from_place xs n i k p g l d = leb-false _ _ (p.1 k d g l)

next_at : (xs : List ℕ) (n i : ℕ) → IsNonDecreasing xs →
    IsPartitionPoint (λ y. nat_le y n ≡ true) (λ y. nat_le y n ≡ false) xs i → (i < length xs) ⊎ (length xs ≤ i) →
    IsNextAbove xs n (slice_get xs i)
next_at xs n i up p (inl l) =
    rw (slice_get-get_or xs i 0 l) (
      Contains-get_or xs i 0 l,
      from_place xs n i i p (omega arith) l 0,
      λ c has low. least c has low (cases_lt has.0 i),
    )
  where
    least : (c : ℕ) (has : Contains xs c) → n < c → (has.0 < i) ⊎ (i ≤ has.0) → get_or xs i 0 ≤ c
    least c has low (inl b) = let e = has.2 in let h = before_place xs n i has.0 p b c in absurd (omega arith)
    least c has low (inr a) =
        let e = has.2 in let h = up i has.0 c a has.1 in let g = get_or_default xs i c 0 l in omega arith
next_at xs n i up p (inr g) =
    rw (slice_get_past xs i g) (λ c has. let e = has.2 in
    let h = before_place xs n i has.0 p (omega (arith, has.1)) c in omega arith)

item_is : (xs : List ℕ) (i : ℕ) (r : Option (Bor ℕ)) → IsGetResult xs i i r → option_copied r ≡ slice_get xs i
item_is xs i None h = sym (slice_get_past xs i h.3)
item_is xs i (Some x) h = ap Some (h.3.1 0) ∙ sym (slice_get-get_or xs i 0 h.3.0)

pub next_above : (xs : List ℕ) (n i : ℕ) (r : Option (Bor ℕ)) → IsNonDecreasing xs →
    IsPartitionPoint (λ y. nat_le y n ≡ true) (λ y. nat_le y n ≡ false) xs i → IsGetResult xs i i r →
    IsNextAbove xs n (option_copied r)
next_above xs n i r up p item = rw (item_is xs i r item) (next_at xs n i up p (cases_lt i (length xs)))

not_there : (xs : List ℕ) (n i : ℕ) → ((k : ℕ) → k < i → get_or xs k 0 < n) →
    ((k : ℕ) → i ≤ k → k < length xs → n < get_or xs k 0) → Contains xs n → ⊥
not_there xs n i below above has =
    let e = has.2 in
    let g = get_or_default xs has.0 n 0 has.1 in
    elim (cases_lt has.0 i) [
      | inl l ↦ let b = below has.0 l in omega arith
      | inr m ↦ let a = above has.0 m has.1 in
          omega arith
    ]

pub has_iff : (xs : List ℕ) (n : ℕ) (r : Result ℕ ℕ) → IsNonDecreasing xs →
    IsBinarySearchResult (λ y. nat_cmp y n) xs r → IsTrue (is_ok r) ↔ Contains xs n
has_iff xs n (Ok i) up found =
    let h = searched xs n (Ok i) found (λ i j. up i j 0) in
    (λ t. (i, h.0, get_or_default xs i n 0 h.0 ∙ h.1), λ has. refl)
has_iff xs n (Err i) up found =
    let h = searched xs n (Err i) found (λ i j. up i j 0) in
    (λ f. absurd (false≢true f), λ has. absurd (not_there xs n i h.1 h.2 has))

-- the test of the next call behind an interval's first instruction
pub crossed_iff : (xs : List ℕ) (v : Interval) (m : ℕ) → IsNextAbove xs v.first (Some m) → IsTrue (nat_lt m v.last) ↔
    IsCrossed xs v
crossed_iff xs v m next = (
  λ t. (m, next.0, next.1, ltb-true m v.last t),
  λ x. lt-ltb m v.last (let l = next.2 x.0 x.1 x.2 in omega (arith, x.3)),
)

pub uncrossed : (xs : List ℕ) (v : Interval) → IsNextAbove xs v.first None → IsCrossed xs v → ⊥
uncrossed xs v next x = let l = next x.0 x.1 in omega (arith, x.2)
