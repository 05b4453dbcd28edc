-- The area that has an address, by its place among the areas.
use Rattle.std.proofs.Common.{◌≡◌, ℕ, zero, suc, ◌+◌, ◌<◌, ◌≤◌, leb, Bool, true, false, ltb, List, [], ◌∷◌, length}
use Rattle.std.proofs.Common.{get_or, set, Some, None, refl, sym, ap, ◌∙◌, arith, inl, inr}
use Rattle.std.proofs.lemmas.Bool.{cases_Bool, ltb-true, ltb-false, lt-ltb, leb-true, and_parts, false_from_ne_true}
use Rattle.std.proofs.lemmas.List.Quantifiers.{position-Some}
use Rattle.std.proofs.lemmas.List.Sums.{fails_before_first}
use Rattle.std.specs.List.{position_or_len}
use Rattle.tag_mem.specs.Areas.{Area, AreasFrom, IsMemory, end_of, has, area_at, is_inside}
use Rattle.tag_mem.specs.Memory.{place_of, area_with, written, fits_inside}

-- the first area that has the address
first_found : (m : List Area) (at i : ℕ) (a : Area) → i < length m → has (get_or m i a) at ≡ true →
    ((k : ℕ) → k < i → has (get_or m k a) at ≡ false)
    → (area_at m at ≡ Some (get_or m i a)) ×
    ((new : List ℕ) (tag : Bool) → written m at new tag ≡ set m i (area_with (get_or m i a) at new tag))
unfolding written
first_found [] at i a lt there before = absurd (omega arith)
first_found (b ∷ m) at zero a lt there before = (rw there refl, λ new tag. rw there refl)
first_found (b ∷ m) at (suc i) a lt there before =
    let not_here : has b at ≡ false = before 0 (omega arith) in
    let behind = first_found m at i a (omega arith) there (λ k h. before (suc k) (omega arith)) in
    (rw not_here behind.0, λ new tag. rw not_here (ap (λ (areas : List Area). b ∷ areas) (behind.1 new tag)))

none_found : (m : List Area) (at : ℕ) → ((k : ℕ) (d : Area) → k < length m → has (get_or m k d) at ≡ false)
    → (area_at m at ≡ None) × (is_inside m at ≡ false) × ((new : List ℕ) (tag : Bool) → written m at new tag ≡ m)
unfolding written is_inside
none_found [] at h = (refl, refl, λ new tag. refl)
none_found (a ∷ m) at h =
    let not_here : has a at ≡ false = h 0 a (omega arith) in
    let behind = none_found m at (λ k d lt. h (suc k) d (omega arith)) in (
      rw not_here behind.0,
      rw not_here behind.1,
      λ new tag. rw not_here (ap (λ (areas : List Area). a ∷ areas) (behind.2 new tag)),
    )

fits_inside-found : (m : List Area) (at n : ℕ) (a : Area) → area_at m at ≡ Some a →
    fits_inside m at n ≡ leb (at + n) (end_of a)
unfolding fits_inside
fits_inside-found m at n a e = rw e refl

fits_inside-none : (m : List Area) (at n : ℕ) → area_at m at ≡ None → fits_inside m at n ≡ false
unfolding fits_inside
fits_inside-none m at n e = rw e refl

-- what is known of the area at the place of an address
pub record IsAt (m : List Area) (at i : ℕ) (a : Area) : Type 0 where
  pub found : area_at m at ≡ Some a
  pub here : has a at ≡ true
  pub fits : (n : ℕ) → leb (at + n) (end_of a) ≡ fits_inside m at n
  pub writes : (new : List ℕ) (tag : Bool) → set m i (area_with a at new tag) ≡ written m at new tag

-- the area at the place of an address, read from the same areas under another name
pub at_place : (items m : List Area) (at i : ℕ) (a : Area) → items ≡ m → Some i ≡ place_of m at → a ≡ get_or items i a →
    IsAt items at i a
at_place items m at i a same place is =
    let place' : place_of items at ≡ Some i = ap (λ x. place_of x at) same ∙ sym place in
    let p = position-Some (λ (x : Area). has x at) items i a place' in
    let first = first_found items at i a p.0 p.1 p.2 in
    let found : area_at items at ≡ Some a = first.0 ∙ ap (λ (x : Area). Some x) (sym is) in
    record {
      found = found;
      here = rw is p.1;
      fits = λ n. sym (fits_inside-found items at n a found);
      writes = λ new tag. ap (λ (x : Area). set items i (area_with x at new tag)) is ∙ sym (first.1 new tag);
    }

no_place_behind : (m : List Area) (at : ℕ) → place_of m at ≡ None →
    length m ≤ position_or_len (λ (x : Area). has x at) m
no_place_behind m at e =
    let first : ℕ = position_or_len (λ (x : Area). has x at) m in
    elim (cases_Bool (ltb first (length m))) [
      | inl t ↦ let found : None ≡ Some first = sym e ∙ rw t refl in cc
      | inr f ↦ ltb-false first (length m) f
    ]

-- no area has an address that has no place
pub record IsNowhere (m : List Area) (at : ℕ) : Type 0 where
  pub found : area_at m at ≡ None
  pub inside : is_inside m at ≡ false
  pub fits : (n : ℕ) → fits_inside m at n ≡ false
  pub writes : (new : List ℕ) (tag : Bool) → written m at new tag ≡ m

pub no_place : (m : List Area) (at : ℕ) → None ≡ place_of m at → IsNowhere m at
no_place m at e =
    let behind = no_place_behind m at (sym e) in
    let none = none_found m at (λ k d lt. fails_before_first (λ (x : Area). has x at) m k d (omega (arith, behind))) in
    record { found = none.0; inside = none.1; fits = λ n. fits_inside-none m at n none.0; writes = none.2 }

-- ---- areas do not overlap

starts_behind : (low : ℕ) (m : List Area) (i : ℕ) (d : Area) → AreasFrom low m → i < length m →
    low ≤ (get_or m i d).base
starts_behind low [] i d h lt = absurd (omega arith)
starts_behind low (a ∷ m) zero d h lt = h.0
starts_behind low (a ∷ m) (suc i) d h lt =
    let behind = starts_behind (end_of a) m i d h.2 (omega arith) in
    omega (arith, h.0, behind)

next : (i : ℕ) → 1 + i ≡ suc i
next i = omega arith

only_from : (low : ℕ) (m : List Area) (at i : ℕ) (d : Area) → AreasFrom low m → i < length m →
    has (get_or m i d) at ≡ true
    → position_or_len (λ (x : Area). has x at) m ≡ i
only_from low [] at i d h lt here = absurd (omega arith)
only_from low (a ∷ m) at zero d h lt here = rw here refl
only_from low (a ∷ m) at (suc i) d h lt here =
    let start = leb-true (get_or m i d).base at (and_parts _ _ here).0 in
    let behind = starts_behind (end_of a) m i d h.2 (omega arith) in
    let not_here : has a at ≡ false =
    false_from_ne_true (has a at) (λ there.
    omega (arith, start, behind, ltb-true at (end_of a) (and_parts _ _ there).1)) in
    rw not_here (ap (λ (k : ℕ). 1 + k) (only_from (end_of a) m at i d h.2 (omega arith) here) ∙ next i)

-- the only place of an address
pub only_place : (m : List Area) (at i : ℕ) (d : Area) → IsMemory m → i < length m → has (get_or m i d) at ≡ true →
    place_of m at ≡ Some i
unfolding IsMemory
only_place m at i d h lt here = rw (only_from 0 m at i d h lt here, lt-ltb i (length m) lt) refl
