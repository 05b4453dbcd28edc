-- Which of some values stands at a place.
use Rattle.std.proofs.Common.{◌≡◌, ℕ, ◌+◌, ◌<◌, ◌≤◌, Bool, true, false, List, length, get_or, Some, None, refl, sym, ap}
use Rattle.std.proofs.Common.{◌∙◌, inl, inr, arith}
use Rattle.std.specs.Prelude.{position, nat_lt, nat_le, ◌&&◌, ◌⊎◌}
use Rattle.std.specs.List.{position_or_len}
use Rattle.std.proofs.lemmas.Bool.{cases_lt}
use Rattle.std.proofs.lemmas.Bool.Decides.{nat_tests}
use Rattle.std.proofs.lemmas.List.Sums.{position_or_len_is}
use Rattle.c_initializers.specs.declared.covering.Extent.{Extent}
use Rattle.c_initializers.specs.Covering.{covers_place, IsOrdered, EndBefore}

pub position-is : {X : Type 0} (p : X → Bool) (xs : List X) (i : ℕ) (d : X) → i < length xs →
    ((k : ℕ) → k < i → p (get_or xs k d) ≡ false) → p (get_or xs i d) ≡ true → position p xs ≡ Some i
position-is p xs i d l h t =
    let e : position_or_len p xs ≡ i = position_or_len_is p xs i d (omega arith) h (λ _. t) in
    let f : nat_lt i (length xs) ≡ true = grind (arith, nat_tests) in
    rw (e, f) refl

pub position-none : {X : Type 0} (p : X → Bool) (xs : List X) (d : X) →
    ((k : ℕ) → k < length xs → p (get_or xs k d) ≡ false) → position p xs ≡ None
position-none p xs d h =
    let e : position_or_len p xs ≡ length xs =
    position_or_len_is p xs (length xs) d (omega arith) h (λ l. absurd (omega arith)) in
    let f : nat_lt (length xs) (length xs) ≡ false = grind (arith, nat_tests) in
    rw (e, f) refl

ends_before : (x : Extent) (at : ℕ) → x.to ≤ at → covers_place at x ≡ false
ends_before x at h = grind (arith, nat_tests)

begins_behind : (x : Extent) (at : ℕ) → at < x.from → covers_place at x ≡ false
begins_behind x at h = grind (arith, nat_tests)

pub found-here : (es : List Extent) (k at : ℕ) (d : Extent) → EndBefore es k at → k < length es →
    (get_or es k d).from ≤ at → at < (get_or es k d).to → position (covers_place at) es ≡ Some k
found-here es k at d b l f t =
    let c : covers_place at (get_or es k d) ≡ true = grind (arith, nat_tests) in
    position-is (covers_place at) es k d l (λ j h. ends_before (get_or es j d) at (b j d h)) c

pub found-none : (es : List Extent) (k at : ℕ) (d : Extent) → IsOrdered es → EndBefore es k at →
    (k < length es → at < (get_or es k d).from) → position (covers_place at) es ≡ None
found-none es k at d o b f =
    position-none (covers_place at) es d (λ j l.
    elim (cases_lt j k) as (λ _. covers_place at (get_or es j d) ≡ false) [
      | inl h ↦ ends_before (get_or es j d) at (b j d h)
      | inr h ↦ begins_behind (get_or es j d) at (further j l h (cases_lt k j))
    ])
  where
    further : (j : ℕ) → j < length es → k ≤ j → (k < j) ⊎ (j ≤ k) → at < (get_or es j d).from
    further j l h (inl i) =
        let a = o.apart k j d i l in
        let c = o.forward k d (omega arith) in
        let g = f (omega arith) in
        omega (arith, a, c, g)
    further j l h (inr i) = let e : j ≡ k = omega arith in rw e (f (omega arith))

-- one more in order
pub record IsOrderedTo (es : List Extent) (n end : ℕ) : Type 0 where
  pub apart : (j k : ℕ) (d : Extent) → j < k → k < n → (get_or es j d).to ≤ (get_or es k d).from
  pub forward : (k : ℕ) (d : Extent) → k < n → (get_or es k d).from ≤ (get_or es k d).to
  pub below : (j : ℕ) (d : Extent) → j < n → (get_or es j d).to ≤ end
