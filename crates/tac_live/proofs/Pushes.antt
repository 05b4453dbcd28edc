-- What holds of each number of a list holds of it and of one that is pushed.
use Rattle.std.proofs.Common.{◌≡◌, ℕ, zero, suc, ◌<◌, List, [], ◌∷◌, ◌++◌, take, length, Some, ◌⊎◌, inl, inr, refl, sym}
use Rattle.std.proofs.Common.{ap, subst, arith}
use Rattle.std.specs.Prelude.{slice_index, slice_get}
use Rattle.std.proofs.lemmas.Bool.{cases_lt}
use Rattle.std.proofs.lemmas.List.{get_or_append_left, get_or_push, length_push, take_at}

pub each_push : (P : ℕ → ℕ → Type 0) (xs : List ℕ) (n y : ℕ) → length xs ≡ n →
    ((k : ℕ) → k < length xs → P k (slice_index xs k)) → P n y → (k : ℕ) → k < length (xs ++ y ∷ []) →
    P k (slice_index (xs ++ y ∷ []) k)
each_push P xs n y len all one k lt = elim (cases_lt k (length xs)) [
  | inl below ↦ subst (λ m. P k m) (sym (get_or_append_left xs (y ∷ []) 0 k below)) (all k below)
  | inr above ↦
      let q : n ≡ k = omega (arith, length_push xs y) in
      let here : length xs ≡ k = omega arith in
      subst (λ m. P k m) (sym (get_or_push xs y 0 k here)) (subst (λ m. P m y) q one)
]

-- what a slice of a whole vector was changed to is what the vector then holds
pub written_back : {A : Type 0} (xs ys : List A) (n : ℕ) → length xs ≡ n → take n (xs ++ ys) ≡ xs
written_back xs ys n e = take_at xs ys n e

pub get_push : {A : Type 0} (xs : List A) (y i : A) (k : ℕ) → slice_get (xs ++ y ∷ []) k ≡ Some i →
    (slice_get xs k ≡ Some i) ⊎ ((k ≡ length xs) × (i ≡ y))
get_push [] y i zero e = inr (refl, cc)
get_push [] y i (suc k) e = absurd (cc)
get_push (x ∷ xs) y i zero e = inl e
get_push (x ∷ xs) y i (suc k) e = elim (get_push xs y i k e) [ inl o ↦ inl o | inr o ↦ inr (ap suc o.0, o.1) ]
