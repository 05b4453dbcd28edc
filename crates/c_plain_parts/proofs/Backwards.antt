-- A list from the last item to the first.
use Rattle.std.proofs.Common.{◌≡◌, ℕ, zero, suc, ◌<◌, ◌≤◌, List, [], ◌∷◌, length, drop, Some, refl, arith}
use Rattle.std.specs.Prelude.{slice_get}

pub at_some : {A : Type 0} (xs : List A) (k : ℕ) → k < length xs → (x : A) × (slice_get xs k ≡ Some x)
at_some [] k lt = absurd (omega arith)
at_some (x ∷ xs) zero lt = (x, refl)
at_some (x ∷ xs) (suc k) lt = at_some xs k (omega arith)

pub drop_step : {A : Type 0} (xs : List A) (k : ℕ) (x : A) → slice_get xs k ≡ Some x → drop k xs ≡ x ∷ drop (suc k) xs
drop_step [] k x e = absurd cc
drop_step (y ∷ xs) zero x e = let i : y ≡ x = cc in rw i refl
drop_step (y ∷ xs) (suc k) x e = drop_step xs k x e

pub drop_past : {A : Type 0} (xs : List A) (k : ℕ) → length xs ≤ k → drop k xs ≡ []
drop_past [] zero le = refl
drop_past [] (suc k) le = refl
drop_past (x ∷ xs) zero le = absurd (omega arith)
drop_past (x ∷ xs) (suc k) le = drop_past xs k (omega arith)
