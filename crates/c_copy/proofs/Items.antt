-- Lists by their lengths, and facts of each item of a list.
use Rattle.std.proofs.Common.{◌≡◌, ℕ, zero, suc, List, [], ◌∷◌, ◌++◌, length, Some, refl}
use Rattle.std.proofs.Common.{◌⊎◌, inl, inr, ⊎_elim, arith}
use Rattle.std.specs.Prelude.{slice_get}

pub no_items : (xs : List ℕ) → length xs ≡ 0 → xs ≡ []
no_items [] e = refl
no_items (x ∷ xs) e = absurd (omega arith)

pub get-push : {A : Type 0} (xs : List A) (y : A) (k : ℕ) (x : A) → slice_get (xs ++ y ∷ []) k ≡ Some x →
    (slice_get xs k ≡ Some x) ⊎ ((k ≡ length xs) × (y ≡ x))
get-push [] y zero x e = inr (refl, cc)
get-push [] y (suc k) x e = absurd cc
get-push (z ∷ xs) y zero x e = inl e
get-push (z ∷ xs) y (suc k) x e =
    ⊎_elim (λ h. inl h) (λ h. inr (let i : k ≡ length xs = h.0 in omega arith, h.1)) (get-push xs y k x e)
