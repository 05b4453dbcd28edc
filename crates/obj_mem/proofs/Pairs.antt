-- Lists that agree item by item.
use Rattle.std.proofs.Common.{ℕ, zero, suc, List, [], ◌∷◌, ◌++◌, Option, Some, None}
use Rattle.std.specs.Prelude.{slice_get, slice_set}
use Rattle.obj_mem.specs.Agreement.{Paired}

module _ {A B : Type 0} (R : A → B → Type 0) where
  pub join_both : (xs : List A) (ys : List B) (us : List A) (vs : List B) → Paired R xs ys → Paired R us vs →
      Paired R (xs ++ us) (ys ++ vs)
  join_both [] [] us vs h k = k
  join_both [] (y ∷ ys) us vs h k = absurd h
  join_both (x ∷ xs) [] us vs h k = absurd h
  join_both (x ∷ xs) (y ∷ ys) us vs h k = (h.0, join_both xs ys us vs h.1 k)

  pub set_both : (i : ℕ) (xs : List A) (ys : List B) (x : A) (y : B) → Paired R xs ys → R x y →
      Paired R (slice_set xs i x) (slice_set ys i y)
  set_both i [] [] x y h r = tt
  set_both i [] (b ∷ ys) x y h r = absurd h
  set_both i (a ∷ xs) [] x y h r = absurd h
  set_both zero (a ∷ xs) (b ∷ ys) x y h r = (r, h.1)
  set_both (suc i) (a ∷ xs) (b ∷ ys) x y h r = (h.0, set_both i xs ys x y h.1 r)

  pub data Both : Option A → Option B → Type 0 where
    neither : Both None None
    both : (x : A) (y : B) → R x y → Both (Some x) (Some y)

  pub get_both : (i : ℕ) (xs : List A) (ys : List B) → Paired R xs ys → Both (slice_get xs i) (slice_get ys i)
  get_both i [] [] h = neither
  get_both i [] (y ∷ ys) h = absurd h
  get_both i (x ∷ xs) [] h = absurd h
  get_both zero (x ∷ xs) (y ∷ ys) h = both x y h.0
  get_both (suc i) (x ∷ xs) (y ∷ ys) h = get_both i xs ys h.1
