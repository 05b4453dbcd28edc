-- What stands behind the top of a list, and a list of which one item is set.
use Rattle.std.proofs.Common.{◌≡◌, ℕ, zero, suc, List, [], ◌∷◌, refl, ap}
use Rattle.std.specs.Prelude.{map, slice_set}
use Rattle.obj_mem.specs.Values.{Value}
use Rattle.cheri_c_sem.specs.Meaning.{first_of, second_of}
use Rattle.mean_steps.specs.Machine.{behind}

pub map_behind : {A B : Type 0} (f : A → B) (xs : List A) → map f (behind xs) ≡ behind (map f xs)
map_behind f [] = refl
map_behind f (x ∷ xs) = refl

pub second_behind : {A : Type 0} (f : A → Value) (xs : List A) → first_of (map f (behind xs)) ≡ second_of (map f xs)
second_behind f [] = refl
second_behind f (x ∷ xs) = refl

pub map_set : {A B : Type 0} (f : A → B) (xs : List A) (k : ℕ) (x : A) →
    map f (slice_set xs k x) ≡ slice_set (map f xs) k (f x)
map_set f [] k x = refl
map_set f (y ∷ ys) zero x = refl
map_set f (y ∷ ys) (suc k) x = ap (λ l. f y ∷ l) (map_set f ys k x)
