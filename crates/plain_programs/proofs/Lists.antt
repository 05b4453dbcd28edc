-- Items of lists.
use Rattle.std.proofs.Common.{◌≡◌, ℕ, zero, suc, ◌+◌, ◌<◌, List, [], ◌∷◌, length, take, drop, map, Some, refl, ap, ◌∙◌}
use Rattle.std.proofs.Common.{arith}
use Rattle.std.specs.Prelude.{slice_get}
use Rattle.std.proofs.lemmas.Option.{same_Some}
use Rattle.c_tree.specs.Terms.{numbers_from}

pub map_kept : {A B : Type 0} (g : B → B) (f : A → B) (xs : List A) →
    ((j : ℕ) (x : A) → slice_get xs j ≡ Some x → g (f x) ≡ f x) → map g (map f xs) ≡ map f xs
map_kept g f [] h = refl
map_kept g f (x ∷ xs) h =
    ap (λ y. y ∷ map g (map f xs)) (h 0 x refl)
    ∙ ap (λ ys. f x ∷ ys) (map_kept g f xs (λ j y e. h (suc j) y e))

pub map_same : {A : Type 0} (g : A → A) (xs : List A) → ((j : ℕ) (x : A) → slice_get xs j ≡ Some x → g x ≡ x) →
    map g xs ≡ xs
map_same g [] h = refl
map_same g (x ∷ xs) h = ap (λ y. y ∷ map g xs) (h 0 x refl) ∙ ap (λ ys. x ∷ ys) (map_same g xs (λ j y e. h (suc j) y e))

pub from_map : {A B : Type 0} (f : A → B) (xs : List A) (j : ℕ) (y : B) → slice_get (map f xs) j ≡ Some y →
    (x : A) × (slice_get xs j ≡ Some x) × (f x ≡ y)
from_map f [] j y e = absurd cc
from_map f (x ∷ xs) zero y e = (x, refl, same_Some (f x) y e)
from_map f (x ∷ xs) (suc j) y e = from_map f xs j y e

pub from_take : {A : Type 0} (n : ℕ) (xs : List A) (j : ℕ) (x : A) → slice_get (take n xs) j ≡ Some x →
    (j < n) × (slice_get xs j ≡ Some x)
from_take zero xs j x e = absurd cc
from_take (suc n) [] j x e = absurd cc
from_take (suc n) (y ∷ xs) zero x e = (omega arith, e)
from_take (suc n) (y ∷ xs) (suc j) x e =
    let h = from_take n xs j x e in let lt : j < n = h.0 in (omega arith, h.1)

pub each_dropped : {A : Type 0} (P : A → Type 0) (n : ℕ) (xs : List A) →
    ((j : ℕ) (x : A) → slice_get xs j ≡ Some x → P x) → (j : ℕ) (x : A) → slice_get (drop n xs) j ≡ Some x → P x
each_dropped P zero xs h j x e = h j x e
each_dropped P (suc n) [] h j x e = absurd cc
each_dropped P (suc n) (y ∷ xs) h j x e = each_dropped P n xs (λ i z q. h (suc i) z q) j x e

pub numbers_in_order : (n : ℕ) (ks : List ℕ) → ((j k : ℕ) → slice_get ks j ≡ Some k → k ≡ n + j) →
    ks ≡ numbers_from n (length ks)
numbers_in_order n [] h = refl
numbers_in_order n (a ∷ ks) h =
    let first : a ≡ n = h 0 a refl ∙ omega arith in
    ap (λ b. b ∷ ks) first
    ∙ ap (λ zs. n ∷ zs) (numbers_in_order (n + 1) ks (λ j k e. h (suc j) k e ∙ omega arith))
