-- What follows from a step of typing that goes on.
use Rattle.std.proofs.Common.{◌≡◌, ℕ, zero, suc, Bool, true, false, List, [], ◌∷◌, length, Option, Some, None, Result}
use Rattle.std.proofs.Common.{Ok, Err, refl, ap, subst, inl, inr, ◌⊎◌, ⊎_elim, length-set}
use Rattle.std.specs.Prelude.{slice_get, if◌then◌else◌}
use Rattle.ck_base.specs.declared.positions.Pos.{Pos}
use Rattle.c_tree.specs.Scopes.{State, Fault, Doing, give, need, some_or, continued, ◌>>=◌, ◌>>◌, changed_at}
use Rattle.c_tree.specs.Scopes.{with_changed}

pub result_or : {A : Type 0} → A → Result A Fault → A
result_or d (Ok x) = x
result_or d (Err e) = d

pub ok_is : {A : Type 0} (a b : A) → ◌≡◌ {A = Result A Fault} (Ok a) (Ok b) → a ≡ b
unfolding result_or
ok_is a b e = ap (result_or a) e

Refused : {A : Type 0} → Result A Fault → Type 0
Refused (Ok x) = ⊥
Refused (Err e) = Unit {0}

pub refused : {A : Type 0} {P : Type 0} (f : Fault) (x : A) → ◌≡◌ {A = Result A Fault} (Err f) (Ok x) → P
unfolding Refused
refused f x e = absurd (subst Refused e tt)

pub given : {A : Type 0} (P : A × State → Type 0) (a : A) (s : State) (x : A × State) → give a s ≡ Ok x → P (a, s) → P x
given P a s x e p = subst P (ok_is (a, s) x e) p

pub needed : {B : Type 0} (b : Bool) (code : ℕ) (place : Pos) (d : Doing B) (s : State) (x : B × State) →
    (need b code place >> d) s ≡ Ok x → (b ≡ true) × (d s ≡ Ok x)
needed true code place d s x e = (refl, e)
needed false code place d s x e = refused _ x e

pub found : {A B : Type 0} (o : Option A) (code : ℕ) (place : Pos) (f : A → Doing B) (s : State) (x : B × State) →
    (some_or o code place >>= f) s ≡ Ok x → (a : A) × (o ≡ Some a) × (f a s ≡ Ok x)
found (Some a) code place f s x e = (a, refl, e)
found None code place f s x e = refused _ x e

pub first_then : {A B : Type 0} (r : Result (A × State) Fault) (f : A → Doing B) (x : B × State) →
    continued r f ≡ Ok x → (y : A × State) × (r ≡ Ok y) × (f y.0 y.1 ≡ Ok x)
first_then (Ok y) f x e = (y, refl, e)
first_then (Err k) f x e = refused k x e

-- a test in front of a longer step
pub needed_in : {A B : Type 0} (b : Bool) (code : ℕ) (place : Pos) (d : Doing A) (f : A → Doing B) (s : State)
    (x : B × State) → ((need b code place >> d) >>= f) s ≡ Ok x → (b ≡ true) × ((d >>= f) s ≡ Ok x)
needed_in true code place d f s x e = (refl, e)
needed_in false code place d f s x e = refused _ x e

-- one way or the other
pub either : {A : Type 0} (b : Bool) (d e : Doing A) (s : State) (x : A × State) (P : Type 0) →
    (b ≡ true → d s ≡ Ok x → P) → (b ≡ false → e s ≡ Ok x → P) → (if b then d else e) s ≡ Ok x → P
either true d e s x P f g h = f refl h
either false d e s x P f g h = g refl h

-- ---- an item that is changed

changed_with : {A : Type 0} (f : A → A) (o : Option A) (y : A) (xs : List A) (k : ℕ) →
    with_changed f o (y ∷ xs) (suc k) ≡ y ∷ with_changed f o xs k
changed_with f None y xs k = refl
changed_with f (Some x) y xs k = refl

pub changed-cons : {A : Type 0} (f : A → A) (y : A) (xs : List A) (k : ℕ) →
    changed_at f (y ∷ xs) (suc k) ≡ y ∷ changed_at f xs k
changed-cons f y xs k = changed_with f (slice_get xs k) y xs k

changed_length : {A : Type 0} (f : A → A) (o : Option A) (xs : List A) (k : ℕ) →
    length (with_changed f o xs k) ≡ length xs
changed_length f None xs k = refl
changed_length f (Some x) xs k = length-set xs k (f x)

pub length-changed : {A : Type 0} (f : A → A) (xs : List A) (k : ℕ) → length (changed_at f xs k) ≡ length xs
length-changed f xs k = changed_length f (slice_get xs k) xs k

-- what stands at a number of the changed list
pub changed_from : {A : Type 0} (f : A → A) (xs : List A) (k j : ℕ) (y : A) → slice_get (changed_at f xs k) j ≡ Some y →
    (x : A) × (slice_get xs j ≡ Some x) × ((y ≡ x) ⊎ ((j ≡ k) × (y ≡ f x)))
changed_from f [] k j y e = absurd cc
changed_from f (x ∷ xs) zero zero y e = (x, refl, inr (refl, cc))
changed_from f (x ∷ xs) zero (suc j) y e = (y, e, inl refl)
changed_from f (x ∷ xs) (suc k) zero y e = (y, rw changed-cons at e, inl refl)
changed_from f (x ∷ xs) (suc k) (suc j) y e =
    let r = changed_from f xs k j y (rw changed-cons at e) in
    (r.0, r.1, ⊎_elim (λ a. inl a) (λ b. inr (ap suc b.0, b.1)) r.2)

pub changed_to : {A : Type 0} (f : A → A) (xs : List A) (k j : ℕ) (x : A) → slice_get xs j ≡ Some x →
    (y : A) × (slice_get (changed_at f xs k) j ≡ Some y) × ((y ≡ x) ⊎ ((j ≡ k) × (y ≡ f x)))
changed_to f [] k j x e = absurd cc
changed_to f (w ∷ xs) zero zero x e = (f w, refl, inr (refl, cc))
changed_to f (w ∷ xs) zero (suc j) x e = (x, e, inl refl)
changed_to f (w ∷ xs) (suc k) zero x e = (x, rw changed-cons e, inl refl)
changed_to f (w ∷ xs) (suc k) (suc j) x e =
    let r = changed_to f xs k j x e in
    (r.0, rw changed-cons r.1, ⊎_elim (λ a. inl a) (λ b. inr (ap suc b.0, b.1)) r.2)
