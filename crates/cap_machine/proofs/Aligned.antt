-- An access that passes the check is aligned.
use Rattle.std.proofs.Common.{◌≡◌, ℕ, ◌%◌, Bool, true, false, cond, eqb, List, [], ◌∷◌, ◌++◌, Option, Some, None}
use Rattle.std.proofs.Common.{Result, Ok, Err, refl, sym, subst}
use Rattle.std.specs.Prelude.{find, not}
use Rattle.std.proofs.lemmas.Bool.{eqb-true, false≢true}
use Rattle.cap_ops.specs.declared.capability.Cap.{Cap}
use Rattle.cap_ops.specs.declared.access.Access.{Access}
use Rattle.cap_ops.specs.declared.access.Cause.{Cause}
use Rattle.cap_ops.specs.declared.access.Cause.TheVariants as cause
use Rattle.cap_ops.specs.Access.{size, fails, in_order, answer, checked}

first_seven : List Cause
first_seven = cause.Tag ∷ cause.Sealed ∷ cause.Load ∷ cause.Store ∷ cause.StoreCap ∷ cause.Execute ∷ cause.Bounds ∷ []

passed : (b : Bool) (x : Cause) (rest : Option Cause) → cond b (Some x) rest ≡ None → rest ≡ None
passed true x rest h = absurd (let e : Some x ≡ None = h in cc)
passed false x rest h = h

last : (b : Bool) (x : Cause) → cond b (Some x) None ≡ None → b ≡ false
last true x h = absurd (let e : Some x ≡ None = h in cc)
last false x h = refl

fails_last : (p : Cause → Bool) (xs : List Cause) (y : Cause) → find p (xs ++ y ∷ []) ≡ None → p y ≡ false
fails_last p [] y h = last (p y) y h
fails_last p (x ∷ xs) y h = fails_last p xs y (passed (p x) x (find p (xs ++ y ∷ [])) h)

none_found : (at x : ℕ) (o : Option Cause) → answer at o ≡ Ok x → (o ≡ None) × (at ≡ x)
none_found at x None h = (refl, let e : ◌≡◌ {A = Result ℕ Cause} (Ok at) (Ok x) = h in cc)
none_found at x (Some e) h = absurd (let i : ◌≡◌ {A = Result ℕ Cause} (Err e) (Ok x) = h in cc)

not_false : (b : Bool) → not b ≡ false → b ≡ true
not_false true h = refl
not_false false h = absurd (false≢true (sym h))

pub aligned : (c : Cap) (at : ℕ) (a : Access) (x : ℕ) → Ok x ≡ checked c at a → x % size a ≡ 0
unfolding checked first_seven
aligned c at a x h =
    let found = none_found at x (find (fails c at a) in_order) (sym h) in
    let even : (at % size a) ≡ 0 =
    eqb-true (at % size a) 0 (not_false (eqb (at % size a) 0)
    (fails_last (fails c at a) first_seven cause.Align found.0)) in
    subst (λ y. y % size a ≡ 0) found.1 even
