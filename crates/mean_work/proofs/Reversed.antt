-- Lists whose last item is on top.
use Rattle.std.proofs.Common.{◌≡◌, ℕ, zero, suc, ◌-◌, ◌<◌, ◌≤◌, List, [], ◌∷◌, ◌++◌, length, refl, sym, ap, ◌∙◌, arith}
use Rattle.std.specs.Prelude.{reverse, slice_set}
use Rattle.std.proofs.lemmas.List.{length-reverse, reverse-append}
use Rattle.mean_work.specs.Stacks.{with_top}

pub reverse_push : {A : Type 0} (xs : List A) (x : A) → reverse (xs ++ x ∷ []) ≡ x ∷ reverse xs
reverse_push xs x = reverse-append xs (x ∷ [])

on_top : {A : Type 0} (x : A) (ys zs : List A) → 0 < length ys → with_top x (ys ++ zs) ≡ with_top x ys ++ zs
on_top x [] zs h = absurd (omega (arith, h))
on_top x (y ∷ ys) zs h = refl

pub reverse_set : {A : Type 0} (xs : List A) (n : ℕ) (x : A) → length xs ≡ suc n →
    reverse (slice_set xs n x) ≡ with_top x (reverse xs)
reverse_set [] n x h = absurd (omega (arith, h))
reverse_set (y ∷ []) zero x h = refl
reverse_set (y ∷ []) (suc n) x h = absurd (omega (arith, h))
reverse_set (y ∷ z ∷ xs) zero x h = absurd (omega (arith, h))
reverse_set (y ∷ z ∷ xs) (suc n) x h =
    let rest = reverse_set (z ∷ xs) n x (omega (arith, h)) in
    let some : 0 < length (reverse (z ∷ xs)) = rw (length-reverse (z ∷ xs)) (omega arith) in
    reverse-append (y ∷ []) (slice_set (z ∷ xs) n x)
    ∙ ap (λ l. l ++ y ∷ []) rest
    ∙ sym (on_top x (reverse (z ∷ xs)) (y ∷ []) some)
    ∙ sym (ap (with_top x) (reverse-append (y ∷ []) (z ∷ xs)))

pub replaced : {A : Type 0} (xs : List A) (x : A) → 0 < length xs →
    reverse (slice_set xs (length xs - 1) x) ≡ with_top x (reverse xs)
replaced xs x h = reverse_set xs (length xs - 1) x (omega (arith, h))

pub none_replaced : {A : Type 0} (xs : List A) (x : A) → length xs ≤ 0 → reverse xs ≡ with_top x (reverse xs)
none_replaced [] x h = refl
none_replaced (y ∷ xs) x h = absurd (omega (arith, h))
