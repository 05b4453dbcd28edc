-- Names in force, of which the latest stands last in the list that keeps them.
use Rattle.std.proofs.Common.{◌≡◌, ℕ, ◌+◌, ◌-◌, ◌<◌, ◌≤◌, Bool, true, false, List, [], ◌∷◌, ◌++◌, length, reverse, map}
use Rattle.std.proofs.Common.{take, drop, refl, ap, sym, ◌∙◌, arith, length-drop, length-append}
use Rattle.std.proofs.Common.{append-nil as append_nil}
use Rattle.std.specs.Prelude.{◌||◌}
use Rattle.std.specs.List.{list_any}
use Rattle.std.proofs.lemmas.List.{reverse-append, reverse-reverse, map-append, length-reverse, length-map, take-map}
use Rattle.std.proofs.lemmas.List.{drop-map, take-append-drop, take_all, drop_all, drop-drop}
use Rattle.std.proofs.Math.Seq.{take-append_seam, drop-append_seam}
use Rattle.std.proofs.lemmas.List.Folds.{list_any-append}

pub reversed_push : {A B : Type 0} (f : A → B) (xs : List A) (x : A) →
    reverse (map f (xs ++ (x ∷ []))) ≡ f x ∷ reverse (map f xs)
reversed_push f xs x = ap reverse (map-append f xs (x ∷ [])) ∙ reverse-append (map f xs) (f x ∷ [])

pub reversed_length : {A B : Type 0} (f : A → B) (xs : List A) → length (reverse (map f xs)) ≡ length xs
reversed_length f xs = length-reverse (map f xs) ∙ length-map xs f

or_nil : (a : Bool) → (a || false) ≡ a
or_nil true = refl
or_nil false = refl

or_swap : (a b : Bool) → (a || b) ≡ (b || a)
or_swap true true = refl
or_swap true false = refl
or_swap false true = refl
or_swap false false = refl

reverse_cons : {B : Type 0} (y : B) (ys : List B) → reverse (y ∷ ys) ≡ reverse ys ++ (y ∷ [])
reverse_cons y ys = reverse-append (y ∷ []) ys

pub reversed_any : {A B : Type 0} (p : B → Bool) (f : A → B) (xs : List A) →
    list_any p (reverse (map f xs)) ≡ list_any (λ x. p (f x)) xs
reversed_any p f [] = refl
reversed_any p f (x ∷ xs) =
    ap (λ v. list_any p v) (reverse_cons (f x) (map f xs)) ∙ list_any-append p (reverse (map f xs)) (f x ∷ [])
    ∙ ap (λ v. v || (p (f x) || false)) (reversed_any p f xs) ∙ or_swap (list_any (λ x. p (f x)) xs) (p (f x) || false)
    ∙ ap (λ v. v || list_any (λ x. p (f x)) xs) (or_nil (p (f x)))

split : {A B : Type 0} (f : A → B) (xs : List A) (ys zs : List B) → reverse (map f xs) ≡ ys ++ zs →
    map f xs ≡ reverse zs ++ reverse ys
split f xs ys zs e = sym (reverse-reverse (map f xs)) ∙ ap reverse e ∙ reverse-append ys zs

first_part : {B : Type 0} (xs ys : List B) (n : ℕ) → length xs ≡ n → take n (xs ++ ys) ≡ xs
first_part xs ys n e = ap (λ v. take v (xs ++ ys)) (sym e) ∙ take-append_seam xs ys

last_part : {B : Type 0} (xs ys : List B) (n : ℕ) → length xs ≡ n → drop n (xs ++ ys) ≡ ys
last_part xs ys n e = ap (λ v. drop v (xs ++ ys)) (sym e) ∙ drop-append_seam xs ys

taken : {A B : Type 0} (f : A → B) (xs : List A) (n : ℕ) (ys zs : List B) → reverse (map f xs) ≡ ys ++ zs →
    length zs ≡ n → map f (take n xs) ≡ reverse zs
taken f xs n ys zs e l = sym (take-map f n xs) ∙ ap (λ v. take n v) (split f xs ys zs e)
    ∙ first_part (reverse zs) (reverse ys) n (length-reverse zs ∙ l)

dropped : {A B : Type 0} (f : A → B) (xs : List A) (n : ℕ) (ys zs : List B) → reverse (map f xs) ≡ ys ++ zs →
    length zs ≡ n → map f (drop n xs) ≡ reverse ys
dropped f xs n ys zs e l =
    sym (drop-map f n xs) ∙ ap (λ v. drop n v) (split f xs ys zs e)
    ∙ last_part (reverse zs) (reverse ys) n (length-reverse zs ∙ l)

map_reverse : {A B : Type 0} (f : A → B) (xs : List A) → map f (reverse xs) ≡ reverse (map f xs)
map_reverse f [] = refl
map_reverse f (x ∷ xs) = ap (λ v. map f v) (reverse_cons x xs) ∙ map-append f (reverse xs) (x ∷ [])
    ∙ ap (λ v. v ++ (f x ∷ [])) (map_reverse f xs) ∙ sym (reverse_cons (f x) (map f xs))

pub reversed_turn : {A B : Type 0} (f : A → B) (xs : List A) (n : ℕ) (ys zs : List B) → reverse (map f xs) ≡ ys ++ zs →
    length zs ≡ n → reverse (map f (take n xs ++ reverse (drop n xs))) ≡ reverse ys ++ zs
reversed_turn f xs n ys zs e l =
    ap reverse (map-append f (take n xs) (reverse (drop n xs))
    ∙ ap (λ v. v ++ map f (reverse (drop n xs))) (taken f xs n ys zs e l)
    ∙ ap (λ v. reverse zs ++ v) (map_reverse f (drop n xs) ∙ ap reverse (dropped f xs n ys zs e l)
    ∙ reverse-reverse ys))
    ∙ reverse-append (reverse zs) ys ∙ ap (λ v. reverse ys ++ v) (reverse-reverse zs)

-- the same, where the rest of a list is turned in its place
pub turned_part : {A : Type 0} (xs m r : List A) (n : ℕ) → m ≡ xs → r ≡ reverse (take (length m - n) (drop n m)) →
    take n m ++ (r ++ drop (length m - n) (drop n m)) ≡ take n xs ++ reverse (drop n xs)
turned_part xs m r n e f =
    let whole : length (drop n m) ≤ length m - n = let l = length-drop n m in omega arith in
    ap (λ v. take n m ++ (v ++ drop (length m - n) (drop n m)))
    (f ∙ ap reverse (take_all (length m - n) (drop n m) whole))
    ∙ ap (λ v. take n m ++ (reverse (drop n m) ++ v)) (drop_all (length m - n) (drop n m) whole)
    ∙ ap (λ v. take n m ++ v) (append_nil (reverse (drop n m)))
    ∙ ap (λ v. take n v ++ reverse (drop n v)) e

pub turned_length : {A : Type 0} (xs : List A) (n : ℕ) → length (take n xs ++ reverse (drop n xs)) ≡ length xs
turned_length xs n =
    length-append (take n xs) (reverse (drop n xs)) ∙ ap (λ v. length (take n xs) + v) (length-reverse (drop n xs))
    ∙ sym (length-append (take n xs) (drop n xs)) ∙ ap length (take-append-drop n xs)

-- what is left of a list from which one more was taken off
pub dropped_more : {B : Type 0} (xs now new : List B) → now ≡ drop (length xs - length now) xs → 0 < length now →
    length now ≤ length xs → new ≡ drop 1 now → new ≡ drop (length xs - length new) xs
dropped_more xs now new e p q r =
    let shorter : length new ≡ length now - 1 = ap length r ∙ length-drop 1 now in
    let more : (length xs - length now) + 1 ≡ length xs - length new = omega (arith, shorter, p, q) in
    r ∙ ap (λ v. drop 1 v) e ∙ drop-drop 1 (length xs - length now) xs ∙ ap (λ n. drop n xs) more
