-- How often a text stands in a list that changes.
use Rattle.std.proofs.Common.{◌≡◌, ℕ, ◌+◌, ◌-◌, Bool, true, false, cond, List, [], ◌∷◌, ◌++◌, reverse, take, drop}
use Rattle.std.proofs.Common.{◌<◌, Option, Some, Bor, map, refl, sym, ap, ◌∙◌, inl, inr, arith}
use Rattle.std.proofs.Common.{zero-add, eq-zero-or-pos}
use Rattle.std.specs.Prelude.{◌||◌, nat_lt, count_by, sum_by, bytes_eq}
use Rattle.std.specs.List.{list_any}
use Rattle.std.specs.Map.{update}
use Rattle.std.specs.Option.{unwrap_or}
use Rattle.std.proofs.lemmas.List.{take-append-drop}
use Rattle.std.proofs.lemmas.List.Sums.{sum_by-cons, sum_by-append}
use Rattle.std.proofs.lemmas.List.Sorted.{IsPermutation-reverse, sum_by-IsPermutation}
use Rattle.std.proofs.lemmas.Slice.Eq.{bytes_eq-Decides}
use Rattle.c_phrases.specs.declared.counts.Counts.{Counts}
use Rattle.ck_base.specs.Tokens.{is_among}
use Rattle.c_phrases.specs.Counted.{count_of, Counted}
use Rattle.c_phrases.proofs.Force.{reversed_any}

-- Counts of texts, one of which changes

same_text : (xs ys : List ℕ) → bytes_eq xs ys ≡ true → xs ≡ ys
same_text xs ys = (bytes_eq-Decides xs ys).0

pub one_more : (f : List ℕ → Option ℕ) (bs cs : List ℕ) (n : ℕ) → n ≡ unwrap_or (f bs) 0 →
    unwrap_or (update bytes_eq f bs (Some (n + 1)) cs) 0 ≡ unwrap_or (f cs) 0 + cond (bytes_eq bs cs) 1 0
one_more f bs cs n e = by_text (bytes_eq bs cs) refl
  where
    by_text : (b : Bool) → bytes_eq bs cs ≡ b →
        unwrap_or (cond b (Some (n + 1)) (f cs)) 0 ≡ unwrap_or (f cs) 0 + cond b 1 0
    by_text true s = ap (λ v. v + 1) (e ∙ ap (λ t. unwrap_or (f t) 0) (same_text bs cs s))
    by_text false s = omega arith

pub one_fewer : (f : List ℕ → Option ℕ) (bs cs : List ℕ) (n w : ℕ) → Some n ≡ f bs → w ≡ n - 1 →
    unwrap_or (update bytes_eq f bs (Some w) cs) 0 ≡ unwrap_or (f cs) 0 - cond (bytes_eq bs cs) 1 0
one_fewer f bs cs n w e g = by_text (bytes_eq bs cs) refl
  where
    by_text : (b : Bool) → bytes_eq bs cs ≡ b → unwrap_or (cond b (Some w) (f cs)) 0 ≡ unwrap_or (f cs) 0 - cond b 1 0
    by_text true s = g ∙ ap (λ v. v - 1) (ap (λ o. unwrap_or o 0) e ∙ ap (λ t. unwrap_or (f t) 0) (same_text bs cs s))
    by_text false s = omega arith

-- The list's names

pub positive_any : {X : Type 0} (p : X → Bool) (xs : List X) → nat_lt 0 (count_by p xs) ≡ list_any p xs
positive_any p [] = refl
positive_any p (x ∷ xs) =
    ap (nat_lt 0) (sum_by-cons (λ y. cond (p y) 1 0) x xs)
    ∙ by_first (p x) (count_by p xs) (list_any p xs) (positive_any p xs)
  where
    by_first : (b : Bool) (n : ℕ) (r : Bool) → nat_lt 0 n ≡ r → nat_lt 0 (cond b 1 0 + n) ≡ (b || r)
    by_first true n r e = grind arith
    by_first false n r e = ap (nat_lt 0) (zero-add n) ∙ e

turned_sum : {X : Type 0} (g : X → ℕ) (xs : List X) (n : ℕ) → sum_by g xs ≡ sum_by g (take n xs ++ reverse (drop n xs))
turned_sum g xs n =
    ap (sum_by g) (sym (take-append-drop n xs)) ∙ sum_by-append g (take n xs) (drop n xs)
    ∙ ap (λ v. sum_by g (take n xs) + v) (sym
    (sum_by-IsPermutation g (drop n xs) (reverse (drop n xs)) (IsPermutation-reverse (drop n xs))))
    ∙ sym (sum_by-append g (take n xs) (reverse (drop n xs)))

pub counted_turn : (xs : List (Bor (List ℕ))) (n : ℕ) (c : Counts) → Counted c xs →
    Counted c (take n xs ++ reverse (drop n xs))
counted_turn xs n c h = record { each = λ t. h.each t ∙ turned_sum (λ name. cond (bytes_eq name.now t) 1 0) xs n }

pub counted_along : (xs ys : List (Bor (List ℕ))) (c : Counts) → ys ≡ xs → Counted c xs → Counted c ys
counted_along xs ys c e h = record { each = λ t. h.each t ∙ ap (count_by (λ name. bytes_eq name.now t)) (sym e) }

-- what was not counted is none of the names
pub none_counted : (c : Counts) (names : List (Bor (List ℕ))) (text : List ℕ) → Counted c names →
    (0 < count_of c text → ⊥) → is_among (reverse (map (λ name. name.now) names)) text ≡ false
none_counted c names text counted none =
    let nothing : count_of c text ≡ 0 =
    elim (eq-zero-or-pos (count_of c text)) [ inl e ↦ e | inr some ↦ absurd (none some) ] in
    reversed_any (λ name. bytes_eq name text) (λ name. name.now) names
    ∙ sym (positive_any (λ name. bytes_eq name.now text) names)
    ∙ ap (nat_lt 0) (sym (counted.each text) ∙ nothing)
