-- Numbers that stand before another, and the least such one.
use Rattle.std.proofs.Common.{◌≡◌, ℕ, zero, suc, ◌+◌, ◌<◌, ◌≤◌, List, [], ◌∷◌, ◌++◌, length, get_or, take, drop, refl}
use Rattle.std.proofs.Common.{ap, ◌∙◌, arith, length-append}
use Rattle.std.specs.Prelude.{max}
use Rattle.c_copy.specs.Copying.{AllBelow}

-- the least number that each of these is below
abbrev pub least_above : List ℕ → ℕ
least_above [] = 0
least_above (k ∷ ks) = max (suc k) (least_above ks)

pub least_is : (n : ℕ) (ks : List ℕ) → AllBelow n ks → least_above ks ≤ n
least_is n [] h = omega arith
least_is n (k ∷ ks) h =
    let a : k < n = h 0 k refl in
    let b : least_above ks ≤ n = least_is n ks (λ j i e. h (suc j) i e) in
    omega arith

-- one of them
pub item_below : (ks : List ℕ) (i : ℕ) → i < length ks → get_or ks i 0 < least_above ks
item_below [] i lt = absurd (omega arith)
item_below (k ∷ ks) zero lt = omega arith
item_below (k ∷ ks) (suc i) lt =
    let r : i < length ks = omega arith in
    let h : get_or ks i 0 < least_above ks = item_below ks i r in
    omega arith

-- ---- counts

pub take_and_drop : (n : ℕ) (ks : List ℕ) → length (take n ks) + length (drop n ks) ≡ length ks
take_and_drop zero ks = omega arith
take_and_drop (suc n) [] = refl
take_and_drop (suc n) (k ∷ ks) =
    let h : length (take n ks) + length (drop n ks) ≡ length ks = take_and_drop n ks in omega arith

pub count_more : (xs ys : List ℕ) (y n : ℕ) → ys ≡ xs ++ y ∷ [] → length xs ≡ n → length ys ≡ n + 1
count_more xs ys y n e h = ap length e ∙ length-append xs (y ∷ []) ∙ ap (λ m. m + 1) h

-- two parts of a list were pushed one after the other
pub count_both : (n : ℕ) (ks fs bs xs ys zs : List ℕ) → xs ≡ [] → fs ≡ take n ks → bs ≡ drop n ks →
    length ys ≡ length xs + length fs → length zs ≡ length ys + length bs → length zs ≡ length ks
count_both n ks fs bs xs ys zs x f b d e =
    let p : length xs ≡ 0 = ap length x in
    let q : length fs ≡ length (take n ks) = ap length f in
    let r : length bs ≡ length (drop n ks) = ap length b in
    let s : length (take n ks) + length (drop n ks) ≡ length ks = take_and_drop n ks in
    omega arith
