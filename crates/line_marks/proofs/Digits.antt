-- Numbers of decimal digits.
use Rattle.std.proofs.Common.{◌≡◌, ℕ, ◌+◌, ◌*◌, ◌^◌, ◌<◌, ◌≤◌, List, [], ◌∷◌, length, take, drop, get_or}
use Rattle.std.proofs.Common.{take-append-drop, sym, ap, ◌∙◌, arith}
use Rattle.std.specs.Prelude.{fold}
use Rattle.std.specs.Char.{digit_value}
use Rattle.std.proofs.lemmas.List.Sums.{fold-append, fold_more}
use Rattle.ck_base.specs.Literals.{value_of}

-- further digits make no number smaller
grows : (n : ℕ) (digits : List ℕ) → n ≤ fold (λ m d. 10 * m + digit_value d) n digits
grows n [] = omega arith
grows n (d ∷ ds) = omega (arith, grows (10 * n + digit_value d) ds)

-- where the number of some digits doesn't fit, that of all doesn't
pub front_too_large : (digits : List ℕ) (i : ℕ) → i < length digits →
    2 ^ 32 ≤ 10 * value_of 10 (take i digits) + digit_value (get_or digits i 0) → value_of 10 digits < 2 ^ 32 → ⊥
front_too_large digits i within large small =
    let step = fold_more (λ m d. 10 * m + digit_value d) 0 digits i 0 within in
    let whole = sym (fold-append (λ m d. 10 * m + digit_value d) 0 (take (i + 1) digits) (drop (i + 1) digits))
    ∙ ap (value_of 10) (take-append-drop (i + 1) digits) in
    absurd (omega (arith, step, whole, grows (value_of 10 (take (i + 1) digits)) (drop (i + 1) digits)))
