-- Lists of one, two and three numbers.
use Rattle.std.proofs.Common.{◌≡◌, ℕ, ◌<◌, ◌≤◌, List, [], ◌∷◌, length, get_or, refl, arith}

pub one_item : (xs : List ℕ) → 1 ≤ length xs → length xs < 2 → xs ≡ get_or xs 0 0 ∷ []
one_item [] h l = absurd (omega arith)
one_item (x ∷ []) h l = refl
one_item (x ∷ y ∷ xs) h l = absurd (omega arith)

pub two_items : (xs : List ℕ) → 2 ≤ length xs → length xs < 3 → xs ≡ get_or xs 0 0 ∷ get_or xs 1 0 ∷ []
two_items [] h l = absurd (omega arith)
two_items (x ∷ []) h l = absurd (omega arith)
two_items (x ∷ y ∷ []) h l = refl
two_items (x ∷ y ∷ z ∷ xs) h l = absurd (omega arith)

pub three_items : (xs : List ℕ) → 3 ≤ length xs → length xs < 4 →
    xs ≡ get_or xs 0 0 ∷ get_or xs 1 0 ∷ get_or xs 2 0 ∷ []
three_items [] h l = absurd (omega arith)
three_items (x ∷ []) h l = absurd (omega arith)
three_items (x ∷ y ∷ []) h l = absurd (omega arith)
three_items (x ∷ y ∷ z ∷ []) h l = refl
three_items (w ∷ x ∷ y ∷ z ∷ xs) h l = absurd (omega arith)
