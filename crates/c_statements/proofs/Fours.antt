-- Lists of four numbers.
use Rattle.std.proofs.Common.{◌≡◌, ℕ, ◌<◌, ◌≤◌, List, [], ◌∷◌, length, get_or, refl, arith}

pub four_items : (xs : List ℕ) → 4 ≤ length xs → length xs < 5 →
    xs ≡ get_or xs 0 0 ∷ get_or xs 1 0 ∷ get_or xs 2 0 ∷ get_or xs 3 0 ∷ []
four_items [] h l = absurd (omega arith)
four_items (x ∷ []) h l = absurd (omega arith)
four_items (x ∷ y ∷ []) h l = absurd (omega arith)
four_items (x ∷ y ∷ z ∷ []) h l = absurd (omega arith)
four_items (w ∷ x ∷ y ∷ z ∷ []) h l = refl
four_items (v ∷ w ∷ x ∷ y ∷ z ∷ xs) h l = absurd (omega arith)
