-- Where the end of a comment stands.
use Rattle.std.proofs.Common.{◌≡◌, ℕ, zero, suc, ◌+◌, ◌<◌, ◌≤◌, false, ◌==◌, List, [], ◌∷◌, length, drop, refl, inl}
use Rattle.std.proofs.Common.{inr, arith}
use Rattle.std.proofs.Math.Bool.{and-false}
use Rattle.std.proofs.lemmas.Bool.{cases_lt}
use Rattle.std.specs.Prelude.{codes}
use Rattle.ck_base.specs.Lexes.{begins_with}

-- no `*/` stands where fewer than two bytes are left
close_short : (bytes : List ℕ) (k : ℕ) → length bytes ≤ k + 1 → begins_with (codes "*/") (drop k bytes) ≡ false
close_short [] zero short = refl
close_short [] (suc k) short = refl
close_short (b ∷ []) zero short = and-false (42 == b)
close_short (b ∷ c ∷ bs) zero short = absurd (omega arith)
close_short (b ∷ bs) (suc k) short = close_short bs k (omega arith)

-- so where none stands before the last byte, there is none
pub close_nowhere : (bytes : List ℕ) (i : ℕ) → length bytes ≤ i →
    ((k : ℕ) → k + 1 < i → begins_with (codes "*/") (drop k bytes) ≡ false) → (n : ℕ) →
    begins_with (codes "*/") (drop n bytes) ≡ false
close_nowhere bytes i end before n =
    elim (cases_lt (n + 1) i) [ inl inside ↦ before n inside | inr short ↦ close_short bytes n (omega arith) ]
