-- Text that grows by a line, or by a digit.
use Rattle.std.proofs.Common.{◌≡◌, ℕ, suc, ◌+◌, ◌/◌, ◌%◌, false, List, [], ◌∷◌, ◌++◌, sym, ap, ◌∙◌, append_assoc}
use Rattle.std.proofs.Common.{append-nil, arith}
use Rattle.std.specs.Fmt.{digit_glyph}
use Rattle.build_text.specs.Lines.{lines}
use Rattle.build_text.specs.Listing.{last_digits}

-- a piece behind what stands there
pub appended : (text more start piece same : List ℕ) → more ≡ text ++ piece → text ≡ start → piece ≡ same →
    more ≡ start ++ same
appended text more start piece same grown is equal = grown ∙ ap (λ t. t ++ piece) is ∙ ap (λ l. start ++ l) equal

-- no lines are nothing behind what stands there
pub no_lines : (start : List ℕ) (line : ℕ → List ℕ) → start ≡ start ++ lines line 0
unfolding lines
no_lines start line = sym (append-nil start)

-- and one line more
pub one_line : (start text more : List ℕ) (line : ℕ → List ℕ) (k : ℕ) → text ≡ start ++ lines line k →
    more ≡ text ++ line k → more ≡ start ++ lines line (k + 1)
unfolding lines
one_line start text more line k is grown =
    let next : suc k ≡ k + 1 = omega arith in
    grown ∙ ap (λ t. t ++ line k) is ∙ append_assoc start (lines line k) (line k) ∙ ap (λ n. start ++ lines line n) next

-- no digits are nothing
pub no_digits : (start : List ℕ) (n w : ℕ) → n ≡ 0 → start ≡ start ++ last_digits n w
unfolding last_digits
no_digits start n w none = sym (append-nil start) ∙ ap (λ k. start ++ last_digits k w) (sym none)

-- and one digit more
pub one_digit : (start text more : List ℕ) (n k w : ℕ) → n ≡ suc k → text ≡ start ++ last_digits k (w / 16) →
    more ≡ text ++ digit_glyph false (w % 16) ∷ [] → more ≡ start ++ last_digits n w
unfolding last_digits
one_digit start text more n k w next is grown =
    grown ∙ ap (λ t. t ++ digit_glyph false (w % 16) ∷ []) is
    ∙ append_assoc start (last_digits k (w / 16)) (digit_glyph false (w % 16) ∷ [])
    ∙ ap (λ m. start ++ last_digits m w) (sym next)
