-- Literals in quotes: the search for the closing quote, and that there is one at most.
use Rattle.std.proofs.Common.{◌≡◌, ℕ, zero, suc, ◌+◌, ◌-◌, ◌≤◌, Bool, true, false, not, if◌then◌else◌, ◌==◌, List, []}
use Rattle.std.proofs.Common.{◌∷◌, length, take, drop, get_or, refl, ap, ◌∙◌, sym, arith, add-one}
use Rattle.std.specs.Prelude.{bytes_eq}
use Rattle.std.proofs.Math.Bool.{and-false}
use Rattle.std.proofs.lemmas.Bool.{ne_eqb, eq-eqb}
use Rattle.ck_base.specs.Tokens.{closes, is_quoted}
use Rattle.c_lex.proofs.Tables.{and_true}

-- a line feed leaves the literal open
pub closes-line_feed : (quote : ℕ) (escaped : Bool) (rest : List ℕ) (n : ℕ) →
    closes quote escaped (take n (10 ∷ rest)) ≡ false
closes-line_feed quote escaped rest zero = refl
closes-line_feed quote escaped rest (suc n) = refl

-- another byte that doesn't close it goes on
pub closes-more : (quote : ℕ) (escaped next : Bool) (b : ℕ) (rest : List ℕ) → b == 10 ≡ false →
    (if escaped then false else b == quote) ≡ false → next ≡ (if escaped then false else b == 92) → (n : ℕ) →
    closes quote escaped (take n (b ∷ rest)) ≡ closes quote next (take (n - 1) rest)
closes-more quote escaped next b rest no_line_feed no_quote next_is zero = refl
closes-more quote true next b rest no_line_feed no_quote next_is (suc n) =
    let one_less : suc n - 1 ≡ n = omega arith in rw (no_line_feed, next_is, one_less) refl
closes-more quote false next b rest no_line_feed no_quote next_is (suc n) =
    let one_less : suc n - 1 ≡ n = omega arith in rw (no_line_feed, no_quote, next_is, one_less) refl

-- The opening quote in front

pub quoted_found : (quote : ℕ) (bytes : List ℕ) (n : ℕ) → 1 ≤ length bytes → get_or bytes 0 0 ≡ quote →
    n ≤ length (drop 1 bytes) → closes quote false (take n (drop 1 bytes)) ≡ true →
    (n + 1 ≤ length bytes) × (is_quoted quote (take (n + 1) bytes) ≡ true)
unfolding is_quoted
quoted_found quote [] n some first within closed = absurd (omega arith)
quoted_found quote (b ∷ bs) n some first within closed =
    (omega arith, rw (add-one n) (rw (eq-eqb b quote first) closed))

pub quoted_none : (quote : ℕ) (bytes : List ℕ) → ((n : ℕ) → closes quote false (take n (drop 1 bytes)) ≡ false) →
    (n : ℕ) → is_quoted quote (take n bytes) ≡ false
unfolding is_quoted
quoted_none quote [] unclosed zero = refl
quoted_none quote [] unclosed (suc n) = refl
quoted_none quote (b ∷ bs) unclosed zero = refl
quoted_none quote (b ∷ bs) unclosed (suc n) = rw (unclosed n) (and-false (b == quote))

pub quoted_other : (quote : ℕ) (bytes : List ℕ) → (1 ≤ length bytes → get_or bytes 0 0 ≡ quote → ⊥) → (n : ℕ) →
    is_quoted quote (take n bytes) ≡ false
unfolding is_quoted
quoted_other quote [] other zero = refl
quoted_other quote [] other (suc n) = refl
quoted_other quote (b ∷ bs) other zero = refl
quoted_other quote (b ∷ bs) other (suc n) = rw (ne_eqb b quote (other (omega arith))) refl

-- There is one front in quotes at most

empty : (bs : List ℕ) (n : ℕ) → n ≤ length bs → bytes_eq (take n bs) [] ≡ true → n ≡ 0
empty bs zero within e = refl
empty [] (suc n) within e = absurd (omega arith)
empty (b ∷ bs) (suc n) within e = cc

one_closing : (quote : ℕ) (escaped : Bool) (bs : List ℕ) (n m : ℕ) → n ≤ length bs → m ≤ length bs →
    closes quote escaped (take n bs) ≡ true → closes quote escaped (take m bs) ≡ true → n ≡ m
one_closing quote escaped bs zero m n_in m_in n_closes m_closes = cc
one_closing quote escaped bs (suc n) zero n_in m_in n_closes m_closes = cc
one_closing quote escaped [] (suc n) (suc m) n_in m_in n_closes m_closes = absurd (omega arith)
one_closing quote true (b ∷ bs) (suc n) (suc m) n_in m_in n_closes m_closes =
    ap suc (one_closing quote false bs n m (omega arith) (omega arith) (and_true (not (b == 10)) _ n_closes).1
    (and_true (not (b == 10)) _ m_closes).1)
one_closing quote false (b ∷ bs) (suc n) (suc m) n_in m_in n_closes m_closes =
    ap suc (by_quote (b == quote) (one_closing quote (b == 92) bs n m (omega arith) (omega arith))
    (and_true (not (b == 10)) _ n_closes).1 (and_true (not (b == 10)) _ m_closes).1)
  where
    by_quote : (here : Bool) →
        (closes quote (b == 92) (take n bs) ≡ true → closes quote (b == 92) (take m bs) ≡ true → n ≡ m) →
        (if here then bytes_eq (take n bs) [] else closes quote (b == 92) (take n bs)) ≡ true →
        (if here then bytes_eq (take m bs) [] else closes quote (b == 92) (take m bs)) ≡ true → n ≡ m
    by_quote true behind n_ends m_ends = empty bs n (omega arith) n_ends ∙ sym (empty bs m (omega arith) m_ends)
    by_quote false behind n_ends m_ends = behind n_ends m_ends

pub one_quoted : (quote : ℕ) (bytes : List ℕ) (n m : ℕ) → n ≤ length bytes → m ≤ length bytes →
    is_quoted quote (take n bytes) ≡ true → is_quoted quote (take m bytes) ≡ true → n ≡ m
unfolding is_quoted
one_quoted quote bytes zero m n_in m_in n_form m_form = cc
one_quoted quote bytes (suc n) zero n_in m_in n_form m_form = cc
one_quoted quote [] (suc n) (suc m) n_in m_in n_form m_form = absurd (omega arith)
one_quoted quote (b ∷ bs) (suc n) (suc m) n_in m_in n_form m_form =
    ap suc (one_closing quote false bs n m (omega arith) (omega arith) (and_true (b == quote) _ n_form).1
    (and_true (b == quote) _ m_form).1)
