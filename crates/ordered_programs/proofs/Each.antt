-- What holds of each item of a list, as far as a loop has come.
use Rattle.std.proofs.Common.{◌≡◌, ℕ, ◌+◌, ◌<◌, ◌≤◌, List, [], ◌∷◌, ◌++◌, length, get_or, take, Some, sym, ap, subst}
use Rattle.std.proofs.Common.{◌∙◌, ⊎_elim, arith}
use Rattle.std.specs.Prelude.{slice_get}
use Rattle.std.proofs.lemmas.Bool.{cases_lt}
use Rattle.std.proofs.lemmas.List.{take_more}
use Rattle.std.proofs.lemmas.Option.{same_Some, slice_get_within, slice_get-get_or}

-- the item that a loop reads
pub item_read : {A : Type 0} (xs : List A) (i : ℕ) (x : A) → i < length xs → x ≡ get_or xs i x → slice_get xs i ≡ Some x
item_read xs i x lt is = slice_get-get_or xs i x lt ∙ ap (λ y. Some y) (sym is)

pub one_more : {A : Type 0} (P : ℕ → A → Type 0) (xs : List A) (i : ℕ) (x : A) → slice_get xs i ≡ Some x →
    ((j : ℕ) (y : A) → j < i → slice_get xs j ≡ Some y → P j y) → P i x →
    (j : ℕ) (y : A) → j < i + 1 → slice_get xs j ≡ Some y → P j y
one_more P xs i x at h p = λ j y lt e.
    ⊎_elim (λ l. h j y l e)
    (λ l.
    let same : j ≡ i = omega arith in
    let got : slice_get xs i ≡ Some y = ap (slice_get xs) (sym same) ∙ e in
    let one : x ≡ y = same_Some x y (sym at ∙ got) in
    subst (λ k. P k y) (sym same) (subst (P i) one p))
    (cases_lt j i)

pub all_come : {A : Type 0} (P : ℕ → A → Type 0) (xs : List A) (i : ℕ) → length xs ≤ i →
    ((j : ℕ) (y : A) → j < i → slice_get xs j ≡ Some y → P j y) → (j : ℕ) (y : A) → slice_get xs j ≡ Some y → P j y
all_come P xs i past h = λ j y e. let lt : j < length xs = slice_get_within xs j y e in h j y (omega arith) e

pub taken_more : {A : Type 0} (xs : List A) (i : ℕ) (x : A) → i < length xs → x ≡ get_or xs i x →
    take (i + 1) xs ≡ take i xs ++ x ∷ []
taken_more xs i x lt is = take_more xs i x lt ∙ ap (λ y. take i xs ++ y ∷ []) (sym is)
