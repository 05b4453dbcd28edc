-- Passing the bytes of a name, and the lines of a file.
use Rattle.std.proofs.Common.{◌≡◌, ℕ, zero, suc, ◌+◌, ◌-◌, ◌<◌, ◌≤◌, Bool, true, false, List, [], ◌∷◌, length, take}
use Rattle.std.proofs.Common.{drop, get_or, refl, sym, ap, ◌∙◌, length-drop, drop-drop, take_all, arith}
use Rattle.std.specs.Prelude.{fold, ◌==◌, not, ◌&&◌, if◌then◌else◌}
use Rattle.std.specs.List.{slice_split, position_or_len}
use Rattle.std.specs.Str.{byte}
use Rattle.std.proofs.lemmas.List.{drop_more, take_rest}
use Rattle.std.proofs.lemmas.List.Sums.{fails_before_first}
use Rattle.std.proofs.lemmas.List.Splits.{slice_split_none, slice_split_first}
use Rattle.ck_base.specs.Lexes.{is_line_feed, line_length}
use Rattle.line_marks.specs.Marks.{Known, behind, quote_at}

-- a byte that doesn't close the name is passed
pub quote_passed : (escaped next : Bool) (bytes : List ℕ) (i : ℕ) → i < length bytes →
    (not escaped && get_or bytes i 0 == byte "\"") ≡ false →
    (not escaped && get_or bytes i 0 == byte "\\") ≡ next →
    quote_at escaped (drop i bytes) ≡ 1 + quote_at next (drop (i + 1) bytes)
quote_passed escaped next bytes i within other leads = rw (drop_more bytes i 0 within, other, leads) refl

-- some bytes are cut behind their first line
pub record IsCut (bytes line ended : List ℕ) : Type 0 where
  pub front : line ≡ take (line_length bytes) bytes
  pub back : ended ≡ drop (line_length bytes) bytes

pub split_here : {n : ℕ} {bytes line ended : List ℕ} → line ≡ take n bytes → ended ≡ drop n bytes →
    n ≡ line_length bytes → IsCut bytes line ended
split_here {n} {bytes} front back at =
    record { front = front ∙ ap (λ m. take m bytes) at; back = back ∙ ap (λ m. drop m bytes) at }

fold_first : (k : Known) (n m : ℕ) (line : List ℕ) (lines : List (List ℕ)) → m ≡ n + 1 →
    fold behind (behind k line) (take n lines) ≡ fold behind k (take m (line ∷ lines))
fold_first k n m line lines more =
    let next : suc n ≡ m = omega arith in
    ap (λ i. fold behind k (take i (line ∷ lines))) next

-- a line that ends in a line feed is passed
pub pass : (k : Known) (n m : ℕ) (bytes line ended : List ℕ) → IsCut bytes line ended → 1 ≤ length ended → m ≡ n + 1 →
    fold behind (behind k line) (take n (slice_split is_line_feed (take (length ended - 1) (drop 1 ended))))
    ≡ fold behind k (take m (slice_split is_line_feed bytes))
pass k n m bytes line ended cut some more =
    let here : line_length bytes < length bytes =
    omega (arith, ap length cut.back, length-drop (line_length bytes) bytes) in
    let left : take (length ended - 1) (drop 1 ended) ≡ drop (line_length bytes + 1) bytes =
    take_rest ended 1 ∙ ap (drop 1) cut.back ∙ drop-drop _ _ bytes in
    rw (left, cut.front) (fold_first k n m _ _ more)
    ∙ ap (λ lines. fold behind k (take m lines)) (sym (slice_split_first is_line_feed bytes 0 here))

fold_all : (k : Known) (n : ℕ) → fold behind k (take n []) ≡ k
fold_all k zero = refl
fold_all k (suc n) = refl

-- the last line is passed
pub pass_last : (k : Known) (m : ℕ) (bytes line ended : List ℕ) → IsCut bytes line ended → length ended < 1 → 0 < m →
    behind k line ≡ fold behind k (take m (slice_split is_line_feed bytes))
pass_last k m bytes line ended cut none some =
    let whole : length bytes ≤ line_length bytes =
    omega (arith, ap length cut.back, length-drop (line_length bytes) bytes) in
    let all : line ≡ bytes = cut.front ∙ take_all (line_length bytes) bytes whole in
    let lines = slice_split_none is_line_feed bytes
    (λ i d within. fails_before_first is_line_feed bytes i d (omega arith)) in
    sym (fold_all (behind k line) (m - 1)) ∙ fold_first k (m - 1) m line [] (omega arith)
    ∙ ap (λ x. fold behind k (take m (x ∷ []))) all ∙ ap (λ xs. fold behind k (take m xs)) (sym lines)
