-- Positions behind one more byte, and behind a part of a file.
use Rattle.std.proofs.Common.{◌≡◌, ◌≢◌, ℕ, ◌+◌, ◌-◌, ◌≤◌, Bool, true, false, not, ◌&&◌, cond, List, [], ◌∷◌, ◌++◌}
use Rattle.std.proofs.Common.{length, take, drop, refl, sym, ap, subst, ◌∙◌, arith, length-drop, add-zero}
use Rattle.std.proofs.Common.{length-take-le}
use Rattle.std.proofs.Math.Seq.{take-add}
use Rattle.std.proofs.Math.Bool.{and-true}
use Rattle.std.specs.List.{list_all, count_by, suffix_len}
use Rattle.std.proofs.lemmas.List.{reverse-append, drop_all, drop-append-le, length_push}
use Rattle.std.proofs.lemmas.List.Sums.{sum_by_push, count_by-le-length}
use Rattle.std.proofs.lemmas.Bool.{ne_eqb}
use Rattle.ck_base.specs.Lexes.{is_line_feed, last_line, position_after, begins_line, is_space}
use Rattle.c_lex.specs.declared.places.Place.{Place}
use Rattle.c_lex.specs.Pieces.{place_behind, IsPlaceOf}

-- The last line

line_run-push : (bytes : List ℕ) (b : ℕ) →
    suffix_len (λ x. not (is_line_feed x)) (bytes ++ b ∷ [])
    ≡ cond (not (is_line_feed b)) (1 + suffix_len (λ x. not (is_line_feed x)) bytes) 0
line_run-push bytes b = rw (reverse-append bytes (b ∷ [])) refl

last_line-line_feed : (bytes : List ℕ) → last_line (bytes ++ 10 ∷ []) ≡ []
last_line-line_feed bytes =
    rw (line_run-push bytes 10) (drop_all (length (bytes ++ 10 ∷ []) - 0) (bytes ++ 10 ∷ []) (omega arith))

last_line-other : (bytes : List ℕ) (b : ℕ) → b ≢ 10 → last_line (bytes ++ b ∷ []) ≡ last_line bytes ++ b ∷ []
last_line-other bytes b other =
    let run = suffix_len (λ x. not (is_line_feed x)) bytes in
    let within : length bytes - run ≤ length bytes = omega arith in
    let kept : length (bytes ++ b ∷ []) - (1 + run) ≡ length bytes - run = omega (arith, length_push bytes b) in
    rw (line_run-push bytes b, ne_eqb b 10 other) (rw kept (drop-append-le (length bytes - run) bytes (b ∷ []) within))

all_push : (p : ℕ → Bool) (xs : List ℕ) (y : ℕ) → list_all p (xs ++ y ∷ []) ≡ (list_all p xs && p y)
all_push p [] y = and-true (p y)
all_push p (x ∷ xs) y = rw (all_push p xs y) (and_both (p x) (list_all p xs) (p y))
  where
    and_both : (a b c : Bool) → (a && (b && c)) ≡ ((a && b) && c)
    and_both true b c = refl
    and_both false b c = refl

-- Positions

position-line_feed : (bytes : List ℕ) →
    position_after (bytes ++ 10 ∷ []) ≡ record { line = (position_after bytes).line + 1; col = 1 }
unfolding position_after
position-line_feed bytes =
    let count = sum_by_push (λ x. cond (is_line_feed x) 1 0) bytes 10 in
    let empty = last_line-line_feed bytes in
    λ i. record { line = count i + 1; col = length (empty i) + 1 }

position-other : (bytes : List ℕ) (b : ℕ) → b ≢ 10 →
    position_after (bytes ++ b ∷ []) ≡ record {
      line = (position_after bytes).line;
      col = (position_after bytes).col + 1;
    }
unfolding position_after
position-other bytes b other =
    let count : count_by is_line_feed (bytes ++ b ∷ []) ≡ count_by is_line_feed bytes =
    sum_by_push (λ x. cond (is_line_feed x) 1 0) bytes b
    ∙ rw (ne_eqb b 10 other) (add-zero (count_by is_line_feed bytes)) in
    let long : length (last_line (bytes ++ b ∷ [])) ≡ length (last_line bytes) + 1 =
    ap length (last_line-other bytes b other) ∙ length_push (last_line bytes) b in
    λ i. record { line = count i + 1; col = long i + 1 }

begins-line_feed : (bytes : List ℕ) → begins_line (bytes ++ 10 ∷ []) ≡ true
unfolding begins_line
begins-line_feed bytes = rw (last_line-line_feed bytes) refl

begins-other : (bytes : List ℕ) (b : ℕ) → b ≢ 10 → begins_line (bytes ++ b ∷ []) ≡ (begins_line bytes && is_space b)
unfolding begins_line
begins-other bytes b other = rw (last_line-other bytes b other) (all_push is_space (last_line bytes) b)

-- lines and columns are no more than the bytes
pub line_bound : (bytes : List ℕ) → (position_after bytes).line ≤ length bytes + 1
unfolding position_after
line_bound bytes = omega (arith, count_by-le-length is_line_feed bytes)

pub col_bound : (bytes : List ℕ) → (position_after bytes).col ≤ length bytes + 1
unfolding position_after
col_bound bytes = omega (arith, length-drop (length bytes - suffix_len (λ x. not (is_line_feed x)) bytes) bytes)

-- Places

pub place-line_feed : (place : Place) (front : List ℕ) → place ≡ place_behind front →
    record { at = place.at + 1; pos = record { line = place.pos.line + 1; col = 1 }; begins_line = true }
    ≡ place_behind (front ++ 10 ∷ [])
unfolding place_behind
place-line_feed place front is =
    let long = ap (λ (p : Place). p.at + 1) is ∙ sym (length_push front 10) in
    let pos = ap (λ (p : Place). record { line = p.pos.line + 1; col = 1 }) is ∙ sym (position-line_feed front) in
    λ i. record { at = long i; pos = pos i; begins_line = sym (begins-line_feed front) i }

pub place-other : (place : Place) (front : List ℕ) (b : ℕ) → b ≢ 10 → place ≡ place_behind front →
    record {
      at = place.at + 1;
      pos = record { line = place.pos.line; col = place.pos.col + 1 };
      begins_line = place.begins_line && is_space b;
    } ≡ place_behind (front ++ b ∷ [])
unfolding place_behind
place-other place front b other is =
    let long = ap (λ (p : Place). p.at + 1) is ∙ sym (length_push front b) in
    let pos = ap (λ (p : Place). record { line = p.pos.line; col = p.pos.col + 1 }) is
    ∙ sym (position-other front b other) in
    let begins = ap (λ (p : Place). p.begins_line && is_space b) is ∙ sym (begins-other front b other) in
    λ i. record { at = long i; pos = pos i; begins_line = begins i }

-- the numbers of a place are small
pub place_bounds : (place : Place) (front : List ℕ) → place ≡ place_behind front →
    (place.at ≡ length front) × (place.pos.line ≤ length front + 1) × (place.pos.col ≤ length front + 1)
unfolding place_behind
place_bounds place front is = (
  ap (λ (p : Place). p.at) is,
  subst (λ (p : Place). p.pos.line ≤ length front + 1) (sym is) (line_bound front),
  subst (λ (p : Place). p.pos.col ≤ length front + 1) (sym is) (col_bound front),
)

-- Places of a file

pub place_pos : (file : List ℕ) (place : Place) → IsPlaceOf file place → place.pos ≡ position_after (take place.at file)
unfolding place_behind
place_pos file place of_file = ap (λ (p : Place). p.pos) of_file.is

pub place_begins : (file : List ℕ) (place : Place) → IsPlaceOf file place →
    place.begins_line ≡ begins_line (take place.at file)
unfolding place_behind
place_begins file place of_file = ap (λ (p : Place). p.begins_line) of_file.is

-- n bytes on
pub place_moved : (file : List ℕ) (place moved : Place) (n : ℕ) → IsPlaceOf file place →
    n ≤ length (drop place.at file) →
    ((front : List ℕ) → place ≡ place_behind front → moved ≡ place_behind (front ++ take n (drop place.at file))) →
    (moved.at ≡ place.at + n) × IsPlaceOf file moved
unfolding place_behind
place_moved file place moved n of_file within behind =
    let is : moved ≡ place_behind (take (place.at + n) file) =
    behind (take place.at file) of_file.is ∙ ap place_behind (sym (take-add place.at n file)) in
    let long : moved.at ≡ place.at + n =
    ap (λ (p : Place). p.at) is
    ∙ length-take-le (place.at + n) file (omega (arith, length-drop place.at file, of_file.within)) in (
      long,
      record {
        within = omega (arith, long, length-drop place.at file, of_file.within);
        is = is
            ∙ ap (λ k. place_behind (take k file)) (sym long);
      },
    )

-- what a small file has at a place
pub place_part : (file : List ℕ) (place : Place) (n : ℕ) → length file ≤ 4_194_304 → IsPlaceOf file place →
    n ≤ length (drop place.at file) →
    (front : List ℕ) × (place ≡ place_behind front) ×
    (length front + length (take n (drop place.at file)) ≤ 4_194_304)
place_part file place n small of_file within = (
  take place.at file,
  of_file.is,
  omega (
    arith,
    length-take-le place.at file of_file.within,
    length-take-le n (drop place.at file) within,
    length-drop place.at file,
    of_file.within,
  ),
)
