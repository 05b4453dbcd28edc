-- A row grows by one object at each step.
use Rattle.std.proofs.Common.{◌≡◌, ℕ, zero, suc, ◌+◌, ◌<◌, ◌≤◌, List, [], ◌∷◌, ◌++◌, drop, length, refl, sym, ap, ◌∙◌}
use Rattle.std.proofs.Common.{arith, subst}
use Rattle.std.specs.Prelude.{sum_by, slice_index_or}
use Rattle.std.proofs.lemmas.List.Sums.{sum_by-cons}
use Rattle.program_needs.specs.declared.needs.Need.{Need}
use Rattle.bounds_place.specs.Rows.{room, place_of, behind, bases_from, end_from}

-- what was placed and what is left are the whole row, and what is left has room up to the limit
pub record RowSo (so_far whole rest : List ℕ) (next last fin limit left : ℕ) : Type 0 where
  pub bases : so_far ++ rest ≡ whole
  pub end : last ≡ fin
  pub fits : next + left ≤ limit

drop_at : (ns : List Need) (i : ℕ) (d : Need) → i < length ns → drop i ns ≡ slice_index_or ns i d ∷ drop (i + 1) ns
drop_at [] i d h = absurd (omega arith)
drop_at (n ∷ ns) zero d h = refl
drop_at (n ∷ ns) (suc i) d h = let e : suc i + 1 ≡ suc (i + 1) = omega arith in rw e (drop_at ns i d (omega arith))

append_one : (xs : List ℕ) (x : ℕ) (ys : List ℕ) → (xs ++ x ∷ []) ++ ys ≡ xs ++ x ∷ ys
append_one [] x ys = refl
append_one (z ∷ xs) x ys = ap (λ v. z ∷ v) (append_one xs x ys)

append_none : (xs : List ℕ) → xs ++ [] ≡ xs
append_none [] = refl
append_none (x ∷ xs) = ap (λ v. x ∷ v) (append_none xs)

one_more : (n : Need) (rest : List Need) (next fin limit : ℕ) (so_far whole : List ℕ) → place_of next n < next + n.align
    → RowSo so_far whole (bases_from next (n ∷ rest)) next (end_from next (n ∷ rest)) fin limit (sum_by room (n ∷ rest))
    → RowSo (so_far ++ place_of next n ∷ []) whole (bases_from (behind next n) rest) (behind next n)
    (end_from (behind next n) rest) fin limit (sum_by room rest)
unfolding bases_from end_from
one_more n rest next fin limit so_far whole b r =
    let f = r.fits in
    record {
      bases = append_one so_far (place_of next n) (bases_from (behind next n) rest) ∙ r.bases;
      end = r.end;
      fits = omega (arith, sum_by-cons room n rest);
    }

pub row_step : (ns : List Need) (i next base fin limit : ℕ) (so_far whole : List ℕ) (d : Need) → i < length ns →
    base ≡ place_of next (slice_index_or ns i d) → base < next + (slice_index_or ns i d).align
    → RowSo so_far whole (bases_from next (drop i ns)) next (end_from next (drop i ns)) fin limit
    (sum_by room (drop i ns))
    → RowSo (so_far ++ base ∷ []) whole (bases_from (base + (slice_index_or ns i d).owned) (drop (i + 1) ns))
    (base + (slice_index_or ns i d).owned) (end_from (base + (slice_index_or ns i d).owned) (drop (i + 1) ns)) fin
    limit (sum_by room (drop (i + 1) ns))
row_step ns i next base fin limit so_far whole d h e b inv =
    let n = slice_index_or ns i d in
    let rest = drop (i + 1) ns in
    let r = subst (λ xs. RowSo so_far whole (bases_from next xs) next (end_from next xs) fin limit (sum_by room xs))
    (drop_at ns i d h) inv in
    let b' : place_of next n < next + n.align = rw (← e) b in
    subst (λ v. RowSo (so_far ++ v ∷ []) whole (bases_from (v + n.owned) rest) (v + n.owned)
    (end_from (v + n.owned) rest) fin limit (sum_by room rest)) (sym e)
    (one_more n rest next fin limit so_far whole b' r)

-- the step's numbers have room
pub step_fits : (ns : List Need) (i next fin limit : ℕ) (so_far whole : List ℕ) (d : Need) → i < length ns
    → RowSo so_far whole (bases_from next (drop i ns)) next (end_from next (drop i ns)) fin limit
    (sum_by room (drop i ns)) → next + room (slice_index_or ns i d) ≤ limit
step_fits ns i next fin limit so_far whole d h inv =
    let f = inv.fits in
    omega (arith, ap (sum_by room) (drop_at ns i d h) ∙ sum_by-cons room (slice_index_or ns i d) (drop (i + 1) ns))

drop_all : (ns : List Need) (i : ℕ) → length ns ≤ i → drop i ns ≡ []
drop_all [] zero h = refl
drop_all [] (suc i) h = refl
drop_all (n ∷ ns) zero h = absurd (omega arith)
drop_all (n ∷ ns) (suc i) h = drop_all ns i (omega arith)

pub row_done : (ns : List Need) (i next fin limit : ℕ) (so_far whole : List ℕ) → length ns ≤ i
    → RowSo so_far whole (bases_from next (drop i ns)) next (end_from next (drop i ns)) fin limit
    (sum_by room (drop i ns)) → (so_far ≡ whole) × (next ≡ fin) × (next ≤ limit)
unfolding bases_from end_from
row_done ns i next fin limit so_far whole h inv =
    let r = subst (λ xs. RowSo so_far whole (bases_from next xs) next (end_from next xs) fin limit (sum_by room xs))
    (drop_all ns i h) inv in
    let f = r.fits in
    (sym (append_none so_far) ∙ r.bases, r.end, omega arith)
