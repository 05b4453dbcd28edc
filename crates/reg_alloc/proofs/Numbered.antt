-- Intervals with their places, and in order.
use Rattle.std.proofs.Common.{ℕ, zero, suc, ◌≡◌, ◌+◌, ◌<◌, List, [], ◌∷◌, ◌++◌, length, get_or, take, refl, sym, ◌∙◌}
use Rattle.std.proofs.Common.{ap, subst, add-zero, cond, arith}
use Rattle.std.specs.Prelude.{All, Contains, count_by, slice_get, Some}
use Rattle.std.specs.List.Sorted.{IsPermutation, IsNonDecreasingBy}
use Rattle.std.proofs.lemmas.Option.{same_Some, none-some}
use Rattle.std.proofs.lemmas.List.{take_more, length-take-le}
use Rattle.std.proofs.lemmas.List.Elements.{All-nil, All-cons}
use Rattle.std.proofs.lemmas.List.Sums.{sum_by-cons}
use Rattle.std.proofs.lemmas.List.Sorted.{All-permutation, Contains-permutation, sum_by-IsPermutation}
use Rattle.std.proofs.lemmas.List.Sorted.{length_permutation}
use Rattle.reg_alloc.specs.declared.intervals.Interval.{Interval}
use Rattle.reg_alloc.specs.declared.scan.Entry.{Entry}
use Rattle.reg_alloc.specs.Placed.{holds}
use Rattle.reg_alloc.specs.Scanned.{entries_from, held, AreInOrder}

pub entries-push : (k : ℕ) (vs : List Interval) (v : Interval) →
    entries_from k (vs ++ v ∷ []) ≡ entries_from k vs ++ (record { interval = v; index = k + length vs }) ∷ []
entries-push k [] v = ap (λ (i : ℕ). let e : Entry = record { interval = v; index = i } in e ∷ []) (sym (add-zero k))
entries-push k (w ∷ ws) v =
    let e : Entry = record { interval = w; index = k } in
    ap (λ es. e ∷ es) (entries-push (k + 1) ws v
    ∙ ap (λ (i : ℕ). let f : Entry = record { interval = v; index = i } in entries_from (k + 1) ws ++ f ∷ [])
    (omega arith))

length-entries : (k : ℕ) (vs : List Interval) → length (entries_from k vs) ≡ length vs
length-entries k [] = refl
length-entries k (v ∷ vs) = ap suc (length-entries (k + 1) vs)

own_from : (live : List Interval) (k : ℕ) (vs : List Interval) →
    ((i : ℕ) (v : Interval) → slice_get vs i ≡ Some v → slice_get live (k + i) ≡ Some v) →
    All (λ (e : Entry). slice_get live e.index ≡ Some e.interval) (entries_from k vs)
own_from live k [] h = All-nil _
own_from live k (v ∷ vs) h =
    All-cons (λ (e : Entry). slice_get live e.index ≡ Some e.interval) (record { interval = v; index = k })
    (entries_from (k + 1) vs) (subst (λ (i : ℕ). slice_get live i ≡ Some v) (add-zero k) (h zero v refl))
    (own_from live (k + 1) vs (λ i w e. subst (λ (j : ℕ). slice_get live j ≡ Some w) (omega arith) (h (suc i) w e)))

contains_later : {X : Type 0} (x : X) (xs : List X) (y : X) → Contains xs y → Contains (x ∷ xs) y
contains_later x xs y h = (suc h.0, omega (arith, h.1), h.2)

whole_from : (k : ℕ) (vs : List Interval) (i : ℕ) (v : Interval) → slice_get vs i ≡ Some v →
    Contains (entries_from k vs) (record { interval = v; index = k + i })
whole_from k [] i v e = absurd (none-some v e)
whole_from k (w ∷ ws) zero v e =
    subst (λ (x : Entry). Contains (entries_from k (w ∷ ws)) x)
    (entry_at w v k (k + zero) (same_Some w v e) (sym (add-zero k))) (zero, omega arith, refl)
  where
    entry_at : (a b : Interval) (i j : ℕ) → a ≡ b → i ≡ j →
        ◌≡◌ {A = Entry} (record { interval = a; index = i }) (record { interval = b; index = j })
    entry_at a b i j p q = cc
whole_from k (w ∷ ws) (suc i) v e =
    subst (λ (j : ℕ). Contains (entries_from k (w ∷ ws)) (record { interval = v; index = j })) (omega arith)
    (contains_later _ _ _ (whole_from (k + 1) ws i v e))

counts_from : (n k : ℕ) (vs : List Interval) → held n (entries_from k vs) ≡ count_by (holds n) vs
counts_from n k [] = refl
counts_from n k (v ∷ vs) =
    let h = counts_from n (k + 1) vs in
    let e : Entry = record { interval = v; index = k } in
    let a = sum_by-cons (λ (x : Entry). cond (holds n x.interval) 1 0) e (entries_from (k + 1) vs) in
    let b = sum_by-cons (λ (x : Interval). cond (holds n x) 1 0) v vs in
    omega arith

pub in_order : (live : List Interval) (es ys : List Entry) → es ≡ entries_from 0 live → IsPermutation es ys →
    IsNonDecreasingBy (λ e. e.interval.first) ys → AreInOrder live ys
in_order live es ys at moved rising = record {
  one_each = length_permutation es ys moved ∙ (ap length at ∙ length-entries 0 live);
  own = All-permutation (λ (e : Entry). slice_get live e.index ≡ Some e.interval) es ys moved
      (subst (All (λ (e : Entry). slice_get live e.index ≡ Some e.interval)) (sym at)
      (own_from live 0 live (λ i v e. subst (λ (j : ℕ). slice_get live j ≡ Some v) (omega arith) e)));
  whole = λ i v e. Contains-permutation es ys _ moved
      (subst (λ (xs : List Entry). Contains xs (record { interval = v; index = i })) (sym at)
      (subst (λ (j : ℕ). Contains (entries_from 0 live) (record { interval = v; index = j })) (omega arith)
      (whole_from 0 live i v e)));
  counts = λ n. sum_by-IsPermutation (λ (e : Entry). cond (holds n e.interval) 1 0) es ys moved
      ∙ (ap (held n) at ∙ counts_from n 0 live);
  rising = rising;
}

-- one interval more
pub entries_more : (live : List Interval) (i : ℕ) (d : Interval) (ys : List Entry) → i < length live →
    ys ≡ entries_from 0 (take i live) →
    ys ++ (record { interval = get_or live i d; index = i }) ∷ [] ≡ entries_from 0 (take (i + 1) live)
entries_more live i d ys l at =
    let v = get_or live i d in
    let size : length (take i live) ≡ i = length-take-le i live (omega arith) in
    let with_index : ℕ → List Entry = λ j. entries_from 0 (take i live) ++ (record { interval = v; index = j }) ∷ [] in
    let same : with_index (0 + length (take i live)) ≡ with_index i = ap with_index (omega arith) in
    ap (λ (es : List Entry). let f : Entry = record { interval = v; index = i } in es ++ f ∷ []) at
    ∙ (sym same ∙ (sym (entries-push 0 (take i live) v) ∙ ap (entries_from 0) (sym (take_more live i d l))))
