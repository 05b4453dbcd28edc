-- The registers of ranks, and the choice of a rank.
use Rattle.std.proofs.Common.{ℕ, ◌≡◌, ◌+◌, ◌-◌, ◌<◌, ◌≤◌, ◌⊎◌, List, ◌∙◌, inl, inr, arith}
use Rattle.std.specs.Prelude.{Option, Some, None, IfSome, slice_index}
use Rattle.std.proofs.lemmas.Bool.Decides.{nat_tests}
use Rattle.std.proofs.lemmas.Bool.{cases_lt}
use Rattle.reg_alloc.specs.declared.intervals.Interval.{Interval}
use Rattle.reg_alloc.specs.Placed.{IsCrossed, IsUsable, IsKept, IsPassed}
use Rattle.reg_alloc.specs.Ranks.{register_of, rank_of, IsOwnRank}
use Rattle.reg_alloc.specs.Scanned.{IsChoice}

register_low : (k : ℕ) → k < 8 → register_of k ≡ 17 - k
unfolding register_of
register_low k l = grind (arith, nat_tests)

register_middle : (k : ℕ) → 8 ≤ k → k < 13 → register_of k ≡ k - 3
unfolding register_of
register_middle k g l = grind (arith, nat_tests)

register_high : (k : ℕ) → 13 ≤ k → register_of k ≡ k + 5
unfolding register_of
register_high k g = grind (arith, nat_tests)

rank_low : (r : ℕ) → r < 10 → rank_of r ≡ r + 3
unfolding rank_of
rank_low r l = grind (arith, nat_tests)

rank_middle : (r : ℕ) → 10 ≤ r → r < 18 → rank_of r ≡ 17 - r
unfolding rank_of
rank_middle r g l = grind (arith, nat_tests)

rank_high : (r : ℕ) → 18 ≤ r → rank_of r ≡ r - 5
unfolding rank_of
rank_high r g = grind (arith, nat_tests)

-- the three parts of the ranks
Parts : ℕ → Type 0
Parts k = ((k < 8) × (register_of k ≡ 17 - k)) ⊎
    (((8 ≤ k) × (k < 13) × (register_of k ≡ k - 3)) ⊎ ((13 ≤ k) × (register_of k ≡ k + 5)))

parts : (k : ℕ) → Parts k
unfolding Parts
parts k =
    elim (cases_lt k 8) [
      | inl l ↦ inl (l, register_low k l)
      | inr g ↦ elim (cases_lt k 13) [
        | inl l ↦ inr (inl (g, l, register_middle k g l))
        | inr h ↦ inr
            (inr (h, register_high k h))
      ]
    ]

pub rank-register : (k : ℕ) → k < 23 → rank_of (register_of k) ≡ k
unfolding Parts
rank-register k l =
    elim (parts k) [
      | inl p ↦ rank_middle (register_of k) (omega (arith, p.0, p.1)) (omega (arith, p.0, p.1))
          ∙ omega (arith, p.0, p.1)
      | inr q ↦ elim q [
        | inl p ↦ rank_low (register_of k) (omega (arith, p.0, p.1, p.2)) ∙ omega (arith, p.0, p.1, p.2)
        | inr p ↦ rank_high (register_of k) (omega (arith, p.0, p.1)) ∙ omega (arith, p.0, p.1)
      ]
    ]

usable : (k : ℕ) → k < 23 → IsUsable (register_of k)
unfolding Parts
usable k l =
    elim (parts k) [
      | inl p ↦ (omega (arith, p.0, p.1), omega (arith, p.0, p.1))
      | inr q ↦ elim q [
        | inl p ↦ (omega (arith, p.0, p.1, p.2), omega (arith, p.0, p.1, p.2))
        | inr p ↦
            (omega (arith, p.0, p.1), omega (arith, p.0, p.1))
      ]
    ]

kept : (k : ℕ) → 11 ≤ k → k < 23 → IsKept (register_of k)
unfolding Parts
kept k g l =
    elim (parts k) [
      | inl p ↦ absurd (omega (arith, p.0))
      | inr q ↦ elim q [
        | inl p ↦ elim (cases_lt k 12) [
          | inl m ↦ inl (omega (arith, p.2))
          | inr m ↦ inr
              (inl (omega (arith, p.1, p.2)))
        ]
        | inr p ↦ inr (inr (omega (arith, p.0, p.1), omega (arith, p.0, p.1)))
      ]
    ]

-- from rank 8 on no register takes an argument
no_argument : (k : ℕ) → 8 ≤ k → 10 ≤ register_of k → register_of k ≤ 17 → ⊥
unfolding Parts
no_argument k g low high =
    elim (parts k) [
      | inl p ↦ omega (arith, p.0)
      | inr q ↦ elim q [ inl p ↦ omega (arith, p.0, p.1, p.2) | inr p ↦ omega (arith, p.0, p.1) ]
    ]

pub own_choice : (calls : List ℕ) (i : ℕ) (v : Interval) (free_from : List ℕ) (k : ℕ) → IsOwnRank calls v i k →
    slice_index free_from k ≤ v.first → IsChoice calls i v free_from k
own_choice calls i v free_from k own free =
    let sum = own.rank in
    record {
      within = omega arith;
      free = free;
      suits = (
        (usable k (omega arith), λ x. absurd (own.uncrossed x)),
        λ p low high. (register_low k (omega arith) ∙ omega arith, own.parameter, own.no_argument),
      );
    }

pub rank_choice : (calls : List ℕ) (i : ℕ) (v : Interval) (free_from : List ℕ) (low k : ℕ) →
    (IsCrossed calls v → 11 ≤ low) → (IsPassed calls v → 8 ≤ low) → (low ≤ k) × (k < 23) →
    slice_index free_from k ≤ v.first → IsChoice calls i v free_from k
rank_choice calls i v free_from low k crossed passed within free =
    record {
      within = within.1;
      free = free;
      suits = (
        (usable k within.1, λ x. kept k (let l = crossed x in omega (arith, within.0)) within.1),
        λ p lo hi. absurd (no_argument k (let l = passed p in omega (arith, within.0)) lo hi),
      );
    }

pub first_choice : (calls : List ℕ) (i : ℕ) (v : Interval) (free_from : List ℕ) (low : ℕ) (r : Option ℕ) →
    (IsCrossed calls v → 11 ≤ low) → (IsPassed calls v → 8 ≤ low) → IfSome r (λ k. (low ≤ k) × (k < 23)) →
    IfSome r (λ k. slice_index free_from k ≤ v.first) → IfSome r (IsChoice calls i v free_from)
first_choice calls i v free_from low None crossed passed within free = tt
first_choice calls i v free_from low (Some k) crossed passed within free =
    rank_choice calls i v free_from low k crossed passed within free
