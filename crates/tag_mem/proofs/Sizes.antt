-- Accesses of 1, 2, 4 and 8 bytes.
use Rattle.std.proofs.Common.{◌≡◌, ℕ, ◌+◌, ◌%◌, ◌<◌, ◌≤◌, ◌⊎◌, inl, inr, arith}
use Rattle.std.proofs.lemmas.Bool.Decides.{nat_tests}
use Rattle.tag_mem.specs.Memory.{IsAccessSize}

-- an access at a multiple of its size lies in one granule
pub record InGranule (at n : ℕ) : Type 0 where
  pub some : 0 < n
  pub most : n ≤ 8
  pub granule : at % 16 + n ≤ 16
  pub within : at % 8 + n ≤ 8

sizes : (n : ℕ) → IsAccessSize n → (n ≡ 1) ⊎ ((n ≡ 2) ⊎ ((n ≡ 4) ⊎ (n ≡ 8)))
sizes n h = grind (arith, nat_tests)

pub in_granule : (at n : ℕ) → IsAccessSize n → at % n ≡ 0 → InGranule at n
in_granule at n size aligned = elim (sizes n size) [
  | inl one ↦ record { some = omega arith; most = omega arith; granule = omega arith; within = omega arith }
  | inr more ↦ elim more [
    | inl two ↦ let even : at % 2 ≡ 0 = rw (← two) aligned in
        record { some = omega arith; most = omega arith; granule = omega arith; within = omega arith }
    | inr more ↦ elim more [
      | inl four ↦ let even : at % 4 ≡ 0 = rw (← four) aligned in
          record { some = omega arith; most = omega arith; granule = omega arith; within = omega arith }
      | inr eight ↦ let even : at % 8 ≡ 0 = rw (← eight) aligned in
          record { some = omega arith; most = omega arith; granule = omega arith; within = omega arith }
    ]
  ]
]
