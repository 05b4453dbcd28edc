-- The bounds of an alignment and an owned length within the limit.
use Rattle.std.proofs.Common.{ℕ, ◌+◌, ◌-◌, ◌*◌, ◌/◌, ◌^◌, ◌<◌, ◌≤◌, inl, inr, arith}
use Rattle.std.proofs.Math.Nat.{pow-le-pow_right}
use Rattle.std.proofs.lemmas.Bool.{cases_lt}
use Rattle.cap_concentrate.specs.Rounding.{rounded_up, alignment, owned, bounds_exponent}
use Rattle.cap_concentrate.proofs.Owned.{IsAlignment, alignment_short, alignment_long, alignment_pos}
use Rattle.c_tree.specs.Layout.{size_limit}
use Rattle.cap_layout.specs.Extents.{greatest_align}

div_mul : (n a : ℕ) → 0 < a → (n / a * a ≤ n) × (n < n / a * a + a)
div_mul n a h = (omega arith, omega arith)

pub rounded_up_bounds : (n a : ℕ) → 0 < a → (n ≤ rounded_up n a) × (rounded_up n a < n + a)
rounded_up_bounds n a h = let b = div_mul (n + (a - 1)) a h in (omega arith, omega arith)

exponent_most : (n e : ℕ) → n ≤ size_limit → IsAlignment n e → e ≤ 14
exponent_most n e h a =
    elim (cases_lt e 15) as (λ _. e ≤ 14) [
      | inl lt ↦ omega arith
      | inr le ↦ absurd (let f = a.first 14 (omega arith) in let b = rounded_up_bounds n (2 ^ 17) (omega arith) in
          omega (arith, f, b.1))
    ]

power_most : (e : ℕ) → e ≤ 14 → 2 ^ (e + 3) ≤ 131072
power_most e h = let l : e + 3 ≤ 17 = omega arith in omega (arith, pow-le-pow_right {n = 2} (omega arith) l)

pub alignment_most : (n : ℕ) → n ≤ size_limit → alignment n ≤ greatest_align
alignment_most n h =
    elim (cases_lt n 4096) as (λ _. alignment n ≤ greatest_align) [
      | inl lt ↦ omega (arith, alignment_short n lt)
      | inr le ↦
          let a = alignment_long n le (omega arith) in
          omega (arith, a.is, power_most (bounds_exponent 0 n) (exponent_most n (bounds_exponent 0 n) h a))
    ]

-- what an object of n bytes owns
pub record Owns (n : ℕ) : Type 0 where
  pub positive : 0 < alignment n
  pub greatest : alignment n ≤ greatest_align
  pub holds : n ≤ owned n
  pub padding : owned n < n + alignment n

pub owns : (n : ℕ) → n ≤ size_limit → Owns n
unfolding owned
owns n h =
    let b = rounded_up_bounds n (alignment n) (alignment_pos n) in
    record { positive = alignment_pos n; greatest = alignment_most n h; holds = b.0; padding = b.1 }
