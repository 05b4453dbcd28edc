-- Alignments and owned lengths, in 64 bits.
use Rattle.std.proofs.Common.{lit<, ◌≡◌, ℕ, ◌+◌, ◌-◌, ◌%◌, ◌^◌, ◌<◌, ◌≤◌, nat_le, sym, ap, ◌∙◌, arith, inl, inr}
use Rattle.std.specs.Prelude.{◌==◌}
use Rattle.std.proofs.lemmas.Bool.{cases_lt, cond_both, ne_eqb}
use Rattle.std.proofs.lemmas.Nat.{pow_pos}
use Rattle.std.proofs.Math.Nat.{pow-le-pow_right, mod-eq_of_lt}
use Rattle.cap_concentrate.specs.Rounding.{rounded_up, bounds_exponent, least_top, alignment, owned}
use Rattle.cap_concentrate.proofs.Least.{rounded_up_ge}
use Rattle.cap_concentrate.proofs.Owned.{alignment_pos, alignment_power, owned_near}

pub alignment_below : (n : ℕ) → alignment n ≤ 2 ^ 55
alignment_below n =
    let p = alignment_power n in
    let most : 2 ^ p.0 ≤ 2 ^ 55 = pow-le-pow_right (lit< tt) p.1 in
    omega (arith, most, p.2)

-- the alignment, from its mask
pub unmasked : (n mask : ℕ) → mask + alignment n ≡ 2 ^ 64 → (0 + (2 ^ 64 - mask)) % 2 ^ 64 ≡ alignment n
unmasked n mask h = omega (arith, h, alignment_below n, alignment_pos n)

-- whether a length is its own owned length can be told from 64 bits
pub owned_kept : (n : ℕ) → n < 2 ^ 64 → (owned n % 2 ^ 64 == n) ≡ (owned n == n)
owned_kept n h = elim (cases_lt (owned n) (2 ^ 64)) [
  | inl l ↦ ap (λ x. x == n) (mod-eq_of_lt l)
  | inr g ↦
      let near = owned_near n in
      let below = alignment_below n in
      ne_eqb (owned n % 2 ^ 64) n (λ e. omega (arith, e, g, h, near, below))
      ∙ sym (ne_eqb (owned n) n (λ e. omega (arith, e, g, h)))
]

pub top_from : (start end : ℕ) → end ≤ least_top start end
unfolding least_top
top_from start end =
    cond_both (nat_le (end - start) 4095) end (rounded_up end (2 ^ (bounds_exponent start end + 3))) (λ v. end ≤ v)
    (λ _. omega arith) (λ _. rounded_up_ge end _ (pow_pos _))

-- and the mask, from the alignment
pub masked : (n mask : ℕ) → mask + alignment n ≡ 2 ^ 64 → mask ≡ 2 ^ 64 - alignment n
masked n mask h = omega (arith, h)
