-- The canonical fields of bounds: those of the least exponent that holds their length (CHERI ISAv9, CHERI Concentrate,
-- encoding).
use Rattle.std.specs.Prelude.{ℕ, ◌≡◌, ◌+◌, ◌-◌, ◌*◌, ◌/◌, ◌%◌, ◌^◌, ◌<◌, ◌≤◌, Bool, nat_lt, nat_le, if◌then◌else◌}
use Rattle.std.proofs.Common.{arith}
use Rattle.std.proofs.lemmas.Bool.{cond_both}
use Rattle.cap_concentrate.specs.declared.fields.Fields.{Fields}
use Rattle.cap_concentrate.specs.Rounding.{least_exponent, least_exponent_within}

-- the least exponent at which a length is below 2 ^ (e + 13)
unfoldable pub length_exponent : ℕ → ℕ
length_exponent n = least_exponent (λ e. nat_lt n (2 ^ (e + 13)))

-- L: the internal form is for lengths from 4096 on
unfoldable pub encoded_internal : ℕ → ℕ → Bool
encoded_internal base top = nat_le 4096 (top - base)

-- the low 12 bits of T
unfoldable pub encoded_t : ℕ → ℕ → ℕ
encoded_t base top =
    let e = length_exponent (top - base) in
    (if nat_le 4096 (top - base) then top / 2 ^ (e + 3) % 512 * 8 + e / 8 else top % 4096)

-- the 14 bits of B
unfoldable pub encoded_b : ℕ → ℕ → ℕ
encoded_b base top =
    let e = length_exponent (top - base) in
    (if nat_le 4096 (top - base) then base / 2 ^ (e + 3) % 2048 * 8 + e % 8 else base % 16384)

-- these fields are the canonical ones of the bounds
pub record AreEncoded (internal : Bool) (t b base top : ℕ) : Type 0 where
  pub internal_is : internal ≡ encoded_internal base top
  pub t_is : t ≡ encoded_t base top
  pub b_is : b ≡ encoded_b base top

-- ---- the canonical fields are in range

pub length_exponent_within : (n : ℕ) → length_exponent n ≤ 52
unfolding length_exponent
length_exponent_within n = least_exponent_within (λ e. nat_lt n (2 ^ (e + 13)))

pub encoded_t_below : (base top : ℕ) → encoded_t base top < 4096
unfolding encoded_t
encoded_t_below base top =
    let e = length_exponent (top - base) in
    let h : e ≤ 52 = length_exponent_within (top - base) in
    cond_both (nat_le 4096 (top - base)) (top / 2 ^ (e + 3) % 512 * 8 + e / 8) (top % 4096) (λ x. x < 4096)
    (λ _. omega arith) (λ _. omega arith)

pub encoded_b_below : (base top : ℕ) → encoded_b base top < 16384
unfolding encoded_b
encoded_b_below base top =
    let e = length_exponent (top - base) in
    cond_both (nat_le 4096 (top - base)) (base / 2 ^ (e + 3) % 2048 * 8 + e % 8) (base % 16384) (λ x. x < 16384)
    (λ _. omega arith) (λ _. omega arith)

-- the fields f, but with these bounds, in their canonical form
unfoldable pub with_bounds : Fields → ℕ → ℕ → Fields
with_bounds f base top = record f {
  internal = encoded_internal base top;
  t = encoded_t base top;
  b = encoded_b base top;
  t_in_range = encoded_t_below base top;
  b_in_range = encoded_b_below base top;
}
