-- Addresses and bounds in the region of a base, in units of 2 ^ e: the eight blocks of 2 ^ 11 units from the one below
-- the base on.
use Rattle.std.proofs.Common.{◌≡◌, ℕ, ◌+◌, ◌-◌, ◌*◌, ◌/◌, ◌%◌, ◌^◌, ◌<◌, ◌≤◌, ltb, ap, ◌∙◌, arith}
use Rattle.std.proofs.lemmas.Bool.{ltb-true, ltb-false, cond_both}
use Rattle.std.proofs.lemmas.Nat.{shr-shr, pow-add}
use Rattle.cap_concentrate.specs.Decoding.{high, placed}

pub record InRegion (b x : ℕ) : Type 0 where
  pub from : b / 2048 ≤ x / 2048 + 1
  pub below : x / 2048 + 1 < b / 2048 + 8

-- from a base up, 2 ^ 13 units are in its region
pub region_above : (b x : ℕ) → b ≤ x → x < b + 8192 → InRegion b x
region_above b x l h = record { from = omega arith; below = omega arith }

-- the block of 2 ^ 14 units: the base's, and one more where x is high
pub high_at : (b x : ℕ) → InRegion b x → x / 16384 + 1 ≡ (b / 2048 + 7) / 8 + high (x % 16384) (b % 16384)
unfolding high
high_at b x r =
    cond_both (ltb (x % 16384 / 2048) ((b % 16384 / 2048 + 7) % 8)) 1 0 (λ v. x / 16384 + 1 ≡ (b / 2048 + 7) / 8 + v)
    (λ e. omega (arith, ltb-true _ _ e)) (λ e. omega (arith, ltb-false _ _ e))

-- so x is found again from its low 14 bits and from an address a in the region
found_again : (b a x : ℕ) → InRegion b a → InRegion b x →
    (a / 16384 + 2 ^ 65 + high (x % 16384) (b % 16384) - high (a % 16384) (b % 16384)) * 16384 + x % 16384 ≡ 2 ^ 79 + x
found_again b a x ra rx = omega (arith, high_at b a ra, high_at b x rx)

-- a number of blocks and units, in bytes
pub in_bytes : (e q y x : ℕ) → q * 16384 + y ≡ x → q * 2 ^ (e + 14) + y * 2 ^ e ≡ x * 2 ^ e
in_bytes e q y x s =
    let p : 2 ^ (e + 14) ≡ 2 ^ e * 16384 = pow-add 2 e 14 in
    omega (arith, ap (λ v. v * 2 ^ e) s, ap (λ v. q * v) p)

pub placed_at : (e address b x : ℕ) → InRegion b (address / 2 ^ e) → InRegion b x →
    placed e address (b % 16384) (x % 16384) ≡ (x * 2 ^ e) % 2 ^ 65
unfolding placed
placed_at e address b x ra rx =
    rw (← shr-shr address e 14)
    (ap (λ v. v % 2 ^ 65) (in_bytes e _ (x % 16384) (2 ^ 79 + x) (found_again b (address / 2 ^ e) x ra rx))
    ∙ omega arith)
