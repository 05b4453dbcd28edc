-- The base and the top by sums in 64 bits: the base from where the region of the address begins, and the top from the
-- base and the length.
use Rattle.std.proofs.Common.{◌≡◌, ℕ, ◌+◌, ◌-◌, ◌*◌, ◌/◌, ◌%◌, ◌^◌, ◌<◌, ◌≤◌, ltb, refl, sym, ap, ◌∙◌, arith, inl, inr}
use Rattle.std.proofs.lemmas.Bool.{cases_lt, cond_both, ltb-true, ltb-false, lt-ltb}
use Rattle.std.proofs.lemmas.Nat.{shr-shr, mul-mod_first, shr_le, pow_pos}
use Rattle.std.proofs.Math.Nat.{mul-lt-mul_of_pos_right, pow-le-pow_right, mod-mod}
use Rattle.cap_concentrate.specs.Decoding.{high, placed, corrected}
use Rattle.cap_concentrate.proofs.Region.{in_bytes}
use Rattle.cap_concentrate.proofs.Near.{placed_units, units_apart}

-- ---- the base
-- modulo 2 ^ 64 a product with 2 ^ e depends on the low 64 bits
low_product : (u v e : ℕ) → u % 2 ^ 64 ≡ v % 2 ^ 64 → (u * 2 ^ e) % 2 ^ 64 ≡ (v * 2 ^ e) % 2 ^ 64
low_product u v e s =
    sym (mul-mod_first u (2 ^ e) (2 ^ 64)) ∙ ap (λ x. (x * 2 ^ e) % 2 ^ 64) s ∙ mul-mod_first v (2 ^ e) (2 ^ 64)

-- the 14 bits at which a region begins, of a base with the 14 bits b
abbrev pub limit : ℕ → ℕ
limit b = (b / 2048 + 7) % 8 * 2048

-- 14 bits are high where they are below the limit
high_below : (x b : ℕ) → x < 16384 → (x + 16384 - limit b) / 16384 + high x b ≡ 1
unfolding high
high_below x b h =
    cond_both (ltb (x / 2048) ((b / 2048 + 7) % 8)) 1 0 (λ v. (x + 16384 - limit b) / 16384 + v ≡ 1)
    (λ e. omega (arith, ltb-true _ _ e)) (λ e. omega (arith, ltb-false _ _ e))

region_units : (u b : ℕ) → u < 2 ^ 64 → b < 16384 →
    ((u + (2 ^ 64 - limit b)) % 2 ^ 64 / 16384 * 16384 + (limit b + 2048 + b % 2048)) % 2 ^ 64
    ≡ ((u / 16384 + 2 ^ 65 + high b b - high (u % 16384) b) * 16384 + b) % 2 ^ 64
region_units u b hu hb =
    let low : u % 16384 < 16384 = omega arith in
    omega (arith, high_below b b hb, high_below (u % 16384) b low)

-- the base, by differences and sums modulo 2 ^ 64
pub placed_base_is : (e address b : ℕ) → address < 2 ^ 64 → b < 16384 →
    (((address / 2 ^ e + (2 ^ 64 - limit b)) % 2 ^ 64 / 16384 * 16384 + (limit b + 2048 + b % 2048)) % 2 ^ 64 * 2 ^ e) %
    2 ^ 64 ≡ placed e address b b % 2 ^ 64
unfolding placed
placed_base_is e address b ha hb =
    let u = address / 2 ^ e in
    let fits : u < 2 ^ 64 = omega (arith, shr_le address e) in
    let q = u / 16384 + 2 ^ 65 + high b b - high (u % 16384) b in
    rw (← shr-shr address e 14)
    (low_product _ (q * 16384 + b) e (mod-mod _ (2 ^ 64) ∙ region_units u b fits hb)
    ∙ omega (arith, in_bytes e q b _ refl))

-- ---- the top
-- in 64 bits the top is the sum of the base and the length
low_top : (e address b d t : ℕ) → b < 16384 → d < 8192 → t ≡ (b + d) % 16384 →
    placed e address b t % 2 ^ 64 ≡ (placed e address b b % 2 ^ 64 + d * 2 ^ e) % 2 ^ 64
low_top e address b d t hb hd s =
    rw (placed_units e address b t, placed_units e address b b, units_apart e address b d t hb hd s) (omega arith)

-- from exponent 51 on no bit of the address counts
pub high_top : (e address b d t : ℕ) → 51 ≤ e → e ≤ 52 → t ≡ (b + d) % 16384 →
    placed e address b t ≡ ((b + d) * 2 ^ e) % 2 ^ 65
unfolding placed
high_top e address b d t l h s =
    elim (cases_lt e 52) as (λ _. placed e address b t ≡ ((b + d) * 2 ^ e) % 2 ^ 65) [
      | inl less ↦ let is : e ≡ 51 = omega arith in rw is (omega arith)
      | inr more ↦ let is : e ≡ 52 = omega arith in rw is (omega arith)
    ]

-- below it, bit 64 is put right whatever it was
corrected_sum : (e base n top : ℕ) → e < 51 → base < 2 ^ 64 → n < 2 ^ 63 → top < 2 ^ 65 →
    top % 2 ^ 64 ≡ (base + n) % 2 ^ 64 → corrected e base top ≡ base + n
unfolding corrected
corrected_sum e base n top h hb hn ht s =
    rw (lt-ltb e 51 h)
    (cond_both (ltb 1 ((top / 2 ^ 63 + 4 - base / 2 ^ 63) % 4)) ((top + 2 ^ 64) % 2 ^ 65) top (λ v. v ≡ base + n)
    (λ p. omega (arith, ltb-true _ _ p)) (λ p. omega (arith, ltb-false _ _ p)))

-- the length is below 2 ^ 63
length_fits : (e d : ℕ) → e < 51 → d < 8192 → d * 2 ^ e < 2 ^ 63
length_fits e d h hd =
    let two : 0 < 2 = omega arith in
    let fifty : e ≤ 50 = omega arith in
    let p : 2 ^ e ≤ 2 ^ 50 = pow-le-pow_right two fifty in
    omega (arith, mul-lt-mul_of_pos_right hd (pow_pos e))

-- so the top is the sum of the base and the length, in 65 bits
pub top_sum : (e address b d t : ℕ) → e < 51 → b < 16384 → d < 8192 → t ≡ (b + d) % 16384 →
    corrected e (placed e address b b % 2 ^ 64) (placed e address b t) ≡ placed e address b b % 2 ^ 64 + d * 2 ^ e
top_sum e address b d t h hb hd s =
    let fits : placed e address b t < 2 ^ 65 = rw (placed_units e address b t) (omega arith) in
    corrected_sum e _ (d * 2 ^ e) _ h (omega arith) (length_fits e d h hd) fits (low_top e address b d t hb hd s)

-- and it is found from the sum in 64 bits
pub low_enough : (e address b d t : ℕ) → e < 51 → b < 16384 → d < 8192 → t ≡ (b + d) % 16384 →
    let base = placed e address b b % 2 ^ 64 in
    corrected e base ((base + (d * 2 ^ e) % 2 ^ 64) % 2 ^ 64) ≡ corrected e base (placed e address b t)
low_enough e address b d t h hb hd s =
    let fits = length_fits e d h hd in
    corrected_sum e _ (d * 2 ^ e) _ h (omega arith) fits (omega arith) (omega arith)
    ∙ sym (top_sum e address b d t h hb hd s)
