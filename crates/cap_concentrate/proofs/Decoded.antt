-- Fields decode to the bounds that they spell, at each address in the region of the base.
use Rattle.std.proofs.Common.{◌≡◌, ℕ, ◌+◌, ◌-◌, ◌*◌, ◌/◌, ◌%◌, ◌^◌, ◌<◌, ◌≤◌, Bool, ltb, ◌&&◌, refl, arith}
use Rattle.std.proofs.lemmas.Bool.{ltb-true, cond_both, and_parts}
use Rattle.std.proofs.lemmas.Nat.{pow_pos}
use Rattle.std.proofs.Math.Nat.{pow-le-pow_right, mul-le-mul_right, mul-lt-mul_of_pos_right}
use Rattle.cap_concentrate.specs.Decoding.{exponent, mantissa, whole_top, corrected, base_of, top_of}
use Rattle.cap_concentrate.proofs.Region.{InRegion, region_above, placed_at}

-- the fields spell the base v and the length d, in units of 2 ^ e
pub record Spell (internal : Bool) (t b e v d : ℕ) : Type 0 where
  pub exponent_is : exponent internal t b ≡ e
  pub base_is : mantissa internal b ≡ v % 16384
  pub top_is : whole_top internal (mantissa internal t) (mantissa internal b) ≡ (v + d) % 16384

-- the base v and the length d, in units of 2 ^ e, lie in the address space
pub record IsSpan (e v d : ℕ) : Type 0 where
  pub short : d < 8192
  pub base_within : v * 2 ^ e < 2 ^ 64
  pub top_within : (v + d) * 2 ^ e ≤ 2 ^ 64

corrected_stays : (e base top : ℕ) → base ≤ top → top ≤ 2 ^ 64 → (e < 51 → top < base + 2 ^ 63) →
    corrected e base top ≡ top
unfolding corrected
corrected_stays e base top l h near =
    cond_both (ltb e 51 && ltb 1 ((top / 2 ^ 63 + 4 - base / 2 ^ 63) % 4)) ((top + 2 ^ 64) % 2 ^ 65) top (λ v. v ≡ top)
    (λ p. let q = and_parts (ltb e 51) (ltb 1 ((top / 2 ^ 63 + 4 - base / 2 ^ 63) % 4)) p in
    let n = near (ltb-true e 51 q.0) in
    let far = ltb-true _ _ q.1 in
    absurd (omega (arith, n, far)))
    (λ p. refl)

-- the bit above the top is left as it is
top_stays : (e v d : ℕ) → IsSpan e v d → corrected e (v * 2 ^ e) ((v + d) * 2 ^ e) ≡ (v + d) * 2 ^ e
top_stays e v d s =
    let more : v ≤ v + d = omega arith in
    corrected_stays e (v * 2 ^ e) ((v + d) * 2 ^ e) (mul-le-mul_right (2 ^ e) more) s.top_within
    (λ h. let two : 0 < 2 = omega arith in
    let fifty : e ≤ 50 = omega arith in
    let p : 2 ^ e ≤ 2 ^ 50 = pow-le-pow_right two fifty in
    omega (arith, mul-lt-mul_of_pos_right s.short (pow_pos e)))

pub decoded_base : (internal : Bool) (t b e v d a : ℕ) → Spell internal t b e v d → IsSpan e v d →
    InRegion v (a / 2 ^ e) → base_of internal t b a ≡ v * 2 ^ e
unfolding base_of
decoded_base internal t b e v d a f s near =
    let w = s.base_within in
    let own : InRegion v v = region_above v v (omega arith) (omega arith) in
    rw (f.exponent_is, f.base_is, placed_at e a v v near own) (omega arith)

pub decoded_top : (internal : Bool) (t b e v d a : ℕ) → Spell internal t b e v d → IsSpan e v d →
    InRegion v (a / 2 ^ e) → top_of internal t b a ≡ (v + d) * 2 ^ e
unfolding top_of
decoded_top internal t b e v d a f s near =
    let w = s.top_within in
    let short = s.short in
    let own : InRegion v (v + d) = region_above v (v + d) (omega arith) (omega arith) in
    let whole : (v + d) * 2 ^ e % 2 ^ 65 ≡ (v + d) * 2 ^ e = omega arith in
    rw (
      decoded_base internal t b e v d a f s near,
      f.exponent_is,
      f.top_is,
      f.base_is,
      placed_at e a v (v + d) near own,
      whole,
    )
    (top_stays e v d s)
