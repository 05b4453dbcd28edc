-- What the code computes of a request are its least bounds, their canonical fields and its alignment.
use Rattle.std.proofs.Common.{◌≡◌, ℕ, zero, suc, ◌+◌, ◌-◌, ◌*◌, ◌/◌, ◌%◌, ◌^◌, ◌<◌, ◌≤◌, bit_and, Bool, true, refl, sym}
use Rattle.std.proofs.Common.{ap, ◌∙◌, arith, subst}
use Rattle.std.proofs.lemmas.Bool.{cond-true, cond-false, le-leb, lt-leb}
use Rattle.std.proofs.lemmas.Nat.{pow_pos, field_of}
use Rattle.std.proofs.lemmas.Nat.Bits.{and_high_mask, ones_shl}
use Rattle.std.proofs.Math.Nat.{mod-eq_of_lt, pow-le-pow_right, mul-mod_left}
use Rattle.cap_concentrate.specs.Decoding.{base_of, top_of}
use Rattle.cap_concentrate.specs.Rounding.{IsLeastBounds, rounded_down, rounded_up, bounds_exponent, least_base}
use Rattle.cap_concentrate.specs.Rounding.{least_top, alignment, owned}
use Rattle.cap_concentrate.specs.Encoding.{AreEncoded}
use Rattle.cap_concentrate.proofs.Near.{shifted_64}
use Rattle.cap_concentrate.proofs.Least.{rounded_down_le, rounded_up_ge, rounded_within, up_inside, down_inside}
use Rattle.cap_concentrate.proofs.Least.{IsExponent, bounds_exponent_serves, least_functions}
use Rattle.cap_concentrate.proofs.Encoded.{pow_512, pow_1024, cancel_le, cancel_lt, long_encoded, encoded_decodes}
use Rattle.cap_concentrate.proofs.Owned.{alignment_short, alignment_long, alignment_power, owned_exact}

-- ---- a short request
pub short_base : (base len : ℕ) → len < 4096 → least_base base (base + len) ≡ base
unfolding least_base
short_base base len h = cond-true _ _ _ (le-leb (base + len - base) 4095 (omega arith))

pub short_top : (base len : ℕ) → len < 4096 → least_top base (base + len) ≡ base + len
unfolding least_top
short_top base len h = cond-true _ _ _ (le-leb (base + len - base) 4095 (omega arith))

-- ---- a request of 4096 bytes or more, whose rounded length has ten bits
rounded_long : (start end e : ℕ) → start + 4096 ≤ end →
    ((j : ℕ) → j < e → rounded_down start (2 ^ (j + 3)) + 2 ^ (j + 13) ≤ rounded_up end (2 ^ (j + 3))) →
    rounded_down start (2 ^ (e + 3)) + 2 ^ (e + 12) ≤ rounded_up end (2 ^ (e + 3))
rounded_long start end zero l f =
    omega (arith, rounded_down_le start (2 ^ (0 + 3)), rounded_up_ge end (2 ^ (0 + 3)) (pow_pos (0 + 3)))
rounded_long start end (suc j) l f =
    let m = 2 ^ (suc j + 3) in
    let le : j ≤ suc j = omega arith in
    let same : j + 13 ≡ suc j + 12 = omega arith in
    let p : 2 ^ (j + 13) ≡ 2 ^ (suc j + 12) = ap (λ v. 2 ^ v) same in
    let d = down_inside start (rounded_down start m) j (suc j) le (mul-mod_left _ m) (rounded_down_le start m) in
    let u = up_inside end (rounded_up end m) j (suc j) le (mul-mod_left _ m)
    (rounded_up_ge end m (pow_pos (suc j + 3))) in
    omega (arith, f j (omega arith), d, u, p)

module _ (base len e high : ℕ) (exponent_is : e ≡ bounds_exponent base (base + len))
    (high_is : high ≡ (base + len + (2 ^ (e + 3) - 1)) / 2 ^ (e + 3)) (long : 4096 ≤ len)
    (fits : base + len ≤ 2 ^ 64) where
  serves : IsExponent base (base + len) e
  serves = subst (λ v. IsExponent base (base + len) v) (sym exponent_is) (bounds_exponent_serves base (base + len) fits)

  down_value : base / 2 ^ (e + 3) * 2 ^ (e + 3) % 2 ^ 64 ≡ rounded_down base (2 ^ (e + 3))
  down_value = let l : rounded_down base (2 ^ (e + 3)) < 2 ^ 64 = omega (arith, rounded_down_le base (2 ^ (e + 3))) in
      mod-eq_of_lt l

  up_value : high * 2 ^ (e + 3) % 2 ^ 128 ≡ rounded_up (base + len) (2 ^ (e + 3))
  up_value =
      let w = serves.within in
      let l : rounded_up (base + len) (2 ^ (e + 3)) < 2 ^ 128 = omega (arith, rounded_within (base + len) e w fits) in
      rw high_is (mod-eq_of_lt l)

  pub long_base : base / 2 ^ (e + 3) * 2 ^ (e + 3) % 2 ^ 64 ≡ least_base base (base + len)
  unfolding least_base
  long_base = down_value ∙ ap (λ v. rounded_down base (2 ^ (v + 3))) exponent_is
      ∙ sym (cond-false _ _ _ (lt-leb (base + len - base) 4095 (omega arith)))

  pub long_top : high * 2 ^ (e + 3) % 2 ^ 128 ≡ least_top base (base + len)
  unfolding least_top
  long_top = up_value ∙ ap (λ v. rounded_up (base + len) (2 ^ (v + 3))) exponent_is
      ∙ sym (cond-false _ _ _ (lt-leb (base + len - base) 4095 (omega arith)))

  pub long_fields : AreEncoded true (high % 512 * 8 + e / 8) (base / 2 ^ (e + 3) % 2048 * 8 + e % 8)
      (base / 2 ^ (e + 3) * 2 ^ (e + 3) % 2 ^ 64) (high * 2 ^ (e + 3) % 2 ^ 128)
  long_fields =
      let x = serves in
      let short = x.short in
      let low = base / 2 ^ (e + 3) in
      let more : rounded_down base (2 ^ (e + 3)) + 2 ^ (e + 12) ≤ rounded_up (base + len) (2 ^ (e + 3)) =
      rounded_long base (base + len) e (omega arith) x.first in
      long_encoded e low high _ _ (record {
        within = x.within;
        base_is = down_value;
        top_is = up_value ∙ rw high_is refl;
        long = cancel_le (low + 512) high (e + 3) (rw high_is (omega (arith, pow_512 e)));
        short = cancel_lt high (low + 1024) (e + 3) (rw high_is (omega (arith, pow_1024 e)));
      })

-- ---- a request's least bounds
pub request_decodes : (base len : ℕ) → base < 2 ^ 64 → base + len ≤ 2 ^ 64 → (internal : Bool) (t b base' top' : ℕ) →
    AreEncoded internal t b base' top' → base' ≡ least_base base (base + len) → top' ≡ least_top base (base + len) →
    (base_of internal t b base ≡ base') × (top_of internal t b base ≡ top')
request_decodes base len below fits internal t b base' top' is eb et =
    let least : IsLeastBounds base (base + len) base' top' =
    rw (eb, et) (least_functions base (base + len) (omega arith) fits) in
    let from = least.from in
    let to = least.to in
    rw (
      is.internal_is,
      is.t_is,
      is.b_is,
    ) (encoded_decodes base' top' base least.encodable (omega arith) from (omega arith))

pub request_exact : (base len n : ℕ) → base + len ≤ 2 ^ 64 → len ≡ owned n → base % alignment n ≡ 0 →
    (least_base base (base + len) ≡ base) × (least_top base (base + len) ≡ base + len)
request_exact base len n fits is multiple =
    rw is (owned_exact base n (rw (← is) fits) multiple)

-- ---- the mask
pub mask_short : (len : ℕ) → len < 4096 → 2 ^ 64 - 1 + alignment len ≡ 2 ^ 64
mask_short len h = omega (arith, alignment_short len h)

pub mask_long : (len e : ℕ) → 4096 ≤ len → len < 2 ^ 64 → e ≡ bounds_exponent 0 (0 + len) →
    (2 ^ 64 - 1) * 2 ^ (e + 3) % 2 ^ 64 + alignment len ≡ 2 ^ 64
mask_long len e l h is =
    let zero_sum : 0 + len ≡ len = omega arith in
    let is' : e ≡ bounds_exponent 0 len = rw zero_sum at is in
    let a = alignment_long len l (omega arith) in
    let w = a.within in
    let k : e + 3 ≤ 64 = omega arith in
    let two : 0 < 2 = omega arith in
    let p : 2 ^ (e + 3) ≤ 2 ^ 64 = pow-le-pow_right two k in
    let al : alignment len ≡ 2 ^ (e + 3) = rw is' a.is in
    omega (arith, ones_shl 64 (e + 3) k)

down_mod : (y k j : ℕ) → j + k ≡ 64 → y % 2 ^ 64 / 2 ^ k * 2 ^ k ≡ (y / 2 ^ k * 2 ^ k) % 2 ^ 64
down_mod y k j s =
    subst (λ w. y % 2 ^ w / 2 ^ k * 2 ^ k ≡ y / 2 ^ k % 2 ^ j * 2 ^ k) s (ap (λ v. v * 2 ^ k) (field_of y j k))
    ∙ sym (shifted_64 (y / 2 ^ k) j k s)

masked_at : (len mask k : ℕ) → k ≤ 64 → mask + 2 ^ k ≡ 2 ^ 64 →
    bit_and ((len + (2 ^ 64 - 1 - mask)) % 2 ^ 64) mask ≡ rounded_up len (2 ^ k) % 2 ^ 64
masked_at len mask k h is =
    let m : mask ≡ 2 ^ 64 - 2 ^ k = omega arith in
    let p : 0 < 2 ^ k = pow_pos k in
    let low : 2 ^ 64 - 1 - (2 ^ 64 - 2 ^ k) ≡ 2 ^ k - 1 = omega arith in
    let below : (len + (2 ^ k - 1)) % 2 ^ 64 < 2 ^ 64 = omega arith in
    rw (m, low) (and_high_mask 64 k h ((len + (2 ^ k - 1)) % 2 ^ 64) below
    ∙ down_mod (len + (2 ^ k - 1)) k (64 - k) (omega arith))

pub masked : (len mask : ℕ) → mask + alignment len ≡ 2 ^ 64 →
    bit_and ((len + (2 ^ 64 - 1 - mask)) % 2 ^ 64) mask ≡ owned len % 2 ^ 64
unfolding owned
masked len mask is =
    let a = alignment_power len in
    let small = a.1 in
    rw a.2 (masked_at len mask a.0 (omega arith) (rw (← a.2) is))
