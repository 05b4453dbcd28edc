-- The canonical fields decode to their bounds, and below 2 ^ 40 no other fields do.
use Rattle.std.proofs.Common.{◌≡◌, ℕ, zero, suc, ◌+◌, ◌-◌, ◌*◌, ◌/◌, ◌%◌, ◌^◌, ◌<◌, ◌≤◌, min, Bool, true, false, nat_lt}
use Rattle.std.proofs.Common.{ltb, refl, sym, ap, ◌∙◌, arith, subst, inl, inr}
use Rattle.std.proofs.lemmas.Bool.{cases_lt, cond_both, ltb-true, ltb-false, lt-ltb, le-ltb, le-leb, lt-leb}
use Rattle.std.proofs.lemmas.Nat.{pow-add, pow_pos, shl-shr}
use Rattle.std.proofs.Math.Nat.{pow-le-pow_right, mul-le-mul_right, mul-lt-mul_of_pos_right, mul-mod_left}
use Rattle.cap_concentrate.specs.Decoding.{base_of, top_of, exponent, mantissa, whole_top}
use Rattle.cap_concentrate.specs.Rounding.{FitsExponent, Encodable}
use Rattle.cap_concentrate.specs.Encoding.{length_exponent, length_exponent_within, encoded_internal, encoded_t}
use Rattle.cap_concentrate.specs.Encoding.{encoded_b, AreEncoded}
use Rattle.cap_concentrate.proofs.Region.{InRegion, region_above}
use Rattle.cap_concentrate.proofs.Decoded.{Spell, IsSpan, decoded_base, decoded_top}
use Rattle.cap_concentrate.proofs.Near.{InUnits, in_units}
use Rattle.cap_concentrate.proofs.First.{least_exponent_is, least_exponent_passes}
use Rattle.cap_concentrate.proofs.Least.{finer}

-- ---- powers and products
pub pow_512 : (e : ℕ) → 2 ^ (e + 12) ≡ 512 * 2 ^ (e + 3)
pow_512 e = omega (arith, pow-add 2 e 12, pow-add 2 e 3)

pub pow_1024 : (e : ℕ) → 2 ^ (e + 13) ≡ 1024 * 2 ^ (e + 3)
pow_1024 e = omega (arith, pow-add 2 e 13, pow-add 2 e 3)

pub cancel_le : (a b k : ℕ) → a * 2 ^ k ≤ b * 2 ^ k → a ≤ b
cancel_le a b k h = elim (cases_lt b a) as (λ _. a ≤ b)
    [ inl less ↦ absurd (omega (arith, mul-lt-mul_of_pos_right less (pow_pos k))) | inr more ↦ more ]

pub cancel_lt : (a b k : ℕ) → a * 2 ^ k < b * 2 ^ k → a < b
cancel_lt a b k h = elim (cases_lt a b) as (λ _. a < b)
    [ inl less ↦ less | inr more ↦ absurd (omega (arith, mul-le-mul_right (2 ^ k) more)) ]

-- ---- the exponent of a length: the length has its top bit at e + 12
pub record IsLengthExponent (n e : ℕ) : Type 0 where
  pub within : e ≤ 52
  pub long : 2 ^ (e + 12) ≤ n
  pub short : n < 2 ^ (e + 13)

pub length_exponent_is : (n e : ℕ) → IsLengthExponent n e → length_exponent n ≡ e
unfolding length_exponent
length_exponent_is n e x =
    let long = x.long in
    let two : 0 < 2 = omega arith in
    least_exponent_is _ e x.within (record {
      passes = lt-ltb _ _ x.short;
      first = λ j a b. let le : j + 13 ≤ e + 12 = omega arith in
          let p : 2 ^ (j + 13) ≤ 2 ^ (e + 12) = pow-le-pow_right two le in
          le-ltb _ _ (omega arith);
    })

-- the bit below the first short one is set
top_bit : (n e : ℕ) → 4096 ≤ n → ((j : ℕ) → j < e → 2 ^ (j + 13) ≤ n) → 2 ^ (e + 12) ≤ n
top_bit n zero l f = omega arith
top_bit n (suc j) l f =
    let same : j + 13 ≡ suc j + 12 = omega arith in
    subst (λ v. 2 ^ v ≤ n) same (f j (omega arith))

pub length_exponent_serves : (n : ℕ) → 4096 ≤ n → n < 2 ^ 65 → IsLengthExponent n (length_exponent n)
unfolding length_exponent
length_exponent_serves n l h =
    let test = λ (e : ℕ). nat_lt n (2 ^ (e + 13)) in
    let found = least_exponent_passes test (lt-ltb _ _ (omega arith)) in
    record {
      within = length_exponent_within n;
      long = top_bit n (length_exponent n) l (λ j b. ltb-false _ _ (found.first j (omega arith) b));
      short = ltb-true _ _ found.passes;
    }

-- ---- bounds in units of 2 ^ (e + 3), where the length has ten bits
pub record IsLong (e low high base top : ℕ) : Type 0 where
  pub within : e ≤ 52
  pub base_is : base ≡ low * 2 ^ (e + 3)
  pub top_is : top ≡ high * 2 ^ (e + 3)
  pub long : low + 512 ≤ high
  pub short : high < low + 1024

pub long_encoded : (e low high base top : ℕ) → IsLong e low high base top →
    AreEncoded true (high % 512 * 8 + e / 8) (low % 2048 * 8 + e % 8) base top
unfolding encoded_internal encoded_t encoded_b
long_encoded e low high base top x =
    let m = 2 ^ (e + 3) in
    let eb = x.base_is in
    let et = x.top_is in
    let pos : 0 < m = pow_pos (e + 3) in
    let more = mul-le-mul_right m x.long in
    let less = mul-lt-mul_of_pos_right x.short pos in
    let long : 2 ^ (e + 12) ≤ top - base = omega (arith, pow_512 e) in
    let short : top - base < 2 ^ (e + 13) = omega (arith, pow_1024 e) in
    let big : 4096 ≤ top - base = omega (arith, pow-add 2 e 12, pow_pos e) in
    let is : length_exponent (top - base) ≡ e =
    length_exponent_is (top - base) e (record { within = x.within; long = long; short = short }) in
    let ub : base / m ≡ low = ap (λ v. v / m) eb ∙ shl-shr low (e + 3) in
    let ut : top / m ≡ high = ap (λ v. v / m) et ∙ shl-shr high (e + 3) in
    record {
      internal_is = sym (le-leb 4096 (top - base) big);
      t_is = rw (le-leb 4096 (top - base) big, is, ut) refl;
      b_is = rw (le-leb 4096 (top - base) big, is, ub) refl;
    }

pub short_encoded : (base top : ℕ) → top < base + 4096 → AreEncoded false (top % 4096) (base % 16384) base top
unfolding encoded_internal encoded_t encoded_b
short_encoded base top h =
    let s : top - base < 4096 = omega arith in
    record {
      internal_is = sym (lt-leb 4096 (top - base) s);
      t_is = rw (lt-leb 4096 (top - base) s) refl;
      b_is = rw (lt-leb 4096 (top - base) s) refl;
    }

-- ---- what the canonical fields spell
short_spell : (base d : ℕ) → d < 4096 → Spell false ((base + d) % 4096) (base % 16384) 0 base d
unfolding exponent mantissa whole_top
short_spell base d h = record {
  exponent_is = refl;
  base_is = refl;
  top_is = cond_both (ltb ((base + d) % 4096) (base % 16384 % 4096)) 1 0
      (λ v. (base % 16384 / 4096 + v + 0) % 4 * 4096 + (base + d) % 4096 ≡ (base + d) % 16384)
      (λ e. omega (arith, ltb-true _ _ e)) (λ e. omega (arith, ltb-false _ _ e));
}

long_top : (b d : ℕ) → 4096 ≤ d → d < 8192 → whole_top true ((b + d) % 4096) (b % 16384) ≡ (b + d) % 16384
unfolding whole_top
long_top b d l h =
    cond_both (ltb ((b + d) % 4096) (b % 16384 % 4096)) 1 0
    (λ v. (b % 16384 / 4096 + v + 1) % 4 * 4096 + (b + d) % 4096 ≡ (b + d) % 16384)
    (λ e. omega (arith, ltb-true _ _ e)) (λ e. omega (arith, ltb-false _ _ e))

long_spell : (e low c : ℕ) → e ≤ 52 → 512 ≤ c → c < 1024 →
    Spell true ((low + c) % 512 * 8 + e / 8) (low % 2048 * 8 + e % 8) e (low * 8) (c * 8)
unfolding exponent mantissa
long_spell e low c w l h =
    let t : ((low + c) % 512 * 8 + e / 8) / 8 * 8 ≡ (low * 8 + c * 8) % 4096 = omega arith in
    let b : (low % 2048 * 8 + e % 8) / 8 * 8 ≡ low * 8 % 16384 = omega arith in
    record {
      exponent_is = omega arith;
      base_is = b;
      top_is = rw (t, b) (long_top (low * 8) (c * 8) (omega arith) (omega arith));
    }

-- an Encodable length of 4096 or more has ten bits above those that are zero at both ends
long_encodable : (base top : ℕ) → Encodable base top → 4096 ≤ top - base →
    (e : ℕ) × (low : ℕ) × (high : ℕ) × IsLong e low high base top
long_encodable base top enc big =
    let ordered = enc.ordered in
    elim (enc.form) as (λ _. (e : ℕ) × (low : ℕ) × (high : ℕ) × IsLong e low high base top) [
      | inl tiny ↦ absurd (omega arith)
      | inr f ↦
          let g : FitsExponent base top f.0 = f.1 in
          let within = enc.within in
          let x = length_exponent_serves (top - base) big (omega arith) in
          let e = length_exponent (top - base) in
          let long = x.long in
          let short = x.short in
          let fits = g.short in
          let le : e ≤ f.0 = elim (cases_lt f.0 e) as (λ _. e ≤ f.0) [
            | inl less ↦ let two : 0 < 2 = omega arith in
                let k : f.0 + 13 ≤ e + 12 = omega arith in
                let p : 2 ^ (f.0 + 13) ≤ 2 ^ (e + 12) = pow-le-pow_right two k in
                absurd (omega arith)
            | inr more ↦ more
          ] in
          let low = base / 2 ^ (f.0 + 3) * 2 ^ (f.0 - e) in
          let high = top / 2 ^ (f.0 + 3) * 2 ^ (f.0 - e) in
          let eb : base ≡ low * 2 ^ (e + 3) = finer base e f.0 le g.base_multiple in
          let et : top ≡ high * 2 ^ (e + 3) = finer top e f.0 le g.top_multiple in (
            e,
            low,
            high,
            record {
              within = x.within;
              base_is = eb;
              top_is = et;
              long = cancel_le (low + 512) high (e + 3) (omega (arith, pow_512 e));
              short = cancel_lt high (low + 1024) (e + 3) (omega (arith, pow_1024 e));
            },
          )
    ]

-- ---- the canonical fields decode to their bounds
module _ (base top a : ℕ) (enc : Encodable base top) (below : base < 2 ^ 64) (from : base ≤ a) (to : a ≤ top) where
  short_decodes : top - base < 4096 →
      (base_of false (top % 4096) (base % 16384) a ≡ base) × (top_of false (top % 4096) (base % 16384) a ≡ top)
  short_decodes h =
      let d = top - base in
      let ordered = enc.ordered in
      let within = enc.within in
      let sum : base + d ≡ top = omega arith in
      let spell = rw sum at (short_spell base d h) in
      let one : (x : ℕ) → x * 2 ^ 0 ≡ x = λ x. omega arith in
      let span : IsSpan 0 base d =
      record { short = omega arith; base_within = omega arith; top_within = omega arith } in
      let near : InRegion base (a / 2 ^ 0) = region_above base (a / 2 ^ 0) (omega arith) (omega arith) in (
        decoded_base _ _ _ 0 base d a spell span near ∙ one base,
        decoded_top _ _ _ 0 base d a spell span near
            ∙ one (base + d) ∙ sum,
      )

  long_decodes : (e low high : ℕ) → IsLong e low high base top →
      (base_of true (high % 512 * 8 + e / 8) (low % 2048 * 8 + e % 8) a ≡ base) ×
      (top_of true (high % 512 * 8 + e / 8) (low % 2048 * 8 + e % 8) a ≡ top)
  long_decodes e low high x =
      let c = high - low in
      let n = 2 ^ e in
      let within = enc.within in
      let long = x.long in
      let short = x.short in
      let sum : low + c ≡ high = omega arith in
      let p : 2 ^ (e + 3) ≡ n * 8 = pow-add 2 e 3 in
      let eb : base ≡ low * 8 * n = x.base_is ∙ omega (arith, ap (λ v. low * v) p) in
      let et : top ≡ (low * 8 + c * 8) * n = x.top_is ∙ omega (arith, ap (λ v. high * v) p, ap (λ v. v * n) sum) in
      let spell = rw sum at (long_spell e low c x.within (omega arith) (omega arith)) in
      let span : IsSpan e (low * 8) (c * 8) =
      record { short = omega arith; base_within = omega arith; top_within = omega arith } in
      let pos : 0 < n = pow_pos e in
      let q : low * 8 ≤ a / n =
      elim (cases_lt (a / n) (low * 8)) as (λ _. low * 8 ≤ a / n)
      [ inl less ↦ absurd (omega (arith, mul-le-mul_right n less)) | inr more ↦ more ] in
      let r : a / n ≤ low * 8 + c * 8 =
      elim (cases_lt (low * 8 + c * 8) (a / n)) as (λ _. a / n ≤ low * 8 + c * 8)
      [ inl less ↦ absurd (omega (arith, mul-le-mul_right n less)) | inr more ↦ more ] in
      let near : InRegion (low * 8) (a / n) = region_above (low * 8) (a / n) q (omega arith) in (
        decoded_base _ _ _ e (low * 8) (c * 8) a spell span near ∙ sym eb,
        decoded_top _ _ _ e (low * 8) (c * 8) a spell span near ∙ sym et,
      )

-- the canonical fields of an Encodable pair decode to it at each address from its base to its top
pub encoded_decodes : (base top a : ℕ) → Encodable base top → base < 2 ^ 64 → base ≤ a → a ≤ top →
    (base_of (encoded_internal base top) (encoded_t base top) (encoded_b base top) a ≡ base) ×
    (top_of (encoded_internal base top) (encoded_t base top) (encoded_b base top) a ≡ top)
encoded_decodes base top a enc below from to =
    let ordered = enc.ordered in
    elim (cases_lt (top - base) 4096) as (λ _.
    (base_of (encoded_internal base top) (encoded_t base top) (encoded_b base top) a ≡ base) ×
    (top_of (encoded_internal base top) (encoded_t base top) (encoded_b base top) a ≡ top)) [
      | inl small ↦
          let is = short_encoded base top (omega arith) in
          rw (← is.internal_is, ← is.t_is, ← is.b_is) (short_decodes base top a enc below from to small)
      | inr big ↦
          let r = long_encodable base top enc big in
          let x : IsLong r.0 r.1 r.2 base top = r.3 in
          let is = long_encoded r.0 r.1 r.2 base top x in
          rw (← is.internal_is, ← is.t_is, ← is.b_is) (long_decodes base top a enc below from to r.0 r.1 r.2 x)
    ]

-- ---- below 2 ^ 40 they are the only ones
whole_low : (internal : Bool) (t b : ℕ) → t < 4096 → whole_top internal t b % 4096 ≡ t
unfolding whole_top
whole_low internal t b h = omega arith

short_units : (t b e v d base top : ℕ) → InUnits false t b base top e v d → (base ≡ v) × (top ≡ v + d)
unfolding exponent
short_units t b e v d base top u =
    let s = u.spell in
    let zero_e : 0 ≡ e = s.exponent_is in
    let p : 2 ^ e ≡ 1 = ap (λ x. 2 ^ x) (sym zero_e) in
    (u.base_is ∙ ap (λ x. v * x) p ∙ omega arith, u.top_is ∙ ap (λ x. (v + d) * x) p ∙ omega arith)

short_only : (t b e v d base top : ℕ) → t < 4096 → InUnits false t b base top e v d → AreEncoded false t b base top
unfolding mantissa
short_only t b e v d base top ht u =
    let s = u.spell in
    let low : b ≡ v % 16384 = s.base_is in
    let whole = s.top_is in
    let tl = whole_low false t b ht in
    let is_here = short_units t b e v d base top u in
    let below = u.below in
    let is = short_encoded base top (omega arith) in
    record { internal_is = is.internal_is; t_is = omega (arith, is.t_is); b_is = omega (arith, is.b_is) }

long_units : (t b e v d base top : ℕ) → t < 4096 → InUnits true t b base top e v d →
    IsLong e (v / 8) ((v + d) / 8) base top
unfolding mantissa
long_units t b e v d base top ht u =
    let s = u.spell in
    let mb : b / 8 * 8 ≡ v % 16384 = s.base_is in
    let whole = s.top_is in
    let tl = whole_low true (t / 8 * 8) (b / 8 * 8) (omega arith) in
    let small = u.small in
    let from = u.from in
    let below = u.below in
    let p : 2 ^ (e + 3) ≡ 2 ^ e * 8 = pow-add 2 e 3 in
    let vb : v / 8 * 8 ≡ v = omega arith in
    let vt : (v + d) / 8 * 8 ≡ v + d = omega arith in
    record {
      within = omega arith;
      base_is = u.base_is ∙ omega (arith, ap (λ x. x * 2 ^ e) vb, ap (λ x. v / 8 * x) p);
      top_is = u.top_is ∙ omega (arith, ap (λ x. x * 2 ^ e) vt, ap (λ x. (v + d) / 8 * x) p);
      long = omega arith;
      short = omega arith;
    }

long_only : (t b e v d base top : ℕ) → t < 4096 → InUnits true t b base top e v d → AreEncoded true t b base top
unfolding exponent mantissa
long_only t b e v d base top ht u =
    let s = u.spell in
    let exp : min 52 (t % 8 * 8 + b % 8) ≡ e = s.exponent_is in
    let mb : b / 8 * 8 ≡ v % 16384 = s.base_is in
    let whole = s.top_is in
    let tl = whole_low true (t / 8 * 8) (b / 8 * 8) (omega arith) in
    let small = u.small in
    let is = long_encoded e (v / 8) ((v + d) / 8) base top (long_units t b e v d base top ht u) in
    let it : t ≡ (v + d) / 8 % 512 * 8 + e / 8 = omega arith in
    let ib : b ≡ v / 8 % 2048 * 8 + e % 8 = omega arith in
    record { internal_is = is.internal_is; t_is = it ∙ is.t_is; b_is = ib ∙ is.b_is }

-- bounds from 65,536 to 2 ^ 40 have one encoding, whatever the address
pub only_fields : (internal : Bool) (t b address base top : ℕ) → t < 4096 → b < 16384 →
    base ≡ base_of internal t b address → top ≡ top_of internal t b address → 65536 ≤ base → base ≤ top → top ≤ 2 ^ 40 →
    AreEncoded internal t b base top
only_fields true t b address base top ht hb eb et start ordered end =
    let r = in_units true t b address base top ht hb eb et start ordered end in
    long_only t b r.0 r.1 r.2 base top ht r.3
only_fields false t b address base top ht hb eb et start ordered end =
    let r = in_units false t b address base top ht hb eb et start ordered end in
    short_only t b r.0 r.1 r.2 base top ht r.3

encodable_long : (e low high base top : ℕ) → IsLong e low high base top → top ≤ 2 ^ 64 → Encodable base top
encodable_long e low high base top x fits =
    let eb = x.base_is in
    let et = x.top_is in
    let pos : 0 < 2 ^ (e + 3) = pow_pos (e + 3) in
    let more = mul-le-mul_right (2 ^ (e + 3)) x.long in
    let less = mul-lt-mul_of_pos_right x.short pos in
    record {
      ordered = omega arith;
      within = fits;
      form = inr (
        e,
        record {
          within = x.within;
          base_multiple = ap (λ v. v % 2 ^ (e + 3)) eb ∙ mul-mod_left low (2 ^ (e + 3));
          top_multiple = ap (λ v. v % 2 ^ (e + 3)) et ∙ mul-mod_left high (2 ^ (e + 3));
          short = omega (arith, pow_1024 e);
        },
      );
    }

-- bounds from 65,536 to 2 ^ 40 that some fields have are Encodable
pub decoded_encodable : (internal : Bool) (t b address base top : ℕ) → t < 4096 → b < 16384 →
    base ≡ base_of internal t b address → top ≡ top_of internal t b address → 65536 ≤ base → base ≤ top → top ≤ 2 ^ 40 →
    Encodable base top
decoded_encodable true t b address base top ht hb eb et start ordered end =
    let r = in_units true t b address base top ht hb eb et start ordered end in
    encodable_long r.0 (r.1 / 8) ((r.1 + r.2) / 8) base top (long_units t b r.0 r.1 r.2 base top ht r.3) (omega arith)
decoded_encodable false t b address base top ht hb eb et start ordered end =
    let r = in_units false t b address base top ht hb eb et start ordered end in
    let u : InUnits false t b base top r.0 r.1 r.2 = r.3 in
    let is_here = short_units t b r.0 r.1 r.2 base top u in
    let below = u.below in
    record { ordered = ordered; within = omega arith; form = inl (omega arith) }
