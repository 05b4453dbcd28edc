-- Fields whose bounds lie between 65,536 and 2 ^ 40 keep them at each address within 1024 bytes.
use Rattle.std.proofs.Common.{◌≡◌, ℕ, ◌+◌, ◌-◌, ◌*◌, ◌/◌, ◌%◌, ◌^◌, ◌<◌, ◌≤◌, min, Bool, true, false, ltb, ◌&&◌, refl}
use Rattle.std.proofs.Common.{sym, ap, ◌∙◌, arith, subst, inl, inr}
use Rattle.std.proofs.lemmas.Bool.{cond_both, cases_lt, lt-ltb, le-ltb}
use Rattle.std.proofs.lemmas.Nat.{pow-add, pow_pos, mod-pow-add, shl-shr}
use Rattle.std.proofs.Math.Nat.{mod-eq_of_lt, pow-le-pow_right, mul-le-mul_right, mul-lt-mul_of_pos_right, mod-add-mod}
use Rattle.std.proofs.Math.Nat.{mul-mod_left}
use Rattle.cap_concentrate.specs.Decoding.{one_where, exponent, mantissa, whole_top, high, placed, corrected, base_of}
use Rattle.cap_concentrate.specs.Decoding.{top_of}
use Rattle.cap_concentrate.proofs.Region.{InRegion, region_above, high_at, in_bytes}
use Rattle.cap_concentrate.proofs.Decoded.{Spell, IsSpan, decoded_base, decoded_top}

-- ---- the fields' length
pub record IsLengthOf (internal : Bool) (t b d : ℕ) : Type 0 where
  pub from : one_where internal * 4096 ≤ d
  pub below : d < one_where internal * 4096 + 4096
  pub sum : whole_top internal t b ≡ (b + d) % 16384

-- L and the carry say which of four lengths T and B leave open
length_of : (internal : Bool) (t b : ℕ) → t < 4096 → b < 16384 → (d : ℕ) × IsLengthOf internal t b d
unfolding whole_top
length_of true t b ht hb =
    elim (cases_lt t (b % 4096)) as (λ _. (d : ℕ) × IsLengthOf true t b d) [
      | inl less ↦ (
        8192 + t - b % 4096,
        record { from = omega arith; below = omega arith; sum = rw (lt-ltb t (b % 4096) less) (omega arith) },
      )
      | inr more ↦ (
        4096 + t - b % 4096,
        record { from = omega arith; below = omega arith; sum = rw (le-ltb t (b % 4096) more) (omega arith) },
      )
    ]
length_of false t b ht hb =
    elim (cases_lt t (b % 4096)) as (λ _. (d : ℕ) × IsLengthOf false t b d) [
      | inl less ↦ (
        4096 + t - b % 4096,
        record { from = omega arith; below = omega arith; sum = rw (lt-ltb t (b % 4096) less) (omega arith) },
      )
      | inr more ↦ (
        t - b % 4096,
        record { from = omega arith; below = omega arith; sum = rw (le-ltb t (b % 4096) more) (omega arith) },
      )
    ]

-- ---- what the decoding places, before it is cut to 65 bits
pub units : ℕ → ℕ → ℕ → ℕ → ℕ
units e address b x = (address / 2 ^ (e + 14) + 2 ^ 65 + high x b - high (address / 2 ^ e % 16384) b) * 16384 + x

pub placed_units : (e address b x : ℕ) → placed e address b x ≡ (units e address b x * 2 ^ e) % 2 ^ 65
unfolding placed units
placed_units e address b x = ap (λ v. v % 2 ^ 65) (in_bytes e _ x _ refl)

high_small : (x b : ℕ) → high x b ≤ 1
unfolding high
high_small x b = cond_both (ltb (x / 2048) ((b / 2048 + 7) % 8)) 1 0 (λ v. v ≤ 1) (λ e. omega arith) (λ e. omega arith)

pub units_apart : (e address b d t : ℕ) → b < 16384 → d < 8192 → t ≡ (b + d) % 16384 →
    units e address b t ≡ units e address b b + d
unfolding units
units_apart e address b d t hb hd et =
    let low : b % 16384 ≡ b = mod-eq_of_lt hb in
    let hb' = rw low at (high_at b b (region_above b b (omega arith) (omega arith))) in
    let ht' = rw (low, ← et) at (high_at b (b + d) (region_above b (b + d) (omega arith) (omega arith))) in
    omega (arith, hb', ht', high_small (address / 2 ^ e % 16384) b)

units_low : (e address b : ℕ) → b < 16384 → units e address b b % 16384 ≡ b
unfolding units
units_low e address b h = omega arith

-- cut to j + e bits
shifted_mod : (u j e : ℕ) → (u * 2 ^ e) % 2 ^ (j + e) ≡ (u % 2 ^ j) * 2 ^ e
shifted_mod u j e = rw (mod-pow-add (u * 2 ^ e) j e, shl-shr u e, mul-mod_left u (2 ^ e)) (omega arith)

pub shifted_64 : (u j e : ℕ) → j + e ≡ 64 → (u * 2 ^ e) % 2 ^ 64 ≡ (u % 2 ^ j) * 2 ^ e
shifted_64 u j e s = subst (λ w. (u * 2 ^ e) % 2 ^ w ≡ (u % 2 ^ j) * 2 ^ e) s (shifted_mod u j e)

corrected_low : (e base top : ℕ) → corrected e base top % 2 ^ 64 ≡ top % 2 ^ 64
unfolding corrected
corrected_low e base top =
    cond_both (ltb e 51 && ltb 1 ((top / 2 ^ 63 + 4 - base / 2 ^ 63) % 4)) ((top + 2 ^ 64) % 2 ^ 65) top
    (λ v. v % 2 ^ 64 ≡ top % 2 ^ 64)
    (λ p. omega arith) (λ p. refl)

-- ---- below 2 ^ 40 nothing is cut
small_exponent : (e v : ℕ) → 0 < v * 2 ^ e → v * 2 ^ e ≤ 2 ^ 40 → e ≤ 40
small_exponent e v l h =
    elim (cases_lt 40 e) as (λ _. e ≤ 40) [
      | inl more ↦
          let two : 0 < 2 = omega arith in
          let p : 2 ^ 41 ≤ 2 ^ e = pow-le-pow_right two more in
          elim (cases_lt 0 v) as (λ _. e ≤ 40) [
            | inl some ↦ let q : 1 * 2 ^ e ≤ v * 2 ^ e = mul-le-mul_right (2 ^ e) some in absurd (omega arith)
            | inr none ↦ let z : v ≡ 0 = omega arith in absurd (omega (arith, ap (λ x. x * 2 ^ e) z))
          ]
      | inr less ↦ less
    ]

room_left : (e k v d : ℕ) → e + k ≡ 40 → v * 2 ^ e ≤ 2 ^ 40 → d < 8192 → v + d < 2 ^ (24 + k)
room_left e k v d s h hd =
    let p : 2 ^ e * 2 ^ k ≡ 2 ^ 40 = sym (pow-add 2 e k) ∙ ap (λ x. 2 ^ x) s in
    let q : 2 ^ (24 + k) ≡ 2 ^ 24 * 2 ^ k = pow-add 2 24 k in
    let big : 0 < 2 ^ k = pow_pos k in
    elim (cases_lt (2 ^ k) v) as (λ _. v + d < 2 ^ (24 + k)) [
      | inl more ↦ absurd (omega (arith, mul-lt-mul_of_pos_right more (pow_pos e)))
      | inr less ↦ omega arith
    ]

low_of : (u i : ℕ) → u % 2 ^ (i + 14) % 16384 ≡ u % 16384
low_of u i = rw (mod-pow-add u i 14) (omega arith)

base_units : (e j b address base : ℕ) → j + e ≡ 64 → base ≡ placed e address b b % 2 ^ 64 →
    base ≡ (units e address b b % 2 ^ j) * 2 ^ e
base_units e j b address base s is =
    let u = units e address b b in
    is ∙ rw placed_units (omega (arith, shifted_64 u j e s))

top_units : (e j b t d address base top : ℕ) → b < 16384 → d < 8192 → t ≡ (b + d) % 16384 → j + e ≡ 64 →
    top ≡ corrected e base (placed e address b t) → top < 2 ^ 64 → units e address b b % 2 ^ j + d < 2 ^ j →
    top ≡ (units e address b b % 2 ^ j + d) * 2 ^ e
top_units e j b t d address base top hb hd et s is fits room =
    let u = units e address b b in
    let low : top % 2 ^ 64 ≡ (units e address b t * 2 ^ e) % 2 ^ 64 =
    ap (λ x. x % 2 ^ 64) is ∙ corrected_low e base (placed e address b t) ∙ rw placed_units (omega arith) in
    let cut : ((u + d) * 2 ^ e) % 2 ^ 64 ≡ ((u + d) % 2 ^ j) * 2 ^ e = shifted_64 (u + d) j e s in
    let sum : (u + d) % 2 ^ j ≡ u % 2 ^ j + d = sym (mod-add-mod u (2 ^ j) d) ∙ mod-eq_of_lt room in
    sym (mod-eq_of_lt fits) ∙ low ∙ ap (λ x. (x * 2 ^ e) % 2 ^ 64) (units_apart e address b d t hb hd et) ∙ cut
    ∙ ap (λ x. x * 2 ^ e) sum

-- ---- the bounds in units of 2 ^ e, where they lie between 65,536 and 2 ^ 40
pub record InUnits (internal : Bool) (t b base top e v d : ℕ) : Type 0 where
  pub spell : Spell internal t b e v d
  pub small : e ≤ 40
  pub base_is : base ≡ v * 2 ^ e
  pub top_is : top ≡ (v + d) * 2 ^ e
  pub from : one_where internal * 4096 ≤ d
  pub below : d < one_where internal * 4096 + 4096

exponent_within : (internal : Bool) (t b : ℕ) → exponent internal t b ≤ 52
unfolding exponent
exponent_within internal t b =
    cond_both internal (min 52 (t % 8 * 8 + b % 8)) 0 (λ v. v ≤ 52) (λ _. omega arith) (λ _. omega arith)

mantissa_below : (internal : Bool) (x n : ℕ) → x < n → mantissa internal x < n
unfolding mantissa
mantissa_below internal x n h = cond_both internal (x / 8 * 8) x (λ v. v < n) (λ _. omega arith) (λ _. h)

pub in_units : (internal : Bool) (t b address base top : ℕ) → t < 4096 → b < 16384 →
    base ≡ base_of internal t b address → top ≡ top_of internal t b address → 65536 ≤ base → base ≤ top → top ≤ 2 ^ 40 →
    (e : ℕ) × (v : ℕ) × (d : ℕ) × InUnits internal t b base top e v d
unfolding base_of top_of
in_units internal t b address base top ht hb eb et start ordered end =
    let e = exponent internal t b in
    let j = 64 - e in
    let k = 40 - e in
    let b' = mantissa internal b in
    let t' = whole_top internal (mantissa internal t) b' in
    let hb' : b' < 16384 = mantissa_below internal b 16384 hb in
    let within : e ≤ 52 = exponent_within internal t b in
    let len = length_of internal (mantissa internal t) b' (mantissa_below internal t 4096 ht) hb' in
    let d = len.0 in
    let l : IsLengthOf internal (mantissa internal t) b' d = len.1 in
    let one : one_where internal ≤ 1 = cond_both internal 1 0 (λ v. v ≤ 1) (λ _. omega arith) (λ _. omega arith) in
    let ld = l.below in
    let short : d < 8192 = omega arith in
    let s : j + e ≡ 64 = omega arith in
    let u = units e address b' b' in
    let v = u % 2 ^ j in
    let is : base ≡ v * 2 ^ e = base_units e j b' address base s eb in
    let small : e ≤ 40 = small_exponent e v (omega arith) (omega arith) in
    let sk : 24 + k ≡ j = omega arith in
    let s14 : 10 + k + 14 ≡ j = omega arith in
    let room : v + d < 2 ^ j = subst (λ x. v + d < 2 ^ x) sk (room_left e k v d (omega arith) (omega arith) short) in
    let low : v % 16384 ≡ b' =
    subst (λ x. u % 2 ^ x % 16384 ≡ u % 16384) s14 (low_of u (10 + k)) ∙ units_low e address b' hb' in
    let top_here : top ≡ corrected e base (placed e address b' t') =
    et ∙ ap (λ x. corrected e x (placed e address b' t')) (sym eb) in
    let sum = l.sum in (
      e,
      v,
      d,
      record {
        spell = record { exponent_is = refl; base_is = sym low; top_is = omega arith };
        small = small;
        base_is = is;
        top_is = top_units e j b' t' d address base top hb' short sum s top_here (omega arith) room;
        from = l.from;
        below = l.below;
      },
    )

-- ---- an address nearby
region_near : (e v d a : ℕ) → d < 8192 → v * 2 ^ e < a + 1024 → a < (v + d) * 2 ^ e + 1024 → InRegion v (a / 2 ^ e)
region_near e v d a hd l h =
    let n = 2 ^ e in
    let x = a / n in
    let pos : 0 < n = pow_pos e in
    let low : v ≤ x + 1024 = elim (cases_lt (x + 1024) v) as (λ _. v ≤ x + 1024) [
      | inl more ↦ absurd (omega (arith, mul-le-mul_right n more))
      | inr less ↦ less
    ] in
    let high : x < v + d + 1024 = elim (cases_lt x (v + d + 1024)) as (λ _. x < v + d + 1024) [
      | inl less ↦ less
      | inr more ↦ absurd (omega (arith, mul-le-mul_right n more))
    ] in
    record { from = omega arith; below = omega arith }

pub keeps_near : (internal : Bool) (t b address a : ℕ) → t < 4096 → b < 16384 → 65536 ≤ base_of internal t b address →
    base_of internal t b address ≤ top_of internal t b address → top_of internal t b address ≤ 2 ^ 40 →
    base_of internal t b address < a + 1024 → a < top_of internal t b address + 1024 →
    (base_of internal t b a ≡ base_of internal t b address) × (top_of internal t b a ≡ top_of internal t b address)
keeps_near internal t b address a ht hb start ordered end above below =
    let r = in_units internal t b address _ _ ht hb refl refl start ordered end in
    let e = r.0 in
    let v = r.1 in
    let d = r.2 in
    let i : InUnits internal t b (base_of internal t b address) (top_of internal t b address) e v d = r.3 in
    let one : one_where internal ≤ 1 = cond_both internal 1 0 (λ x. x ≤ 1) (λ _. omega arith) (λ _. omega arith) in
    let ld = i.below in
    let is = i.base_is in
    let it = i.top_is in
    let short : d < 8192 = omega arith in
    let span : IsSpan e v d = record { short = short; base_within = omega arith; top_within = omega arith } in
    let near : InRegion v (a / 2 ^ e) = region_near e v d a short (rw (← is) above) (rw (← it) below) in (
      decoded_base internal t b e v d a i.spell span near ∙ sym is,
      decoded_top internal t b e v d a i.spell span near
          ∙ sym it,
    )
