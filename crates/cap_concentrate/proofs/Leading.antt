-- The exponent of a request, from the leading zeros of its length.
use Rattle.std.proofs.Common.{◌≡◌, ℕ, zero, suc, ◌+◌, ◌-◌, ◌*◌, ◌/◌, ◌^◌, ◌<◌, ◌≤◌, sym, ap, ◌∙◌, arith, subst, inl}
use Rattle.std.proofs.Common.{inr}
use Rattle.std.proofs.lemmas.Bool.{cases_lt}
use Rattle.std.proofs.lemmas.Nat.{leading_length, leading_le, pow-add, pow_pos, div-add-mod', mod_below}
use Rattle.std.proofs.Math.Nat.{pow-le-pow_right, mul-le-mul_right, mul-lt-mul_of_pos_right}
use Rattle.std.specs.Int.Count.{count_leading_zeros}
use Rattle.cap_concentrate.specs.Rounding.{rounded_down, rounded_up, bounds_exponent}
use Rattle.cap_concentrate.proofs.Least.{rounded_down_le, rounded_up_ge, rounded_up_near, IsExponent}
use Rattle.cap_concentrate.proofs.Least.{bounds_exponent_is}
use Rattle.cap_concentrate.proofs.Encoded.{IsLengthExponent, pow_1024}

at_least : (m len : ℕ) → 4096 ≤ len → 2 ^ m ≤ 2 * (len / 8192) + 1 → 2 ^ (m + 12) ≤ len
at_least zero len h p = h
at_least (suc k) len h p =
    let s : 2 ^ (suc k + 12) ≡ 2 ^ suc k * 2 ^ 12 = pow-add 2 (suc k) 12 in
    omega (arith, s)

-- the bits of the length from bit 13 on count its exponent
pub leading_exponent : (len : ℕ) → 4096 ≤ len → len < 2 ^ 64 →
    (64 - count_leading_zeros 64 (len / 8192) ≤ 51) × IsLengthExponent len (64 - count_leading_zeros 64 (len / 8192))
leading_exponent len l h =
    let a = len / 8192 in
    let small : a < 2 ^ 64 = omega arith in
    let zeros : count_leading_zeros 64 a ≤ 64 = leading_le 64 a in
    let f = leading_length 64 a small in
    let e = 64 - count_leading_zeros 64 a in
    let same : f.0 ≡ e = omega (arith, f.1) in
    let low : a < 2 ^ e = subst (λ x. a < 2 ^ x) same f.2 in
    let high : 2 ^ e ≤ 2 * a + 1 = subst (λ x. 2 ^ x ≤ 2 * a + 1) same f.3 in
    let within : e ≤ 51 = elim (cases_lt 51 e) as (λ _. e ≤ 51) [
      | inl more ↦ let two : 0 < 2 = omega arith in let p : 2 ^ 52 ≤ 2 ^ e = pow-le-pow_right two more in
          absurd (omega arith)
      | inr less ↦ less
    ] in
    (within, record { within = omega arith; long = at_least e len l high; short = omega (arith, pow-add 2 e 13) })

-- ---- a request takes the exponent of its length, or the next
down_near : (x m : ℕ) → 0 < m → x < rounded_down x m + m
down_near x m h = omega (arith, div-add-mod' x m, mod_below x m h)

module _ (start len e : ℕ) (x : IsLengthExponent len e) where
  no_smaller : (j : ℕ) → j < e →
      rounded_down start (2 ^ (j + 3)) + 2 ^ (j + 13) ≤ rounded_up (start + len) (2 ^ (j + 3))
  no_smaller j h =
      let two : 0 < 2 = omega arith in
      let le : j + 13 ≤ e + 12 = omega arith in
      let p : 2 ^ (j + 13) ≤ 2 ^ (e + 12) = pow-le-pow_right two le in
      let long = x.long in
      omega (arith, p, rounded_down_le start (2 ^ (j + 3)), rounded_up_ge (start + len) (2 ^ (j + 3)) (pow_pos (j + 3)))

  same_exponent : (start + len + (2 ^ (e + 3) - 1)) / 2 ^ (e + 3) < start / 2 ^ (e + 3) + 1024 →
      IsExponent start (start + len) e
  same_exponent h = record {
    within = x.within;
    short = omega (arith, pow_1024 e, mul-lt-mul_of_pos_right h (pow_pos (e + 3)));
    first = no_smaller;
  }

  next_exponent : e ≤ 51 → start / 2 ^ (e + 3) + 1024 ≤ (start + len + (2 ^ (e + 3) - 1)) / 2 ^ (e + 3) →
      IsExponent start (start + len) (e + 1)
  next_exponent w h =
      let end = start + len in
      let short = x.short in
      let m = 2 ^ (e + 1 + 3) in
      let pos : 0 < m = pow_pos (e + 1 + 3) in
      let s : e + 1 + 13 ≡ e + 13 + 1 = omega arith in
      let a : 2 ^ (e + 1 + 13) ≡ 2 * 2 ^ (e + 13) = ap (λ v. 2 ^ v) s ∙ omega (arith, pow-add 2 (e + 13) 1) in
      let b = pow_1024 (e + 1) in
      let here : rounded_down start (2 ^ (e + 3)) + 2 ^ (e + 13) ≤ rounded_up end (2 ^ (e + 3)) =
      omega (arith, pow_1024 e, mul-le-mul_right (2 ^ (e + 3)) h) in
      record {
        within = omega arith;
        short = omega (arith, rounded_up_near end m pos, down_near start m pos);
        first = λ j k. elim (cases_lt j e) as (λ _. rounded_down start (2 ^ (j + 3))
            + 2 ^ (j + 13) ≤ rounded_up end (2 ^ (j + 3))) [
              | inl below ↦ no_smaller j below
              | inr above ↦ let same : e ≡ j = omega arith in
                  subst (λ v. rounded_down start (2 ^ (v + 3)) + 2 ^ (v + 13) ≤ rounded_up end (2 ^ (v + 3))) same here
            ];
      }

  pub takes_exponent : (start + len + (2 ^ (e + 3) - 1)) / 2 ^ (e + 3) < start / 2 ^ (e + 3) + 1024 →
      e ≡ bounds_exponent start (start + len)
  takes_exponent h = sym (bounds_exponent_is start (start + len) e (same_exponent h))

  pub takes_next : e ≤ 51 → start / 2 ^ (e + 3) + 1024 ≤ (start + len + (2 ^ (e + 3) - 1)) / 2 ^ (e + 3) →
      e + 1 ≡ bounds_exponent start (start + len)
  takes_next w h = sym (bounds_exponent_is start (start + len) (e + 1) (next_exponent w h))
