-- Owned lengths that fit 64 bits.
use Rattle.std.proofs.Common.{◌≡◌, ℕ, zero, suc, ◌+◌, ◌-◌, ◌*◌, ◌%◌, ◌^◌, ◌<◌, ◌≤◌, ap, arith, inl, inr}
use Rattle.std.proofs.lemmas.Bool.{cases_lt}
use Rattle.std.proofs.lemmas.Nat.{div-add-mod'}
use Rattle.std.proofs.Math.Nat.{mod-eq_of_lt}
use Rattle.cap_concentrate.specs.Rounding.{rounded_up, bounds_exponent, alignment, owned}
use Rattle.cap_concentrate.proofs.Encoded.{pow_1024}
use Rattle.cap_concentrate.proofs.Owned.{IsAlignment, alignment_short, alignment_long, alignment_pos}
use Rattle.std.proofs.lemmas.Nat.{pow_pos, pow-add}

rounded_below : (n a : ℕ) → 0 < a → rounded_up n a < n + a
rounded_below n a h = omega (arith, div-add-mod' (n + (a - 1)) a)

-- a length from 4096 on has at least its alignment
long_most : (n e : ℕ) → 4096 ≤ n → IsAlignment n e → 2 ^ (e + 3) ≤ n
long_most n zero l a = omega arith
long_most n (suc e) l a =
    let f = a.first e (omega arith) in
    let b = rounded_below n (2 ^ (e + 3)) (pow_pos (e + 3)) in
    let p = pow_1024 e in
    let k : suc e + 3 ≡ e + 3 + 1 = omega arith in
    let r : 2 ^ (e + 3 + 1) ≡ 2 ^ (e + 3) * 2 ^ 1 = pow-add 2 (e + 3) 1 in
    let q : 2 ^ (suc e + 3) ≡ 2 ^ (e + 3 + 1) = ap (λ v. 2 ^ v) k in
    omega arith

alignment_le : (n : ℕ) → n ≤ 2 ^ 64 → alignment n ≤ n + 1
alignment_le n w = elim (cases_lt n 4096) as (λ _. alignment n ≤ n + 1) [
  | inl small ↦ omega (arith, alignment_short n small)
  | inr long ↦ let a = alignment_long n long w in omega (arith, a.is, long_most n (bounds_exponent 0 n) long a)
]

-- an owned length is less than twice the length, and one
pub owned_most : (n : ℕ) → n < 2 ^ 63 → owned n ≤ 2 * n
unfolding owned
owned_most n h = omega (arith, rounded_below n (alignment n) (alignment_pos n), alignment_le n (omega arith))

-- so one of fewer than 2 ^ 63 bytes has 64 bits
pub owned_fits : (n : ℕ) → n < 2 ^ 63 → owned n % 2 ^ 64 ≡ owned n
owned_fits n h = mod-eq_of_lt (omega (arith, owned_most n h))
