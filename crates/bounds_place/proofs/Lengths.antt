-- Which lengths alignments divide, and the length of a table.
use Rattle.std.proofs.Common.{◌≡◌, ℕ, ◌+◌, ◌-◌, ◌*◌, ◌%◌, ◌^◌, ◌<◌, ◌≤◌, sym, ap, ◌∙◌, arith, subst, inl, inr}
use Rattle.std.proofs.lemmas.Bool.{cases_lt}
use Rattle.std.proofs.lemmas.Nat.{pow-add}
use Rattle.std.proofs.Math.Nat.{pow-le-pow_right, mul-mod_left}
use Rattle.std.proofs.Math.Pow.{pow-lt}
use Rattle.cap_concentrate.specs.Rounding.{bounds_exponent, alignment, owned}
use Rattle.cap_concentrate.proofs.Owned.{alignment_short, alignment_long}
use Rattle.program_needs.proofs.Lengths.{owned_below, long_most, alignment_le, owned_fits}
use Rattle.bounds_place.specs.Parts.{IsTable}

-- a power of two up to another divides it
pub divides_power : (n k : ℕ) → 4096 ≤ n → n ≤ 2 ^ (k + 8) → k ≤ 56 → 2 ^ k % alignment n ≡ 0
divides_power n k l h w =
    let two : 0 < 2 = omega arith in
    let x : k + 8 ≤ 64 = omega arith in
    let y : 2 ^ (k + 8) ≤ 2 ^ 64 = pow-le-pow_right two x in
    let a = alignment_long n l (omega arith) in
    let e = bounds_exponent 0 n in
    let m = long_most n e l a in
    let p : 2 ^ (k + 8) ≡ 2 ^ k * 256 = pow-add 2 k 8 in
    let le : e + 3 ≤ k = elim (cases_lt k (e + 3)) as (λ _. e + 3 ≤ k) [
      | inl less ↦ absurd (let q : 2 ^ k < 2 ^ (e + 3) = pow-lt less in omega arith)
      | inr good ↦ good
    ] in
    let is : k ≡ (k - (e + 3)) + (e + 3) = omega arith in
    let q : 2 ^ k ≡ 2 ^ (k - (e + 3)) * 2 ^ (e + 3) = ap (λ v. 2 ^ v) is ∙ pow-add 2 (k - (e + 3)) (e + 3) in
    subst (λ v. 2 ^ k % v ≡ 0) (sym a.is) (ap (λ v. v % 2 ^ (e + 3)) q ∙ mul-mod_left (2 ^ (k - (e + 3))) (2 ^ (e + 3)))

pub divides_short : (x n : ℕ) → n < 4096 → x % alignment n ≡ 0
divides_short x n h = subst (λ v. x % v ≡ 0) (sym (alignment_short n h)) (omega arith)

-- the length of a table
pub table_fits : (n size : ℕ) → 0 < n → n ≤ 536870912 → size ≡ owned (n * 16) % 2 ^ 64 → IsTable n size
table_fits n size s h e =
    let swap : n * 16 ≡ 16 * n = omega arith in
    let is : size ≡ owned (16 * n) = e ∙ owned_fits (n * 16) (omega arith) ∙ ap owned swap in
    record { is = is; small = omega (arith, owned_below (16 * n), alignment_le (16 * n) (omega arith)) }
