-- Multiples of powers of two.
use Rattle.std.proofs.Common.{◌≡◌, ℕ, suc, ◌+◌, ◌-◌, ◌*◌, ◌/◌, ◌%◌, ◌^◌, ◌<◌, ◌≤◌, arith, subst, inl, inr}
use Rattle.std.proofs.lemmas.Bool.{cases_lt}
use Rattle.std.proofs.lemmas.Nat.{div-add-mod'}
use Rattle.std.proofs.Math.Nat.{mul-mod_left, mul-le-mul_right, pow-le-pow_right}
use Rattle.cap_concentrate.specs.Rounding.{rounded_up}

pub rounded_multiple : (n m : ℕ) → rounded_up n m % m ≡ 0
rounded_multiple n m = mul-mod_left ((n + (m - 1)) / m) m

-- from one power of two to a greater one is a step of twice it at least
pub next_power : (a b : ℕ) → 2 ^ a < 2 ^ b → 2 * 2 ^ a ≤ 2 ^ b
next_power a b h = elim (cases_lt a b) as (λ _. 2 * 2 ^ a ≤ 2 ^ b) [
  | inl less ↦ let p : 2 ^ suc a ≤ 2 ^ b = pow-le-pow_right {n = 2} (omega arith) less in omega arith
  | inr more ↦ let p : 2 ^ b ≤ 2 ^ a = pow-le-pow_right {n = 2} (omega arith) more in absurd (omega arith)
]

-- a multiple of half an alignment is at most that half below the next multiple of the alignment
pub half_step : (n m half : ℕ) → n % half ≡ 0 → m % (2 * half) ≡ 0 → m < n + 2 * half → m ≤ n + half
half_step n m half h j l =
    let a = n / half in
    let b = m / (2 * half) in
    let e : a * half + n % half ≡ n = div-add-mod' n half in
    let f : b * (2 * half) + m % (2 * half) ≡ m = div-add-mod' m (2 * half) in
    elim (cases_lt (a + 1) (2 * b)) as (λ _. m ≤ n + half) [
      | inl less ↦ let p : (a + 2) * half ≤ (2 * b) * half = mul-le-mul_right half (omega arith) in absurd (omega arith)
      | inr more ↦ let p : (2 * b) * half ≤ (a + 1) * half = mul-le-mul_right half more in omega arith
    ]

pub sum_multiple : (n k m : ℕ) → n % m ≡ 0 → k % m ≡ 0 → (n + k) % m ≡ 0
sum_multiple n k m h j =
    let e : n / m * m + n % m ≡ n = div-add-mod' n m in
    let f : k / m * m + k % m ≡ k = div-add-mod' k m in
    let g : (n / m + k / m) * m ≡ n + k = omega arith in
    subst (λ x. x % m ≡ 0) g (mul-mod_left (n / m + k / m) m)
