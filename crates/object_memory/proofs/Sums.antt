-- Numbers that bytes make fit 64 bits.
use Rattle.std.proofs.Common.{lit<, ◌≡◌, ℕ, suc, ◌+◌, ◌-◌, ◌*◌, ◌^◌, ◌<◌, ◌≤◌, arith}
use Rattle.std.proofs.Math.Nat.{pow-le-pow_right}

pub sum_below : (n x y : ℕ) → 0 < n → x < 256 ^ (n - 1) → y < 256 * x + 256 → y < 256 ^ n
sum_below n x y h l b =
    let e : n ≡ suc (n - 1) = omega arith in
    let p : 256 ^ suc (n - 1) ≡ 256 * 256 ^ (n - 1) = power (n - 1) in
    rw e (omega (arith, p, l, b))
  where
    power : (m : ℕ) → 256 ^ suc m ≡ 256 * 256 ^ m
    power m = omega arith

pub sum_within : (n x : ℕ) → n ≤ 8 → 0 < n → x < 256 ^ (n - 1) → x < 2 ^ 56
sum_within n x h p l =
    let most : 256 ^ (n - 1) ≤ 256 ^ 7 = let few : n - 1 ≤ 7 = omega arith in pow-le-pow_right (lit< tt) few in
    omega (arith, most, l)
