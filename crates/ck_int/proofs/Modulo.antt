-- Laws of `modulo`.
use Rattle.std.proofs.Common.{◌≡◌, ℕ, ◌+◌, ◌-◌, ◌*◌, ◌/◌, ◌%◌, ◌^◌, ◌<◌, ◌≤◌, ℤ, pos, negsuc, arith, sym, ap, ◌∙◌, refl}
use Rattle.std.proofs.Math.Nat.{mod-mod_of_dvd, dvd-mul_right, mod-lt, mul-pos}
use Rattle.std.proofs.lemmas.Nat.{mod-mul-add, div_below, pow_pos, pow-add}
use Rattle.std.proofs.lemmas.Int.{of_z-to_z}
use Rattle.std.specs.Int.{Width, cast_signed, cast_unsigned, int_wrap}
use mir.Val.{bits}
use Rattle.ck_int.specs.Kinds.{modulo}

pub modulo-below : (z : ℤ) (m : ℕ) → 0 < m → modulo z m < m
modulo-below (pos n) m h = omega arith
modulo-below (negsuc n) m h = omega arith

-- a multiple of m, less 1, less a number whose remainder is t
turned : (m d s t : ℕ) → t < m → (m * (d + s + 1) - 1 - (m * s + t)) % m ≡ m - 1 - t
turned m d s t h =
    let e : m * (d + s + 1) - 1 - (m * s + t) ≡ d * m + (m - 1 - t) = omega arith in
    ap (λ x. x % m) e ∙ mod-mul-add d m (m - 1 - t) (omega arith)

flipped : (r m q : ℕ) → 0 < m → r < m * q → (m * q - 1 - r) % m ≡ m - 1 - r % m
flipped r m q h below =
    let low : r / m < q = div_below r m q h (omega arith) in
    let whole : (q - 1 - r / m) + r / m + 1 ≡ q = omega arith in
    let parts : m * (r / m) + r % m ≡ r = omega arith in
    let t : r % m < m = omega arith in
    rw (whole, parts) at (turned m (q - 1 - r / m) (r / m) (r % m) t)

within : (n m q : ℕ) → n % (m * q) % m ≡ n % m
within n m q = mod-mod_of_dvd m n (dvd-mul_right m q)

-- first modulo a multiple of m, and then modulo m
modulo-modulo : (z : ℤ) (m q : ℕ) → 0 < m → 0 < q → modulo (pos (modulo z (m * q))) m ≡ modulo z m
modulo-modulo (pos n) m q h k = within n m q
modulo-modulo (negsuc n) m q h k =
    flipped (n % (m * q)) m q h (mod-lt n (mul-pos h k)) ∙ ap (λ x. m - 1 - x) (within n m q)

pub pow-split : (v w : ℕ) → v ≤ w → 2 ^ v * 2 ^ (w - v) ≡ 2 ^ w
pow-split v w h = let parts : v + (w - v) ≡ w = omega arith in sym (pow-add 2 v (w - v)) ∙ ap (λ n. 2 ^ n) parts

-- the low v bits are among the low w bits
pub modulo-low : (z : ℤ) (v w : ℕ) → v ≤ w → modulo (pos (modulo z (2 ^ w))) (2 ^ v) ≡ modulo z (2 ^ v)
modulo-low z v w h = rw (pow-split v w h) at (modulo-modulo z (2 ^ v) (2 ^ (w - v)) (pow_pos v) (pow_pos (w - v)))

-- ---- std's word for what is left of a number in a signed type

pub int_wrap-modulo : (w : Width) (z : ℤ) → int_wrap w z ≡ cast_signed w (modulo z (2 ^ bits w))
unfolding int_wrap
int_wrap-modulo w (pos n) = refl
int_wrap-modulo w (negsuc n) = refl

-- bits that are read as what is left of z are the bits of z
pub modulo-from_int_wrap : (w : Width) (z : ℤ) (n : ℕ) → n < 2 ^ bits w → cast_signed w n ≡ int_wrap w z →
    modulo z (2 ^ bits w) ≡ n
modulo-from_int_wrap w z n h e =
    sym (of_z-to_z w (modulo z (2 ^ bits w)) (modulo-below z (2 ^ bits w) (pow_pos (bits w))))
    ∙ ap (cast_unsigned w) (sym (int_wrap-modulo w z) ∙ sym e) ∙ of_z-to_z w n h
