-- Bounds are as exact as those that begin a multiple of 2 ^ 60 bytes before.
use Rattle.std.proofs.Common.{◌≡◌, ℕ, zero, suc, ◌+◌, ◌-◌, ◌*◌, ◌/◌, ◌%◌, ◌^◌, ◌<◌, ◌≤◌, Bool, true, false, refl, sym}
use Rattle.std.proofs.Common.{ap}
use Rattle.std.proofs.Common.{◌∙◌, arith}
use Rattle.std.specs.Prelude.{nat_lt, nat_le, ◌==◌, ◌&&◌, if◌then◌else◌}
use Rattle.std.proofs.lemmas.Bool.Decides.{nat_tests}
use Rattle.std.proofs.lemmas.Nat.{pow-add, pow_pos, div-add-mod'}
use Rattle.std.proofs.Math.Nat.{mul-add-div_right}
use Rattle.cap_concentrate.specs.Rounding.{rounded_down, rounded_up, first_from, bounds_exponent, least_base, least_top}
use Rattle.cap_concentrate.specs.Rounding.{least_exponent_within}
use Rattle.c_tree.specs.Statics.{is_exact}

-- a multiple of 2 ^ 60 is one of each unit
units : (q e : ℕ) → e ≤ 52 → q * 2 ^ 60 ≡ q * 2 ^ (57 - e) * 2 ^ (e + 3)
units q e h =
    let z : 60 ≡ 57 - e + (e + 3) = omega arith in
    let s : 2 ^ 60 ≡ 2 ^ (57 - e) * 2 ^ (e + 3) = ap (λ v. 2 ^ v) z ∙ pow-add 2 (57 - e) (e + 3) in
    ap (λ v. q * v) s ∙ omega arith

rounded : (k d x : ℕ) → 0 < d → (k * d + x) / d * d ≡ k * d + x / d * d
rounded k d x h = ap (λ v. v * d) (mul-add-div_right h k x) ∙ omega arith

down-on : (q e b : ℕ) → e ≤ 52 →
    rounded_down (q * 2 ^ 60 + b) (2 ^ (e + 3)) ≡ q * 2 ^ 60 + rounded_down b (2 ^ (e + 3))
down-on q e b h =
    let u = units q e h in
    let d = 2 ^ (e + 3) in
    ap (λ v. (v + b) / d * d) u ∙ rounded (q * 2 ^ (57 - e)) d b (pow_pos (e + 3)) ∙ ap (λ v. v + b / d * d) (sym u)

up-on : (q e b : ℕ) → e ≤ 52 →
    rounded_up (q * 2 ^ 60 + b) (2 ^ (e + 3)) ≡ q * 2 ^ 60 + rounded_up b (2 ^ (e + 3))
up-on q e b h =
    let d = 2 ^ (e + 3) in
    let s : q * 2 ^ 60 + b + (d - 1) ≡ q * 2 ^ 60 + (b + (d - 1)) = omega arith in
    ap (λ v. v / d * d) s ∙ down-on q e (b + (d - 1)) h

lt-on : (m a b c : ℕ) → nat_lt (m + a) (m + b + c) ≡ nat_lt a (b + c)
lt-on m a b c = grind (arith, nat_tests)

eq-on : (m a b : ℕ) → (m + a == m + b) ≡ (a == b)
eq-on m a b = grind (arith, nat_tests)

first-same : (f g : ℕ → Bool) (k e : ℕ) → ((j : ℕ) → j < e + k → f j ≡ g j) → first_from f k e ≡ first_from g k e
unfolding first_from
first-same f g zero e h = refl
first-same f g (suc k) e h =
    let a = h e (omega arith) in
    let b = first-same f g k (suc e) (λ j l. h j (omega arith)) in
    ap (λ v. (if v then e else first_from f k (suc e))) a ∙ ap (λ v. (if g e then e else v)) b

exponent-on : (q b n : ℕ) → bounds_exponent (q * 2 ^ 60 + b) (q * 2 ^ 60 + (b + n)) ≡ bounds_exponent b (b + n)
unfolding bounds_exponent
exponent-on q b n = first-same
    (λ e. nat_lt (rounded_up (q * 2 ^ 60 + (b + n)) (2 ^ (e + 3)))
    (rounded_down (q * 2 ^ 60 + b) (2 ^ (e + 3)) + 2 ^ (e + 13)))
    (λ e. nat_lt (rounded_up (b + n) (2 ^ (e + 3))) (rounded_down b (2 ^ (e + 3)) + 2 ^ (e + 13))) 52 0 (λ j l.
    let u = up-on q j (b + n) (omega arith) in
    let d = down-on q j b (omega arith) in
    ap (λ v. nat_lt v (rounded_down (q * 2 ^ 60 + b) (2 ^ (j + 3)) + 2 ^ (j + 13))) u
    ∙ ap (λ v. nat_lt (q * 2 ^ 60 + rounded_up (b + n) (2 ^ (j + 3))) (v + 2 ^ (j + 13))) d
    ∙ lt-on (q * 2 ^ 60) (rounded_up (b + n) (2 ^ (j + 3))) (rounded_down b (2 ^ (j + 3))) (2 ^ (j + 13)))

exponent-within : (b n : ℕ) → bounds_exponent b (b + n) ≤ 52
unfolding bounds_exponent
exponent-within b n =
    least_exponent_within (λ e. nat_lt (rounded_up (b + n) (2 ^ (e + 3))) (rounded_down b (2 ^ (e + 3)) + 2 ^ (e + 13)))

if-on : (m a b : ℕ) (t : Bool) → (if t then m + a else m + b) ≡ m + (if t then a else b)
if-on m a b true = refl
if-on m a b false = refl

base-on : (q b n : ℕ) → least_base (q * 2 ^ 60 + b) (q * 2 ^ 60 + (b + n)) ≡ q * 2 ^ 60 + least_base b (b + n)
unfolding least_base
base-on q b n =
    let m = q * 2 ^ 60 in
    let e = bounds_exponent b (b + n) in
    let l : m + (b + n) - (m + b) ≡ b + n - b = omega arith in
    let r : rounded_down (m + b) (2 ^ (bounds_exponent (m + b) (m + (b + n)) + 3)) ≡ m + rounded_down b (2 ^ (e + 3)) =
    ap (λ v. rounded_down (m + b) (2 ^ (v + 3))) (exponent-on q b n) ∙ down-on q e b (exponent-within b n) in
    ap (λ v. (if nat_le v 4095 then m + b else rounded_down (m + b)
    (2 ^ (bounds_exponent (m + b) (m + (b + n)) + 3)))) l
    ∙ ap (λ v. (if nat_le (b + n - b) 4095 then m + b else v)) r
    ∙ if-on m b (rounded_down b (2 ^ (e + 3))) (nat_le (b + n - b) 4095)

top-on : (q b n : ℕ) → least_top (q * 2 ^ 60 + b) (q * 2 ^ 60 + (b + n)) ≡ q * 2 ^ 60 + least_top b (b + n)
unfolding least_top
top-on q b n =
    let m = q * 2 ^ 60 in
    let e = bounds_exponent b (b + n) in
    let l : m + (b + n) - (m + b) ≡ b + n - b = omega arith in
    let r : rounded_up (m + (b + n)) (2 ^ (bounds_exponent (m + b) (m + (b + n)) + 3))
    ≡ m + rounded_up (b + n) (2 ^ (e + 3)) =
    ap (λ v. rounded_up (m + (b + n)) (2 ^ (v + 3))) (exponent-on q b n) ∙ up-on q e (b + n) (exponent-within b n) in
    ap (λ v. (if nat_le v 4095 then m + (b + n) else rounded_up (m + (b + n))
    (2 ^ (bounds_exponent (m + b) (m + (b + n)) + 3)))) l
    ∙ ap (λ v. (if nat_le (b + n - b) 4095 then m + (b + n) else v)) r
    ∙ if-on m (b + n) (rounded_up (b + n) (2 ^ (e + 3))) (nat_le (b + n - b) 4095)

exact-on : (q b n : ℕ) → is_exact (q * 2 ^ 60 + b) n ≡ is_exact b n
exact-on q b n =
    let m = q * 2 ^ 60 in
    let s : m + b + n ≡ m + (b + n) = omega arith in
    ap (λ v. least_base (m + b) v == m + b && least_top (m + b) v == v) s
    ∙ ap (λ v. v == m + b && least_top (m + b) (m + (b + n)) == m + (b + n)) (base-on q b n)
    ∙ ap (λ v. m + least_base b (b + n) == m + b && v == m + (b + n)) (top-on q b n)
    ∙ ap (λ v. v && m + least_top b (b + n) == m + (b + n)) (eq-on m (least_base b (b + n)) b)
    ∙ ap (λ v. least_base b (b + n) == b && v) (eq-on m (least_top b (b + n)) (b + n))

pub exact-rest : (at n : ℕ) → is_exact (at % 2 ^ 60) n ≡ is_exact at n
exact-rest at n = sym (exact-on (at / 2 ^ 60) (at % 2 ^ 60) n) ∙ ap (λ v. is_exact v n) (div-add-mod' at (2 ^ 60))
