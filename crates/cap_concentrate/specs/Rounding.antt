-- Which bounds can be encoded, and how far a request is rounded (CHERI ISAv9, CHERI Concentrate). No fields are named
-- here.
use Rattle.std.specs.Prelude.{ℕ, zero, suc, ◌≡◌, ◌+◌, ◌-◌, ◌*◌, ◌/◌, ◌%◌, ◌^◌, ◌<◌, ◌≤◌, ◌⊎◌, Bool, nat_lt, nat_le}
use Rattle.std.specs.Prelude.{if◌then◌else◌}
use Rattle.std.proofs.Common.{arith}
use Rattle.std.proofs.lemmas.Bool.{cond_both}

-- both ends are multiples of 2 ^ (e + 3), and the length is below 2 ^ (e + 13)
pub record FitsExponent (base top e : ℕ) : Type 0 where
  pub within : e ≤ 52
  pub base_multiple : base % 2 ^ (e + 3) ≡ 0
  pub top_multiple : top % 2 ^ (e + 3) ≡ 0
  pub short : top < base + 2 ^ (e + 13)

-- bounds that some fields can hold: a length of at most 4095, or ends that fit an exponent
pub record Encodable (base top : ℕ) : Type 0 where
  pub ordered : base ≤ top
  pub within : top ≤ 2 ^ 64
  pub form : (top ≤ base + 4095) ⊎ ((e : ℕ) × FitsExponent base top e)

-- the Encodable pair that holds the request from `start` to `end` and lies inside every other such pair
pub record IsLeastBounds (start end base top : ℕ) : Type 0 where
  pub encodable : Encodable base top
  pub from : base ≤ start
  pub to : end ≤ top
  pub least : (base' top' : ℕ) → Encodable base' top' → base' ≤ start → end ≤ top' → (base' ≤ base) × (top ≤ top')

-- the greatest multiple of m that is not above n, and the least that is not below it
abbrev pub rounded_down : ℕ → ℕ → ℕ
rounded_down n m = n / m * m

abbrev pub rounded_up : ℕ → ℕ → ℕ
rounded_up n m = (n + (m - 1)) / m * m

-- the first number from e on that passes the test, and e + k where none before it does
unfoldable pub first_from : (ℕ → Bool) → ℕ → ℕ → ℕ
first_from test zero e = e
first_from test (suc k) e = (if test e then e else first_from test k (suc e))

-- the least exponent that passes the test, 52 being the greatest one
abbrev pub least_exponent : (ℕ → Bool) → ℕ
least_exponent test = first_from test 52 0

-- The alignment of an object of n bytes, n being at most 2 ^ 64. From 4096 bytes on it is 2 ^ (e + 3) for the least
-- exponent at which n, rounded up to a multiple of 2 ^ (e + 3), is below 2 ^ (e + 13).
unfoldable pub alignment : ℕ → ℕ
alignment n =
    (if nat_le n 4095 then 1 else 2 ^ (least_exponent (λ e. nat_lt (rounded_up n (2 ^ (e + 3))) (2 ^ (e + 13))) + 3))

-- the owned length of an object of n bytes
unfoldable pub owned : ℕ → ℕ
owned n = rounded_up n (alignment n)

-- the least exponent at which the request, with both ends rounded to multiples of 2 ^ (e + 3), is shorter than 2 ^ (e +
-- 13)
unfoldable pub bounds_exponent : ℕ → ℕ → ℕ
bounds_exponent start end =
    least_exponent (λ e. nat_lt (rounded_up end (2 ^ (e + 3))) (rounded_down start (2 ^ (e + 3)) + 2 ^ (e + 13)))

-- the least bounds of a request as functions: the base and the top
unfoldable pub least_base : ℕ → ℕ → ℕ
least_base start end =
    (if nat_le (end - start) 4095 then start else rounded_down start (2 ^ (bounds_exponent start end + 3)))

unfoldable pub least_top : ℕ → ℕ → ℕ
least_top start end =
    (if nat_le (end - start) 4095 then end else rounded_up end (2 ^ (bounds_exponent start end + 3)))

-- ---- no search ends above 52
first_from_le : (test : ℕ → Bool) (k e : ℕ) → first_from test k e ≤ e + k
unfolding first_from
first_from_le test zero e = omega arith
first_from_le test (suc k) e =
    cond_both (test e) e (first_from test k (suc e)) (λ x. x ≤ e + suc k) (λ _. omega arith)
    (λ _. omega (arith, first_from_le test k (suc e)))

pub least_exponent_within : (test : ℕ → Bool) → least_exponent test ≤ 52
least_exponent_within test = first_from_le test 52 0
