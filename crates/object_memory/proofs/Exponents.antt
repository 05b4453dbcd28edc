-- The search for an exponent, step by step.
use Rattle.std.proofs.Common.{◌≡◌, ℕ, suc, ◌+◌, ◌-◌, ◌<◌, Bool, true, false, refl, sym, ap, ◌∙◌, arith}
use Rattle.cap_concentrate.specs.Rounding.{first_from}

first_skips : (test : ℕ → Bool) (k e : ℕ) → test e ≡ false → first_from test (suc k) e ≡ first_from test k (suc e)
unfolding first_from
first_skips test k e h = rw h refl

first_stops : (test : ℕ → Bool) (k e : ℕ) → test e ≡ true → first_from test (suc k) e ≡ e
unfolding first_from
first_stops test k e h = rw h refl

-- a number that doesn't pass
pub first_more : (test : ℕ → Bool) (n e : ℕ) → e < n → test e ≡ false →
    first_from test (n - (e + 1)) (e + 1) ≡ first_from test (n - e) e
first_more test n e l h =
    let k : n - e ≡ suc (n - (e + 1)) = omega arith in
    let one : e + 1 ≡ suc e = omega arith in
    ap (first_from test (n - (e + 1))) one ∙ sym (first_skips test (n - (e + 1)) e h)
    ∙ ap (λ (j : ℕ). first_from test j e) (sym k)

-- one that does
pub first_here : (test : ℕ → Bool) (n e : ℕ) → e < n → test e ≡ true → first_from test (n - e) e ≡ e
first_here test n e l h =
    let k : n - e ≡ suc (n - (e + 1)) = omega arith in
    rw k (first_stops test (n - (e + 1)) e h)

-- the last one
pub first_last : (test : ℕ → Bool) (n : ℕ) → first_from test (n - n) n ≡ n
unfolding first_from
first_last test n =
    let k : n - n ≡ 0 = omega arith in
    rw k refl
