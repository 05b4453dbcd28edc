-- The first number that passes a test.
use Rattle.std.proofs.Common.{◌≡◌, ℕ, zero, suc, ◌+◌, ◌<◌, ◌≤◌, Bool, true, false, sym, ◌∙◌, arith, subst, inl, inr}
use Rattle.std.proofs.lemmas.Bool.{cases_lt, cases_Bool, cond-true, cond-false}
use Rattle.cap_concentrate.specs.Rounding.{first_from, least_exponent}

-- x passes, and nothing before it from e on does
pub record IsFirst (test : ℕ → Bool) (e x : ℕ) : Type 0 where
  pub passes : test x ≡ true
  pub first : (j : ℕ) → e ≤ j → j < x → test j ≡ false

pub first_from_is : (test : ℕ → Bool) (k e x : ℕ) → e ≤ x → x ≤ e + k → IsFirst test e x → first_from test k e ≡ x
unfolding first_from
first_from_is test zero e x l h f = omega arith
first_from_is test (suc k) e x l h f =
    elim (cases_lt e x) as (λ _. first_from test (suc k) e ≡ x) [
      | inl less ↦
          let rest : IsFirst test (suc e) x =
          record { passes = f.passes; first = λ j a b. f.first j (omega arith) b } in
          cond-false _ _ _ (f.first e (omega arith) less) ∙ first_from_is test k (suc e) x less (omega arith) rest
      | inr more ↦
          let same : x ≡ e = omega arith in
          cond-true _ _ _ (subst (λ v. test v ≡ true) same f.passes) ∙ sym same
    ]

pub first_from_passes : (test : ℕ → Bool) (k e : ℕ) → test (e + k) ≡ true → IsFirst test e (first_from test k e)
unfolding first_from
first_from_passes test zero e p =
    let same : e + 0 ≡ e = omega arith in
    record { passes = subst (λ v. test v ≡ true) same p; first = λ j a b. absurd (omega arith) }
first_from_passes test (suc k) e p =
    elim (cases_Bool (test e)) as (λ _. IsFirst test e (first_from test (suc k) e)) [
      | inl yes_here ↦ rw yes_here (record { passes = yes_here; first = λ j a b. absurd (omega arith) })
      | inr not_here ↦
          let same : e + suc k ≡ suc e + k = omega arith in
          let r = first_from_passes test k (suc e) (subst (λ v. test v ≡ true) same p) in
          rw not_here (record {
            passes = r.passes;
            first = λ j a b. elim (cases_lt e j) as (λ _. test j ≡ false) [
              | inl later ↦ r.first j later b
              | inr other ↦ let here : e ≡ j = omega arith in subst (λ v. test v ≡ false) here not_here
            ];
          })
    ]

pub least_exponent_is : (test : ℕ → Bool) (x : ℕ) → x ≤ 52 → IsFirst test 0 x → least_exponent test ≡ x
least_exponent_is test x h f = first_from_is test 52 0 x (omega arith) (omega arith) f

pub least_exponent_passes : (test : ℕ → Bool) → test 52 ≡ true → IsFirst test 0 (least_exponent test)
least_exponent_passes test p = first_from_passes test 52 0 p
