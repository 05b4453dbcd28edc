-- The alignment of a length, and its owned length.
use Rattle.std.proofs.Common.{◌≡◌, ℕ, ◌+◌, ◌-◌, ◌*◌, ◌/◌, ◌%◌, ◌^◌, ◌<◌, ◌≤◌, nat_lt, nat_le, refl, sym, ap, ◌∙◌, arith}
use Rattle.std.proofs.Common.{inl, inr}
use Rattle.std.proofs.lemmas.Bool.{cases_lt, cond_both, cond-true, cond-false, lt-ltb, le-ltb, le-leb, lt-leb}
use Rattle.std.proofs.lemmas.Nat.{pow_pos, pow-add, div-add-mod'}
use Rattle.std.proofs.Math.Nat.{mul-mod_left, pow-le-pow_right}
use Rattle.std.proofs.Math.Pow.{pow-lt}
use Rattle.cap_concentrate.specs.Rounding.{Encodable, rounded_down, rounded_up, first_from, least_exponent}
use Rattle.cap_concentrate.specs.Rounding.{least_exponent_within, bounds_exponent, least_base, least_top, alignment}
use Rattle.cap_concentrate.specs.Rounding.{owned}
use Rattle.cap_concentrate.proofs.First.{least_exponent_is}
use Rattle.cap_concentrate.proofs.Least.{up_inside, rounded_up_ge, rounded_up_near, rounded_up_monotone}
use Rattle.cap_concentrate.proofs.Least.{rounded_up_multiple, bounds_exponent_serves, least_functions, least_unique}
use Rattle.cap_concentrate.proofs.Least.{least_where_encodable}

-- the exponent of the alignment of a length from 4096 on
pub record IsAlignment (n e : ℕ) : Type 0 where
  pub is : alignment n ≡ 2 ^ (e + 3)
  pub within : e ≤ 52
  pub short : rounded_up n (2 ^ (e + 3)) < 2 ^ (e + 13)
  pub first : (j : ℕ) → j < e → 2 ^ (j + 13) ≤ rounded_up n (2 ^ (j + 3))

pub alignment_short : (n : ℕ) → n < 4096 → alignment n ≡ 1
unfolding alignment
alignment_short n h = cond-true _ _ _ (le-leb n 4095 (omega arith))

-- it is the exponent of the bounds from 0 on
pub alignment_long : (n : ℕ) → 4096 ≤ n → n ≤ 2 ^ 64 → IsAlignment n (bounds_exponent 0 n)
unfolding alignment
alignment_long n l h =
    let e = bounds_exponent 0 n in
    let x = bounds_exponent_serves 0 n h in
    let within = x.within in
    let none : (m : ℕ) → rounded_down 0 m ≡ 0 = λ m. omega arith in
    let short : rounded_up n (2 ^ (e + 3)) < 2 ^ (e + 13) = omega (arith, x.short, none (2 ^ (e + 3))) in
    let first : (j : ℕ) → j < e → 2 ^ (j + 13) ≤ rounded_up n (2 ^ (j + 3)) =
    λ j b. omega (arith, x.first j b, none (2 ^ (j + 3))) in
    let test = λ (i : ℕ). nat_lt (rounded_up n (2 ^ (i + 3))) (2 ^ (i + 13)) in
    record {
      is = cond-false _ _ _ (lt-leb n 4095 l)
          ∙ ap (λ v. 2 ^ (v + 3)) (least_exponent_is test e within
          (record { passes = lt-ltb _ _ short; first = λ j a b. le-ltb _ _ (first j b) }));
      within = within;
      short = short;
      first = first;
    }

pub alignment_pos : (n : ℕ) → 0 < alignment n
unfolding alignment
alignment_pos n = cond_both (nat_le n 4095) 1
    (2 ^ (least_exponent (λ e. nat_lt (rounded_up n (2 ^ (e + 3))) (2 ^ (e + 13))) + 3)) (λ v. 0 < v) (λ _. omega arith)
    (λ _. pow_pos _)

-- the alignment is a power of two, and at most 2 ^ 55
pub alignment_power : (n : ℕ) → (k : ℕ) × (k ≤ 55) × (alignment n ≡ 2 ^ k)
unfolding alignment
alignment_power n =
    let test = λ (e : ℕ). nat_lt (rounded_up n (2 ^ (e + 3))) (2 ^ (e + 13)) in
    let within = least_exponent_within test in
    cond_both (nat_le n 4095) 1 (2 ^ (least_exponent test + 3)) (λ v. (k : ℕ) × (k ≤ 55) × (v ≡ 2 ^ k))
    (λ _. (0, omega arith, refl)) (λ _. (least_exponent test + 3, omega arith, refl))

pub owned_ge : (n : ℕ) → n ≤ owned n
unfolding owned
owned_ge n = rounded_up_ge n (alignment n) (alignment_pos n)

pub owned_multiple : (n : ℕ) → owned n % alignment n ≡ 0
unfolding owned
owned_multiple n = mul-mod_left _ (alignment n)

pub owned_short : (n : ℕ) → n < 4096 → owned n ≡ n
unfolding owned
owned_short n h = rw (alignment_short n h) (omega arith)

sum_multiple : (base q m : ℕ) → base % m ≡ 0 → (base + q * m) % m ≡ 0
sum_multiple base q m h =
    let e : base + q * m ≡ (base / m + q) * m = omega (arith, div-add-mod' base m) in
    ap (λ v. v % m) e ∙ mul-mod_left (base / m + q) m

long_encodable : (base n : ℕ) → 4096 ≤ n → base + owned n ≤ 2 ^ 64 → base % alignment n ≡ 0 →
    Encodable base (base + owned n)
unfolding owned
long_encodable base n long fits multiple =
    let more = rounded_up_ge n (alignment n) (alignment_pos n) in
    let e = bounds_exponent 0 n in
    let a = alignment_long n long (omega arith) in
    let short = a.short in
    let up : rounded_up n (alignment n) ≡ rounded_up n (2 ^ (e + 3)) = ap (λ m. rounded_up n m) a.is in
    let here : base % 2 ^ (e + 3) ≡ 0 = ap (λ m. base % m) (sym a.is) ∙ multiple in
    record {
      ordered = omega arith;
      within = fits;
      form = inr (
        e,
        record {
          within = a.within;
          base_multiple = here;
          top_multiple = ap (λ x. (base + x) % 2 ^ (e + 3)) up ∙ sum_multiple base _ (2 ^ (e + 3)) here;
          short = omega arith;
        },
      );
    }

-- an object of an owned length at a multiple of its alignment can be encoded as it is
pub owned_encodable : (base n : ℕ) → base + owned n ≤ 2 ^ 64 → base % alignment n ≡ 0 → Encodable base (base + owned n)
owned_encodable base n fits multiple =
    elim (cases_lt n 4096) as (λ _. Encodable base (base + owned n)) [
      | inl short ↦ record { ordered = omega arith; within = fits; form = inl (omega (arith, owned_short n short)) }
      | inr long ↦ long_encodable base n long fits multiple
    ]

-- its least bounds are exact
pub owned_exact : (base n : ℕ) → base + owned n ≤ 2 ^ 64 → base % alignment n ≡ 0 →
    (least_base base (base + owned n) ≡ base) × (least_top base (base + owned n) ≡ base + owned n)
owned_exact base n fits multiple =
    least_unique base (base + owned n) _ _ base (base + owned n)
    (least_functions base (base + owned n) (omega arith) fits)
    (least_where_encodable base (base + owned n) (owned_encodable base n fits multiple))

-- ---- an owned length owns itself
long_alignment_owned : (n : ℕ) → 4096 ≤ n → n ≤ 2 ^ 64 → alignment (owned n) ≡ alignment n
unfolding owned alignment
long_alignment_owned n long h =
    let e = bounds_exponent 0 n in
    let m = 2 ^ (e + 3) in
    let a = alignment_long n long h in
    let o = rounded_up n m in
    let short = a.short in
    let more : n ≤ o = rounded_up_ge n m (pow_pos (e + 3)) in
    let multiple : o % m ≡ 0 = mul-mod_left _ m in
    let test = λ (i : ℕ). nat_lt (rounded_up o (2 ^ (i + 3))) (2 ^ (i + 13)) in
    let here : rounded_up o m ≡ o = rounded_up_multiple o m (pow_pos (e + 3)) multiple in
    let first : (j : ℕ) → j < e → 2 ^ (j + 13) ≤ rounded_up o (2 ^ (j + 3)) = λ j b.
    omega (arith, a.first j b, rounded_up_monotone n o (2 ^ (j + 3)) (pow_pos (j + 3)) more) in
    let is : least_exponent test ≡ e =
    least_exponent_is test e a.within (record
    { passes = lt-ltb _ _ (omega arith); first = λ j x b. le-ltb _ _ (first j b) }) in
    ap alignment (ap (λ v. rounded_up n v) a.is) ∙ cond-false _ _ _ (lt-leb o 4095 (omega arith))
    ∙ ap (λ v. 2 ^ (v + 3)) is ∙ sym a.is

pub alignment-owned : (n : ℕ) → n ≤ 2 ^ 64 → alignment (owned n) ≡ alignment n
alignment-owned n h =
    elim (cases_lt n 4096) as (λ _. alignment (owned n) ≡ alignment n) [
      | inl short ↦ ap alignment (owned_short n short)
      | inr long ↦ long_alignment_owned n long h
    ]

pub owned-owned : (n : ℕ) → n ≤ 2 ^ 64 → owned (owned n) ≡ owned n
unfolding owned
owned-owned n h =
    ap (λ m. rounded_up (owned n) m) (alignment-owned n h)
    ∙ rounded_up_multiple (owned n) (alignment n) (alignment_pos n) (owned_multiple n)

-- ---- growth
pub owned_near : (n : ℕ) → owned n < n + alignment n
unfolding owned
owned_near n = rounded_up_near n (alignment n) (alignment_pos n)

-- the exponent does not fall where the length grows
module _ (n m : ℕ) (long : 4096 ≤ n) (le : n ≤ m) (within : m ≤ 2 ^ 64) where
  a : IsAlignment n (bounds_exponent 0 n)
  a = alignment_long n long (omega arith)

  b : IsAlignment m (bounds_exponent 0 m)
  b = alignment_long m (omega arith) within

  exponents : bounds_exponent 0 n ≤ bounds_exponent 0 m
  exponents =
      let i = bounds_exponent 0 n in
      let j = bounds_exponent 0 m in
      let short = b.short in
      elim (cases_lt j i) as (λ _. i ≤ j) [
        | inl less ↦ absurd (omega (arith, a.first j less, rounded_up_monotone n m (2 ^ (j + 3)) (pow_pos (j + 3)) le))
        | inr more ↦ more
      ]

  long_alignments : alignment n ≤ alignment m
  long_alignments =
      let two : 0 < 2 = omega arith in
      let more : bounds_exponent 0 n + 3 ≤ bounds_exponent 0 m + 3 = omega (arith, exponents) in
      let p : 2 ^ (bounds_exponent 0 n + 3) ≤ 2 ^ (bounds_exponent 0 m + 3) = pow-le-pow_right two more in
      omega (arith, a.is, b.is)

  long_owned : owned n ≤ owned m
  unfolding owned
  long_owned =
      let j = bounds_exponent 0 m in
      let multiple : rounded_up m (alignment m) % 2 ^ (j + 3) ≡ 0 =
      ap (λ v. rounded_up m (alignment m) % v) (sym b.is) ∙ mul-mod_left _ (alignment m) in
      let up = up_inside n (rounded_up m (alignment m)) (bounds_exponent 0 n) j exponents multiple
      (omega (arith, rounded_up_ge m (alignment m) (alignment_pos m))) in
      omega (arith, up, ap (λ v. rounded_up n v) a.is)

pub alignment_monotone : (n m : ℕ) → n ≤ m → m ≤ 2 ^ 64 → alignment n ≤ alignment m
alignment_monotone n m le within =
    elim (cases_lt n 4096) as (λ _. alignment n ≤ alignment m) [
      | inl short ↦ omega (arith, alignment_short n short, alignment_pos m)
      | inr long ↦ long_alignments n m long le within
    ]

pub owned_monotone : (n m : ℕ) → n ≤ m → m ≤ 2 ^ 64 → owned n ≤ owned m
owned_monotone n m le within =
    elim (cases_lt n 4096) as (λ _. owned n ≤ owned m) [
      | inl short ↦ omega (arith, owned_short n short, owned_ge m)
      | inr long ↦ long_owned n m long le within
    ]

-- ---- lengths up to 2 ^ 26
pub alignment_small : (n : ℕ) → n ≤ 2 ^ 26 → alignment n ≤ 131072
unfolding alignment first_from
alignment_small n h =
    let most : alignment (2 ^ 26) ≡ 131072 = refl in
    omega (arith, most, alignment_monotone n (2 ^ 26) h (omega arith))

pub owned_small : (n : ℕ) → n ≤ 2 ^ 26 → owned n ≤ 2 ^ 26
unfolding owned alignment first_from
owned_small n h =
    let most : owned (2 ^ 26) ≡ 2 ^ 26 = refl in
    omega (arith, most, owned_monotone n (2 ^ 26) h (omega arith))

-- a multiple of a power of two that is not below the alignment
pub multiple_of_alignment : (n x k : ℕ) → alignment n ≤ 2 ^ k → x % 2 ^ k ≡ 0 → x % alignment n ≡ 0
multiple_of_alignment n x k le multiple =
    let a = alignment_power n in
    let i = a.0 in
    let is : alignment n ≡ 2 ^ i = a.2 in
    elim (cases_lt k i) as (λ _. x % alignment n ≡ 0) [
      | inl less ↦ absurd (omega (arith, is, pow-lt less))
      | inr more ↦
          let s : k ≡ k - i + i = omega arith in
          let p : 2 ^ k ≡ 2 ^ (k - i) * 2 ^ i = ap (λ v. 2 ^ v) s ∙ pow-add 2 (k - i) i in
          let d : x ≡ x / 2 ^ k * 2 ^ k = omega (arith, div-add-mod' x (2 ^ k)) in
          let e : x ≡ x / 2 ^ k * 2 ^ (k - i) * 2 ^ i = d ∙ omega (arith, ap (λ v. x / 2 ^ k * v) p) in
          ap (λ v. x % v) is ∙ ap (λ v. v % 2 ^ i) e ∙ mul-mod_left _ (2 ^ i)
    ]
