-- Bounds in an object that have an encoding at one base have it at each to which the object may be aligned.
use Rattle.std.proofs.Common.{◌≡◌, ℕ, ◌+◌, ◌-◌, ◌*◌, ◌/◌, ◌%◌, ◌^◌, ◌<◌, ◌≤◌, ◌==◌, true, false, refl, sym, ap, ◌∙◌}
use Rattle.std.proofs.Common.{arith, subst, inl, inr}
use Rattle.std.proofs.lemmas.Bool.{cases_lt}
use Rattle.std.proofs.lemmas.Bool.Decides.{nat_tests}
use Rattle.std.proofs.lemmas.Nat.{pow_pos, div-add-mod'}
use Rattle.std.proofs.Math.Nat.{mul-mod_left}
use Rattle.cap_concentrate.specs.Decoding.{base_of, top_of}
use Rattle.cap_concentrate.specs.Encoding.{encoded_internal, encoded_t, encoded_b, encoded_t_below, encoded_b_below}
use Rattle.cap_concentrate.specs.Rounding.{Encodable, rounded_up, bounds_exponent, alignment, owned}
use Rattle.cap_concentrate.proofs.Least.{finer, rounded_up_least}
use Rattle.cap_concentrate.proofs.Owned.{alignment_short, alignment_long, owned_ge, owned_short, owned_encodable}
use Rattle.cap_concentrate.proofs.Encoded.{encoded_decodes}
use Rattle.cap_concentrate.proofs.Near.{keeps_near}
use Rattle.obj_mem.specs.Pointers.{keeps, is_near, is_rounding}
use Rattle.obj_mem.specs.Standing.{IsBased, IsFitted}

-- ---- alignments

-- a base that is aligned for an object is aligned for each part of it
pub part_aligned : (base long n : ℕ) → long ≤ 2 ^ 64 → n ≤ 2 ^ 64 → n ≤ owned long → base % alignment long ≡ 0 →
    base % alignment n ≡ 0
unfolding owned
part_aligned base long n w w' h a =
    elim (cases_lt n 4096) as (λ _. base % alignment n ≡ 0) [
      | inl small ↦ subst (λ v. base % v ≡ 0) (sym (alignment_short n small)) (omega arith)
      | inr big ↦ elim (cases_lt long 4096) as (λ _. base % alignment n ≡ 0) [
        | inl tiny ↦ absurd (omega (arith, owned_short long tiny))
        | inr more ↦
            let e = bounds_exponent 0 long in
            let f = bounds_exponent 0 n in
            let k = alignment_long long more w in
            let j = alignment_long n big w' in
            let is = k.is in
            let short = k.short in
            let own : n ≤ rounded_up long (2 ^ (e + 3)) = rw (← is) h in
            let up : rounded_up n (2 ^ (e + 3)) ≤ rounded_up long (2 ^ (e + 3)) =
            rounded_up_least n (2 ^ (e + 3)) ((long + (2 ^ (e + 3) - 1)) / 2 ^ (e + 3)) (pow_pos (e + 3)) own in
            let le : f ≤ e = elim (cases_lt e f) as (λ _. f ≤ e) [
              | inl less ↦ absurd (omega (arith, up, short, j.first e less))
              | inr good ↦ good
            ] in
            let a' : base % 2 ^ (e + 3) ≡ 0 = rw (← is) a in
            let q : base ≡ (base / 2 ^ (e + 3) * 2 ^ (e - f)) * 2 ^ (f + 3) = finer base f e le a' in
            let z : base % 2 ^ (f + 3) ≡ 0 =
            ap (λ v. v % 2 ^ (f + 3)) q ∙ mul-mod_left (base / 2 ^ (e + 3) * 2 ^ (e - f)) (2 ^ (f + 3)) in
            subst (λ v. base % v ≡ 0) (sym j.is) z
      ]
    ]

multiple_sum : (a b m : ℕ) → a % m ≡ 0 → b % m ≡ 0 → (a + b) % m ≡ 0
multiple_sum a b m h k =
    let e : a + b ≡ (a / m + b / m) * m = omega (arith, div-add-mod' a m, div-add-mod' b m) in
    ap (λ v. v % m) e ∙ mul-mod_left (a / m + b / m) m

-- ---- parts of objects

-- a part of an object whose length is its own owned length, at a multiple of its alignment
pub part_encodable : (base owns long : ℕ) → IsBased base owns long → (low n : ℕ) → low + n ≤ owns → owned n ≡ n →
    low % alignment n ≡ 0 → Encodable (base + low) (base + low + n)
part_encodable base owns long p low n fits whole multiple =
    let o = p.owned_is in
    let t = p.to in
    let l : long ≤ 2 ^ 40 = omega (arith, owned_ge long) in
    let al : base % alignment n ≡ 0 =
    part_aligned base long n (omega arith) (omega arith) (omega (arith, o)) p.aligned in
    let m = multiple_sum base low (alignment n) al multiple in
    rw whole at (owned_encodable (base + low) n (rw whole (omega arith)) m)

pub fitted_encodable : (base owns long : ℕ) → IsBased base owns long → (low high : ℕ) → IsFitted owns low high →
    Encodable (base + low) (base + high)
fitted_encodable base owns long p low high f =
    let a = f.ordered in
    let b = f.inside in
    let e : base + low + (high - low) ≡ base + high = omega arith in
    rw e at (part_encodable base owns long p low (high - low) (omega arith) f.whole f.multiple)

pub near_is : (low high at : ℕ) → is_near low high at ≡ true → (at + 2 ^ 64 + 1023 - low) % 2 ^ 64 < high + 2047 - low
near_is low high at e = grind (arith, nat_tests)

-- where a near address lies
pub near_lies : (base owns low high at : ℕ) → 65536 ≤ base → base + owns ≤ 2 ^ 40 → low ≤ high → high ≤ owns →
    at < 2 ^ 64 → is_near low high at ≡ true →
    (base + low < (base + at) % 2 ^ 64 + 1024) × ((base + at) % 2 ^ 64 < base + high + 1024)
near_lies base owns low high at l h o i w e = let n = near_is low high at e in (omega arith, omega arith)

same_true : (x : ℕ) → (x == x) ≡ true
same_true x = grind (arith, nat_tests)

pub record Decodes (base top a : ℕ) : Type 0 where
  pub base_is : base_of (encoded_internal base top) (encoded_t base top) (encoded_b base top) a ≡ base
  pub top_is : top_of (encoded_internal base top) (encoded_t base top) (encoded_b base top) a ≡ top

pub near_decodes : (base owns long : ℕ) → IsBased base owns long → (low high at : ℕ) → IsFitted owns low high →
    at < 2 ^ 64 → is_near low high at ≡ true → Decodes (base + low) (base + high) ((base + at) % 2 ^ 64)
near_decodes base owns long p low high at f w e =
    let enc = fitted_encodable base owns long p low high f in
    let pf = p.from in
    let pt = p.to in
    let fo = f.ordered in
    let fi = f.inside in
    let d = encoded_decodes (base + low) (base + high) (base + low) enc (omega arith) (omega arith) (omega arith) in
    let z = near_lies base owns low high at pf pt fo fi w e in
    let k = keeps_near (encoded_internal (base + low) (base + high)) (encoded_t (base + low) (base + high))
    (encoded_b (base + low) (base + high)) (base + low) ((base + at) % 2 ^ 64)
    (encoded_t_below (base + low) (base + high)) (encoded_b_below (base + low) (base + high)) (omega (arith, d.0))
    (omega (arith, d.0, d.1)) (omega (arith, d.1)) (omega (arith, d.0, z.0)) (omega (arith, d.1, z.1)) in
    record { base_is = k.0 ∙ d.0; top_is = k.1 ∙ d.1 }

pub near_keeps : (base owns long : ℕ) → IsBased base owns long → (low high at : ℕ) → IsFitted owns low high →
    at < 2 ^ 64 → is_near low high at ≡ true → keeps (base + low) (base + high) ((base + at) % 2 ^ 64) ≡ true
unfolding keeps
near_keeps base owns long p low high at f w e =
    let d = near_decodes base owns long p low high at f w e in
    rw (d.base_is, d.top_is, same_true (base + low), same_true (base + high)) refl

pub not_rounding : (at len : ℕ) → is_rounding at len ≡ false → (owned len ≡ len) × (at % alignment len ≡ 0)
not_rounding at len e =
    elim (cases_lt len 4096) as (λ _. (owned len ≡ len) × (at % alignment len ≡ 0)) [
      | inl small ↦ (owned_short len small, subst (λ v. at % v ≡ 0) (sym (alignment_short len small)) (omega arith))
      | inr big ↦ grind (arith, nat_tests)
    ]
