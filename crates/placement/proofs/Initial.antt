-- The pointers with which objects begin have bounds that have an encoding wherever their object is aligned, and are
-- near them.
use Rattle.std.proofs.Common.{◌≡◌, ℕ, ◌+◌, ◌-◌, ◌*◌, ◌/◌, ◌%◌, ◌^◌, ◌<◌, ◌≤◌, ◌==◌, true, sym, ap, ◌∙◌, subst, inl, inr}
use Rattle.std.proofs.Common.{arith}
use Rattle.std.specs.Prelude.{ℤ, pos, negsuc, ◌+ℤ◌, int_lt}
use Rattle.std.proofs.lemmas.Bool.{cases_lt, and_parts, eqb-true}
use Rattle.std.proofs.lemmas.Bool.Decides.{nat_tests}
use Rattle.std.proofs.lemmas.Int.{ints}
use Rattle.std.proofs.lemmas.Nat.{pow_pos}
use Rattle.std.proofs.Math.Nat.{mul-mod_left, mod-add-mod}
use Rattle.ck_int.specs.Kinds.{kept_of}
use Rattle.cap_concentrate.specs.Rounding.{FitsExponent, Encodable, bounds_exponent, rounded_up, alignment, owned}
use Rattle.cap_concentrate.specs.Rounding.{least_base, least_top}
use Rattle.cap_concentrate.proofs.Least.{finer, rounded_up_multiple, least_functions}
use Rattle.cap_concentrate.proofs.Owned.{alignment_short, alignment_long, owned_short}
use Rattle.c_tree.specs.Statics.{is_exact, is_near}
use Rattle.obj_mem.specs.Pointers as pointers
use Rattle.obj_mem.specs.Standing.{IsFitted}

-- ---- bounds

abbrev IsWhole : ℕ → ℕ → Type 0
IsWhole at n = (owned n ≡ n) × (at % alignment n ≡ 0)

-- ends that fit an exponent are multiples of the length's own alignment
long_whole : (at n e : ℕ) → 4096 ≤ n → at + n ≤ 2 ^ 64 → FitsExponent at (at + n) e → IsWhole at n
unfolding owned
long_whole at n e long within fits =
    let M = 2 ^ (e + 3) in
    let am : at % M ≡ 0 = fits.base_multiple in
    let nm : n % M ≡ 0 = let z : 0 + n ≡ n = omega arith in ap (λ v. v % M) (sym z) ∙ ap (λ v. (v + n) % M) (sym am)
    ∙ mod-add-mod at M n ∙ fits.top_multiple in
    let short = fits.short in
    let f = bounds_exponent 0 n in
    let k = alignment_long n long (omega arith) in
    let up : rounded_up n M ≡ n = rounded_up_multiple n M (pow_pos (e + 3)) nm in
    let le : f ≤ e = elim (cases_lt e f) as (λ _. f ≤ e) [
      | inl less ↦ absurd (omega (arith, up, short, k.first e less))
      | inr good ↦ good
    ] in
    let a' : at % 2 ^ (f + 3) ≡ 0 = ap (λ v. v % 2 ^ (f + 3)) (finer at f e le am) ∙ mul-mod_left
    (at / 2 ^ (e + 3) * 2 ^ (e - f)) (2 ^ (f + 3)) in
    let n' : n % 2 ^ (f + 3) ≡ 0 = ap (λ v. v % 2 ^ (f + 3)) (finer n f e le nm) ∙ mul-mod_left
    (n / 2 ^ (e + 3) * 2 ^ (e - f)) (2 ^ (f + 3)) in (
      subst (λ v. rounded_up n v ≡ n) (sym k.is) (rounded_up_multiple n (2 ^ (f + 3)) (pow_pos (f + 3)) n'),
      subst
          (λ v. at % v ≡ 0) (sym k.is) a',
    )

encodable_whole : (at n : ℕ) → Encodable at (at + n) → IsWhole at n
encodable_whole at n e =
    elim (cases_lt n 4096) as (λ _. IsWhole at n) [
      | inl small ↦ (owned_short n small, subst (λ v. at % v ≡ 0) (sym (alignment_short n small)) (omega arith))
      | inr big ↦ elim (e.form) as (λ _. IsWhole at n) [
        | inl tiny ↦ absurd (omega arith)
        | inr f ↦ long_whole at n f.0 big e.within f.1
      ]
    ]

pub exact_whole : (at n : ℕ) → at + n ≤ 2 ^ 64 → is_exact at n ≡ true → (owned n ≡ n) × (at % alignment n ≡ 0)
exact_whole at n within e =
    let t = and_parts (least_base at (at + n) == at) (least_top at (at + n) == at + n) e in
    let b : least_base at (at + n) ≡ at = eqb-true (least_base at (at + n)) at t.0 in
    let u : least_top at (at + n) ≡ at + n = eqb-true (least_top at (at + n)) (at + n) t.1 in
    let l = least_functions at (at + n) (omega arith) within in
    encodable_whole at n (subst (λ v. Encodable at v) u
    (subst (λ v. Encodable v (least_top at (at + n))) b l.encodable))

pub exact_fitted : (owns at n : ℕ) → at + n ≤ owns → at + n ≤ 2 ^ 64 → is_exact at n ≡ true → IsFitted owns at (at + n)
exact_fitted owns at n inside within e =
    let w = exact_whole at n within e in
    let x : at + n - at ≡ n = omega arith in
    record { ordered = omega arith; inside = inside; whole = rw x w.0; multiple = rw x w.1 }

-- ---- addresses

kept_near : (low n : ℕ) (z : ℤ) → low + n ≤ 2 ^ 41 → int_lt (pos low) (z +ℤ pos 1024) ≡ true
    → int_lt z (pos (low + n + 1024)) ≡ true → (kept_of z + 2 ^ 64 + 1023 - low) % 2 ^ 64 < low + n + 2047 - low
unfolding kept_of
kept_near low n (pos k) small a b =
    let x : low < k + 1024 = grind (arith, ints, a) in
    let y : k < low + n + 1024 = grind (arith, ints, b) in
    omega (arith, x, y)
kept_near low n (negsuc k) small a b =
    let x : low + k < 1023 = grind (arith, ints, a) in
    omega (arith, x)

pub near_kept : (low n : ℕ) (z : ℤ) → low + n ≤ 2 ^ 41 → is_near low n z ≡ true
    → pointers.is_near low (low + n) (kept_of z) ≡ true
near_kept low n z small e =
    let t = and_parts (int_lt (pos low) (z +ℤ pos 1024)) (int_lt z (pos (low + n + 1024))) e in
    let k = kept_near low n z small t.0 t.1 in
    grind (arith, nat_tests, k)

pub kept_word : (z : ℤ) → kept_of z < 2 ^ 64
unfolding kept_of
kept_word (pos k) = omega arith
kept_word (negsuc k) = omega arith
