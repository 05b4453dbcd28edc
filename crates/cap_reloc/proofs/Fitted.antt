-- Parts of objects have bounds of their own at the object's base, and addresses near them are near there.
use Rattle.std.proofs.Common.{◌≡◌, ℕ, ◌+◌, ◌-◌, ◌*◌, ◌/◌, ◌%◌, ◌^◌, ◌<◌, ◌≤◌, suc, true, sym, ap, ◌∙◌, subst, arith}
use Rattle.std.proofs.Common.{inl, inr}
use Rattle.std.specs.Prelude.{ℤ, pos, negsuc, int_lt, ◌+ℤ◌}
use Rattle.std.proofs.lemmas.Bool.{cases_lt, and_parts}
use Rattle.std.proofs.lemmas.Int.{ints}
use Rattle.std.proofs.lemmas.Nat.{div-add-mod', pow_pos}
use Rattle.std.proofs.Math.Nat.{mul-mod_left, mul-add-mod_self_right}
use Rattle.ck_int.specs.Kinds.{kept_of}
use Rattle.cap_concentrate.specs.Rounding.{Encodable, FitsExponent, rounded_up, bounds_exponent, alignment, owned}
use Rattle.cap_concentrate.proofs.Least.{finer, rounded_up_multiple}
use Rattle.cap_concentrate.proofs.Owned.{alignment_short, alignment_long, alignment_pos, owned_short}
use Rattle.c_tree.specs.Statics.{is_near}

-- ---- bounds with an encoding

-- they begin at a multiple of their length's alignment, and their length is its own owned length

pub record IsFit (low n : ℕ) : Type 0 where
  pub whole : owned n ≡ n
  pub multiple : low % alignment n ≡ 0

rest_multiple : (a b m : ℕ) → a % m ≡ 0 → (a + b) % m ≡ 0 → b % m ≡ 0
rest_multiple a b m h k =
    let e : a / m * m ≡ a = omega (arith, div-add-mod' a m) in
    sym (mul-add-mod_self_right (a / m) m b) ∙ ap (λ v. (v + b) % m) e ∙ k

coarser : (x e f : ℕ) → f ≤ e → x % 2 ^ (e + 3) ≡ 0 → x % 2 ^ (f + 3) ≡ 0
coarser x e f le h =
    ap (λ v. v % 2 ^ (f + 3)) (finer x f e le h) ∙ mul-mod_left (x / 2 ^ (e + 3) * 2 ^ (e - f)) (2 ^ (f + 3))

long_fit : (low n e : ℕ) → 4096 ≤ n → n ≤ 2 ^ 64 → FitsExponent low (low + n) e → IsFit low n
unfolding owned
long_fit low n e long most h =
    let f = bounds_exponent 0 n in
    let a = alignment_long n long most in
    let m : n % 2 ^ (e + 3) ≡ 0 = rest_multiple low n (2 ^ (e + 3)) h.base_multiple h.top_multiple in
    let up : rounded_up n (2 ^ (e + 3)) ≡ n = rounded_up_multiple n (2 ^ (e + 3)) (pow_pos (e + 3)) m in
    let short = h.short in
    let le : f ≤ e = elim (cases_lt e f) as (λ _. f ≤ e) [
      | inl less ↦ absurd (omega (arith, a.first e less, up, short))
      | inr good ↦ good
    ] in
    record {
      whole = rounded_up_multiple n (alignment n) (alignment_pos n) (ap (λ v. n % v) a.is ∙ coarser n e f le m);
      multiple = ap (λ v. low % v) a.is ∙ coarser low e f le h.base_multiple;
    }

pub encodable_fit : (low n : ℕ) → n ≤ 2 ^ 64 → Encodable low (low + n) → IsFit low n
encodable_fit low n most h =
    elim (cases_lt n 4096) as (λ _. IsFit low n) [
      | inl small ↦ record {
        whole = owned_short n small;
        multiple = subst (λ v. low % v ≡ 0) (sym (alignment_short n small)) (omega arith);
      }
      | inr long ↦ elim h.form as (λ _. IsFit low n) [
        | inl short ↦ absurd (omega arith)
        | inr f ↦ long_fit low n f.0 long most f.1
      ]
    ]

-- ---- near addresses

-- where an offset from a base leads, modulo 2 ^ 64
pub record LeadsNear (base low n a : ℕ) : Type 0 where
  pub above : base + low < a + 1024
  pub below : a < base + low + n + 1024

pub near_address : (base low n : ℕ) (z : ℤ) → 65536 ≤ base → base + low + n ≤ 2 ^ 40 → is_near low n z ≡ true
    → LeadsNear base low n ((base + kept_of z) % 2 ^ 64)
unfolding kept_of
near_address base low n (pos k) from to h =
    let p = and_parts (int_lt (pos low) (pos k +ℤ pos 1024)) (int_lt (pos k) (pos (low + n + 1024))) h in
    let a : low < k + 1024 = (let q = p.0 in grind (arith, ints, q)) in
    let b : k < low + n + 1024 = (let q = p.1 in grind (arith, ints, q)) in
    record { above = omega (arith, ints); below = omega (arith, ints) }
near_address base low n (negsuc k) from to h =
    let p = and_parts (int_lt (pos low) (negsuc k +ℤ pos 1024)) (int_lt (negsuc k) (pos (low + n + 1024))) h in
    let a : low + suc k < 1024 = (let q = p.0 in grind (arith, ints, q)) in
    record { above = omega (arith, ints); below = omega (arith, ints) }
