-- The arithmetic of `malloc`'s words: a mask of an alignment, and the place that it keeps.
use Rattle.std.proofs.Common.{◌≡◌, ℕ, ◌+◌, ◌-◌, ◌*◌, ◌/◌, ◌%◌, ◌^◌, ◌<◌, ◌≤◌, negsuc, nat_lt, sym, ap, ◌∙◌}
use Rattle.std.proofs.Common.{subst, arith, refl, inl, inr}
use Rattle.std.specs.Prelude.{bit_and, bit_xor}
use Rattle.std.specs.Int.Bits.{and_zero_r, xor_self, xor_zero_l}
use Rattle.std.proofs.Math.Nat.{div-lt_iff_lt-mul, add-mul, mod-eq_of_lt, pow-le-pow_right}
use Rattle.std.proofs.Math.Pow.{pow-lt}
use Rattle.std.proofs.lemmas.Bool.{cases_lt}
use Rattle.std.proofs.lemmas.Bool.Decides.{nat_tests}
use Rattle.std.proofs.lemmas.Nat.{pow-add, pow_pos, and_block, and_mask, xor_block, div-add-mod'}
use Rattle.ck_int.specs.declared.kinds.IntKind.TheVariants as int
use Rattle.ck_int.specs.Arithmetic.{compare_of}
use Rattle.ck_int.specs.Kinds.{kept_of, value_of, reduced}
use Rattle.ck_int.proofs.OperationLaws.{binary_of-Add, binary_of-Sub, binary_of-And, binary_of-Xor}
use Rattle.cap_concentrate.specs.Rounding.{alignment, owned}
use Rattle.cap_concentrate.proofs.Least.{rounded_up_near}
use Rattle.cap_concentrate.proofs.Owned.{alignment_power}
use Rattle.rv_instr.specs.declared.ops.BranchOp.TheVariants.{Bltu}
use Rattle.rv_instr.specs.declared.ops.RegOp.TheVariants.{Add, Sub, And, Xor}
use Rattle.cap_machine.specs.Integers.{extended, is_taken, result_of}
use Rattle.obj_mem.specs.Heap.{allocation_alignment}
use Rattle.place_inject.proofs.Growing.{power_sixteen}

-- ---- words

pub add_is : (a b : ℕ) → a + b < 2 ^ 64 → result_of Add a b ≡ a + b
unfolding result_of
add_is a b small = binary_of-Add int.I64 a b refl (omega arith) (omega arith) ∙ omega arith

pub sub_is : (a b : ℕ) → a < 2 ^ 64 → b ≤ a → result_of Sub a b ≡ a - b
unfolding result_of
sub_is a b small le = binary_of-Sub int.I64 a b refl small (omega arith) ∙ omega arith

pub and_is : (a b : ℕ) → a < 2 ^ 64 → b < 2 ^ 64 → result_of And a b ≡ bit_and a b
unfolding result_of
and_is a b h j = binary_of-And int.I64 a b refl h j

pub xor_is : (a b : ℕ) → a < 2 ^ 64 → b < 2 ^ 64 → result_of Xor a b ≡ bit_xor a b
unfolding result_of
xor_is a b h j = binary_of-Xor int.I64 a b refl h j

pub below_is : (a b : ℕ) → a < 2 ^ 64 → b < 2 ^ 64 → is_taken Bltu a b ≡ nat_lt a b
unfolding is_taken compare_of value_of reduced
below_is a b h j = grind (arith, nat_tests)

pub all_ones : extended (negsuc 0) ≡ 18446744073709551615
unfolding kept_of
all_ones = refl

pub all_but_four : extended (negsuc 15) ≡ 18446744073709551600
unfolding kept_of
all_but_four = refl

-- ---- masks

-- 64 bits, of which the low ones are apart
split : (k : ℕ) → k ≤ 64 → 2 ^ (64 - k) * 2 ^ k ≡ 2 ^ 64
split k l = let e : 64 - k + k ≡ 64 = omega arith in sym (pow-add 2 (64 - k) k) ∙ ap (λ n. 2 ^ n) e

-- all of them but the low ones
upper : (a k : ℕ) → 0 < a → (a - 1) * k + k ≡ a * k
upper a k some =
    let e : a - 1 + 1 ≡ a = omega arith in
    omega (arith, ap (λ n. n * k) e, add-mul (a - 1) 1 k)

pub masked : (k x : ℕ) → k ≤ 64 → x < 2 ^ 64 → bit_and x (2 ^ 64 - 2 ^ k) ≡ x / 2 ^ k * 2 ^ k
masked k x l small =
    let j : ℕ = 64 - k in
    let some : 0 < 2 ^ k = pow_pos k in
    let some' : 0 < 2 ^ j = pow_pos j in
    let whole = split k l in
    let high = upper (2 ^ j) (2 ^ k) some' in
    let mask : 2 ^ 64 - 2 ^ k ≡ (2 ^ j - 1) * 2 ^ k + 0 = omega (arith, whole, high) in
    let here : x ≡ x / 2 ^ k * 2 ^ k + x % 2 ^ k = sym (div-add-mod' x (2 ^ k)) in
    let less : x / 2 ^ k < 2 ^ j = (div-lt_iff_lt-mul some).1 (subst (λ n. x < n) (sym whole) small) in
    let low : x % 2 ^ k < 2 ^ k = omega arith in
    let end : x / 2 ^ k * 2 ^ k + 0 ≡ x / 2 ^ k * 2 ^ k = omega arith in
    ap (λ b. bit_and x b) mask ∙ ap (λ a. bit_and a ((2 ^ j - 1) * 2 ^ k + 0)) here
    ∙ and_block k (x / 2 ^ k) (2 ^ j - 1) (x % 2 ^ k) 0 low some
    ∙ ap (λ n. n * 2 ^ k + bit_and (x % 2 ^ k) 0) (and_mask (x / 2 ^ k) j ∙ mod-eq_of_lt less)
    ∙ ap (λ n. x / 2 ^ k * 2 ^ k + n) (and_zero_r (x % 2 ^ k)) ∙ end

pub unmasked : (k : ℕ) → k ≤ 64 → bit_xor (2 ^ 64 - 2 ^ k) 18446744073709551615 ≡ 2 ^ k - 1
unmasked k l =
    let j : ℕ = 64 - k in
    let some : 0 < 2 ^ k = pow_pos k in
    let some' : 0 < 2 ^ j = pow_pos j in
    let whole = split k l in
    let high = upper (2 ^ j) (2 ^ k) some' in
    let mask : 2 ^ 64 - 2 ^ k ≡ (2 ^ j - 1) * 2 ^ k + 0 = omega (arith, whole, high) in
    let ones : 18446744073709551615 ≡ (2 ^ j - 1) * 2 ^ k + (2 ^ k - 1) = omega (arith, whole, high, some) in
    let none : 0 * 2 ^ k + bit_xor 0 (2 ^ k - 1) ≡ bit_xor 0 (2 ^ k - 1) = omega arith in
    ap (λ a. bit_xor a 18446744073709551615) mask ∙ ap (bit_xor ((2 ^ j - 1) * 2 ^ k + 0)) ones
    ∙ xor_block k (2 ^ j - 1) (2 ^ j - 1) 0 (2 ^ k - 1) some (omega arith)
    ∙ ap (λ n. n * 2 ^ k + bit_xor 0 (2 ^ k - 1)) (xor_self (2 ^ j - 1))
    ∙ none ∙ xor_zero_l (2 ^ k - 1)

-- ---- the alignment of an allocation

-- it is a power of two, of which the mask is made of that of the length's alignment
pub record Alignment (n : ℕ) : Type 0 where
  pub power : ℕ
  pub least : 4 ≤ power
  pub most : power ≤ 55
  pub is : allocation_alignment n ≡ 2 ^ power
  pub own : alignment n ≤ 2 ^ 55
  pub some : 0 < alignment n
  pub mask : bit_and (2 ^ 64 - alignment n) 18446744073709551600 ≡ 2 ^ 64 - 2 ^ power

-- a power of two below 16, and one from 16 on
small_mask : (k : ℕ) → 2 ^ k < 16 → (2 ^ 64 - 2 ^ k) / 16 * 16 ≡ 18446744073709551600
small_mask k h = let some = pow_pos k in omega (arith, h, some)

great_mask : (k : ℕ) → k ≤ 55 → 2 ^ k % 16 ≡ 0 → 2 ^ k ≤ 2 ^ 55 → (2 ^ 64 - 2 ^ k) / 16 * 16 ≡ 2 ^ 64 - 2 ^ k
great_mask k l z h = omega (arith, z, h)

pub aligned_by : (n : ℕ) → Alignment n
aligned_by n =
    let p = alignment_power n in
    let k = p.0 in
    let l = p.1 in
    let is = p.2 in
    let most : 2 ^ k ≤ 2 ^ 55 = pow-le-pow_right {n = 2} (omega arith) l in
    let some : 0 < 2 ^ k = pow_pos k in
    let start : bit_and (2 ^ 64 - alignment n) 18446744073709551600 ≡ (2 ^ 64 - 2 ^ k) / 16 * 16 =
    ap (λ a. bit_and (2 ^ 64 - a) 18446744073709551600) is ∙ masked 4 (2 ^ 64 - 2 ^ k) (omega arith)
    (omega (arith, some)) in
    elim (cases_lt (2 ^ k) 16) as (λ _. Alignment n) [
      | inl low ↦ record {
        power = 4;
        least = omega arith;
        most = omega arith;
        is = omega (arith, is, low);
        own = omega (arith, is, most);
        some = omega (arith, is, some);
        mask = start ∙ small_mask k low;
      }
      | inr high ↦ record {
        power = k;
        least = elim (cases_lt k 4) as (λ _. 4 ≤ k) [
          | inl less ↦ absurd (omega (arith, high, pow-lt less))
          | inr more ↦ more
        ];
        most = l;
        is = omega (arith, is, high);
        own = omega (arith, is, most);
        some = omega (arith, is, some);
        mask = start ∙ great_mask k l (power_sixteen k high) most;
      }
    ]

-- an owned length of an object that a heap may have
pub owned_small : (n : ℕ) → n < 2 ^ 40 → owned n < 2 ^ 56
unfolding owned
owned_small n h =
    let a = aligned_by n in
    let near = rounded_up_near n (alignment n) a.some in
    let own = a.own in
    omega (arith, near, own, h)
