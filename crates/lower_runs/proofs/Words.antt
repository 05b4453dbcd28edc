-- Numbers of 64 bits, and operations on them.
use Rattle.std.proofs.Common.{◌≡◌, ℕ, ◌+◌, ◌≤◌, ◌<◌, refl, sym, ap, ◌∙◌, arith}
use Rattle.std.proofs.Common.{if◌then◌else◌, subst}
use Rattle.std.specs.Prelude.{zero, suc, ◌-◌, ◌*◌, ◌%◌, ◌^◌, ◌==◌, ℤ, pos, negsuc, neg_ℤ, int_div, nat_le}
use Rattle.std.proofs.Math.Nat.{add-mul, mul_comm, div-one}
use Rattle.std.proofs.lemmas.Nat.{mul-mod_first}
use Rattle.std.proofs.lemmas.Bool.{le-leb}
use Rattle.std.proofs.lemmas.Float.{T_from_true}
use Rattle.ck_int.proofs.WordLaws.{kept_of-pos}
use Rattle.ck_int.proofs.Laws.{reduced-represented, IsKept-wrapped}
use Rattle.ck_int.specs.Arithmetic.{binary_of, promoted_width_of, result_of}
use Rattle.ck_int.specs.Kinds.{IsKept, wrapped, converted, reduced, kept_of, width_of, form_of, value_of}
use Rattle.ck_int.specs.declared.kinds.IntKind.{IntKind}
use Rattle.ck_int.specs.declared.kinds.IntKind.TheVariants as int
use Rattle.ck_int.specs.declared.kinds.IntOp.{IntOp}
use Rattle.ck_int.specs.declared.kinds.IntOp.TheVariants.{Add, Sub, Div}
use Rattle.ck_int.proofs.OperationLaws.{IsModular, binary_of-modular, binary_of-narrower, wrapped-64}
use Rattle.ck_int.proofs.OperationLaws.{compare_of-Eq_kept, converted-Bool}
use Rattle.ck_int.proofs.Laws.{wrapped-kept_of, wrapped-kept, value_of-wrapped, wrapped-value_of, reduced-narrower}
use Rattle.ck_int.proofs.Laws.{IsKept-unsigned_below}
use Rattle.cheri_c_sem.specs.Types.{promoted}

-- ---- two kinds of 64 bits

-- an operation whose low bits are decided by those of its operands is the same with a sign and without
pub modular : (op : IntOp) (a b : ℕ) → IsModular op → binary_of op int.U64 a b ≡ binary_of op int.I64 a b
modular op a b m =
    binary_of-modular op int.U64 a b m (omega arith)
    ∙ wrapped-64 int.U64 (result_of op (promoted_width_of int.U64) (pos a) (pos b)) refl
    ∙ sym (wrapped-64 int.I64 (result_of op (promoted_width_of int.I64) (pos a) (pos b)) refl)
    ∙ sym (binary_of-modular op int.I64 a b m (omega arith))

-- a kept number is the same at a kind of 64 bits
pub converted_wide : (k i : IntKind) (b : ℕ) → width_of (form_of i) ≡ 64 → IsKept k b → converted k i b ≡ b
unfolding converted wrapped value_of
converted_wide k i b wide h = wrapped-64 i (value_of k b) wide ∙ h.kept

-- from a kind of 64 bits to another kind: by the bits alone
pub converted_bits : (i k : IntKind) (n : ℕ) → width_of (form_of i) ≡ 64 → 1 < width_of (form_of k) →
    converted i k n ≡ wrapped k (pos n)
unfolding converted
converted_bits i k n wide more =
    sym (wrapped-kept_of k (value_of i n) more) ∙ ap (λ z. wrapped k (pos z)) (sym (wrapped-64 i (value_of i n) wide))
    ∙ ap (λ z. wrapped k (pos z)) (wrapped-value_of i n ∙ wrapped-64 i (pos n) wide) ∙ wrapped-kept_of k (pos n) more

pub converted_truth : (i : IntKind) (n : ℕ) → IsKept i n → IsKept i 0 →
    converted i int.Bool n ≡ (if n == 0 then 0 else 1)
converted_truth i n h z = converted-Bool i n ∙ ap (λ b. if b then 0 else 1) (compare_of-Eq_kept i n 0 h z)

-- ---- sums modulo 2 ^ 64

pub sum_twice : (a b : ℕ) → (a + b % 2 ^ 64) % 2 ^ 64 ≡ (a + b) % 2 ^ 64
sum_twice a b = omega arith

pub difference_twice : (a b : ℕ) → b < 2 ^ 64 →
    (a + (2 ^ 64 - b % 2 ^ 64) % 2 ^ 64) % 2 ^ 64 ≡ (a + (2 ^ 64 - b)) % 2 ^ 64
difference_twice a b lt = omega arith

-- so many elements up, and down
pub steps_up : (size b : ℕ) → (b * size) % 2 ^ 64 ≡ (size % 2 ^ 64 * b) % 2 ^ 64
steps_up size b = ap (λ z. z % 2 ^ 64) (mul_comm b size) ∙ sym (mul-mod_first size b (2 ^ 64))

pub steps_down : (size b : ℕ) →
    (2 ^ 64 - (b * size) % 2 ^ 64) % 2 ^ 64 ≡ ((2 ^ 64 - size % 2 ^ 64) % 2 ^ 64 * b) % 2 ^ 64
steps_down size b =
    let up = steps_up size b in
    let s = size % 2 ^ 64 in
    let all : s * b + (2 ^ 64 - s) * b ≡ 2 ^ 64 * b =
    sym (add-mul s (2 ^ 64 - s) b) ∙ ap (λ z. z * b) (omega arith) in
    opposite ((b * size) % 2 ^ 64) (s * b) ((2 ^ 64 - s) * b) b up all ∙ sym (mul-mod_first (2 ^ 64 - s) b (2 ^ 64))
  where
    opposite : (x y z b : ℕ) → x ≡ y % 2 ^ 64 → y + z ≡ 2 ^ 64 * b → (2 ^ 64 - x) % 2 ^ 64 ≡ z % 2 ^ 64
    opposite x y z b e f = omega arith

-- ---- a quotient by one

by_one : (z : ℤ) → int_div z (pos 1) ≡ z
by_one (pos a) = ap pos (div-one a)
by_one (negsuc a) = ap (λ n. neg_ℤ (pos n)) (div-one (suc a))

pub whole_quotient : (d : ℕ) → IsKept int.I64 d → binary_of Div int.I64 d 1 ≡ d
unfolding binary_of value_of reduced
whole_quotient d h = ap (wrapped int.I64) (by_one (value_of int.I64 d)) ∙ wrapped-kept int.I64 d h

-- ---- steps by one

-- a number that is converted to a wider kind is the same at its own
same_value : (j k : IntKind) (v : ℕ) → 1 < width_of (form_of k) → width_of (form_of k) ≤ width_of (form_of j) →
    IsKept k v → value_of k (converted k j v) ≡ value_of k v
unfolding converted value_of wrapped
same_value j k v one le h =
    sym (value_of-wrapped k (pos (converted k j v)))
    ∙ ap (value_of k) (wrapped-kept_of k (reduced j (value_of k v)) one
    ∙ ap kept_of (reduced-narrower j k (value_of k v) one le) ∙ wrapped-value_of k v ∙ h.kept)

module _ (op : IntOp) (m : IsModular op) where
  narrower : (j k : IntKind) (v : ℕ) → 1 < width_of (form_of k) → width_of (form_of k) ≤ width_of (form_of j)
      → result_of op (promoted_width_of j) (pos (converted k j v)) (pos 1)
      ≡ result_of op (promoted_width_of k) (pos (converted k j v)) (pos 1)
      → IsKept k v → converted j k (binary_of op j (converted k j v) 1) ≡ binary_of op k v 1
  unfolding binary_of
  narrower j k v one le same h =
      binary_of-narrower op j k (converted k j v) 1 m one le same
      ∙ ap (λ z. wrapped k (result_of op (promoted_width_of k) z (value_of k 1))) (same_value j k v one le h)

-- an integer plus one at its promoted kind and back is that at its kind; and minus one
pub plus_one : (k : IntKind) (v : ℕ) → IsKept k v →
    converted (promoted k) k (binary_of Add (promoted k) (converted k (promoted k) v) 1) ≡ binary_of Add k v 1
unfolding converted binary_of value_of wrapped kept_of reduced
plus_one int.Bool zero h = refl
plus_one int.Bool (suc zero) h = refl
plus_one int.Bool (suc (suc n)) h = absurd (let lt = IsKept-unsigned_below int.Bool (suc (suc n)) refl h in omega arith)
plus_one int.I8 v h = narrower Add tt int.I32 int.I8 v (omega arith) (omega arith) refl h
plus_one int.U8 v h = narrower Add tt int.I32 int.U8 v (omega arith) (omega arith) refl h
plus_one int.I16 v h = narrower Add tt int.I32 int.I16 v (omega arith) (omega arith) refl h
plus_one int.U16 v h = narrower Add tt int.I32 int.U16 v (omega arith) (omega arith) refl h
plus_one int.I32 v h = narrower Add tt int.I32 int.I32 v (omega arith) (omega arith) refl h
plus_one int.U32 v h = narrower Add tt int.U32 int.U32 v (omega arith) (omega arith) refl h
plus_one int.I64 v h = narrower Add tt int.I64 int.I64 v (omega arith) (omega arith) refl h
plus_one int.U64 v h = narrower Add tt int.U64 int.U64 v (omega arith) (omega arith) refl h

pub minus_one : (k : IntKind) (v : ℕ) → IsKept k v →
    converted (promoted k) k (binary_of Sub (promoted k) (converted k (promoted k) v) 1) ≡ binary_of Sub k v 1
unfolding converted binary_of value_of wrapped kept_of reduced
minus_one int.Bool zero h = refl
minus_one int.Bool (suc zero) h = refl
minus_one int.Bool (suc (suc n)) h =
    absurd (let lt = IsKept-unsigned_below int.Bool (suc (suc n)) refl h in omega arith)
minus_one int.I8 v h = narrower Sub tt int.I32 int.I8 v (omega arith) (omega arith) refl h
minus_one int.U8 v h = narrower Sub tt int.I32 int.U8 v (omega arith) (omega arith) refl h
minus_one int.I16 v h = narrower Sub tt int.I32 int.I16 v (omega arith) (omega arith) refl h
minus_one int.U16 v h = narrower Sub tt int.I32 int.U16 v (omega arith) (omega arith) refl h
minus_one int.I32 v h = narrower Sub tt int.I32 int.I32 v (omega arith) (omega arith) refl h
minus_one int.U32 v h = narrower Sub tt int.U32 int.U32 v (omega arith) (omega arith) refl h
minus_one int.I64 v h = narrower Sub tt int.I64 int.I64 v (omega arith) (omega arith) refl h
minus_one int.U64 v h = narrower Sub tt int.U64 int.U64 v (omega arith) (omega arith) refl h

-- ---- bytes

pub byte_kept : (b : ℕ) → b < 256 → IsKept int.I32 b
unfolding wrapped
byte_kept b lt =
    subst (IsKept int.I32) (ap kept_of (reduced-represented int.I32 (pos b) (record {
      low = record { le = tt };
      high = record { le = T_from_true (nat_le b (2 ^ 31 - 1)) (le-leb b (2 ^ 31 - 1) (omega arith)) };
    })) ∙ kept_of-pos b (omega arith)) (IsKept-wrapped int.I32 (pos b))
