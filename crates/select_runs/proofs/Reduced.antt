-- What a register holds after an operation on integers, and reduced to a kind, in words of the arithmetic of kinds.
use Rattle.std.proofs.Common.{◌≡◌, ℕ, ◌+◌, ◌-◌, ◌*◌, ◌/◌, ◌%◌, ◌^◌, ◌<◌, ◌≤◌, ℤ, pos, negsuc, Bool}
use Rattle.std.proofs.Common.{true, false, not, refl, sym, ap, ◌∙◌, arith, ⊎_elim, if◌then◌else◌}
use Rattle.std.specs.Prelude.{◌==◌}
use Rattle.std.specs.Int.{int_div_euclid}
use Rattle.std.proofs.Math.Nat.{mod-eq_of_lt}
use Rattle.std.proofs.lemmas.Bool.{cases_lt}
use Rattle.std.proofs.lemmas.Bool.Decides.{nat_tests}
use Rattle.ck_int.specs.declared.kinds.IntKind.{IntKind}
use Rattle.ck_int.specs.declared.kinds.IntKind.TheVariants as kind
use Rattle.ck_int.specs.declared.kinds.IntOp.{IntOp}
use Rattle.ck_int.specs.declared.kinds.IntOp.TheVariants as op
use Rattle.ck_int.specs.Arithmetic.{binary_of, compare_of, promoted_width_of}
use Rattle.ck_int.specs.Arithmetic as arithmetic
use Rattle.ck_int.specs.Kinds.{form_of, width_of, modulo, twos_complement, IsKept, reduced, kept_of, wrapped}
use Rattle.ck_int.specs.Kinds.{value_of, converted}
use Rattle.ck_int.proofs.Forms.{twos_complement-low, twos_complement-high}
use Rattle.ck_int.proofs.Modulo.{modulo-low}
use Rattle.ck_int.proofs.Laws.{IsKept-binary_of, IsKept-converted, converted-below}
use Rattle.ck_int.proofs.Laws.{converted-narrower, converted-same, wrapped-kept_of, wrapped-below, modulo-reduced}
use Rattle.ck_int.proofs.OperationLaws.{IsModular, binary_of-modular, binary_of-narrower, wrapped-64}
use Rattle.ck_int.proofs.OperationLaws.{binary_of-Shl}
use Rattle.rv_instr.specs.declared.ops.RegOp.{RegOp}
use Rattle.rv_instr.specs.declared.ops.RegOp.TheVariants as regs
use Rattle.rv_instr.specs.declared.ops.RegOp.TheVariants.{Add, Sub, And, Xor, Sll, Srl, Sra, Slt, Sltu}
use Rattle.cap_machine.specs.Integers.{result_of, one_where, word, extended}
use Rattle.select_words.specs.Integers.{reg_op, short_op, long_op, unsigned_op}

-- ---- what is below 2 ^ 64

binary_below : (o : IntOp) (k : IntKind) (a b : ℕ) → binary_of o k a b < 2 ^ 64
unfolding binary_of
binary_below o k a b = wrapped-below k _

one_below : (b : Bool) → one_where b < 2 ^ 64
one_below true = omega arith
one_below false = omega arith

word_below : (v : ℕ) → word v < 2 ^ 64
word_below v = converted-below kind.U32 kind.I32 v

pub result_below : (o : RegOp) (a b : ℕ) → result_of o a b < 2 ^ 64
unfolding result_of
result_below regs.Slt a b = one_below _
result_below regs.Sltu a b = one_below _
result_below regs.Srlw a b = word_below _
result_below regs.Divuw a b = word_below _
result_below regs.Remuw a b = word_below _
result_below regs.Sra a b = binary_below op.Shr kind.I64 a b
result_below regs.Srl a b = binary_below op.Shr kind.U64 a b
result_below regs.Sll a b = binary_below op.Shl kind.I64 a b
result_below regs.Add a b = binary_below op.Add kind.I64 a b
result_below regs.Sub a b = binary_below op.Sub kind.I64 a b
result_below regs.Mul a b = binary_below op.Mul kind.I64 a b
result_below regs.And a b = binary_below op.And kind.I64 a b
result_below regs.Or a b = binary_below op.Or kind.I64 a b
result_below regs.Xor a b = binary_below op.Xor kind.I64 a b
result_below regs.Div a b = binary_below op.Div kind.I64 a b
result_below regs.Divu a b = binary_below op.Div kind.U64 a b
result_below regs.Rem a b = binary_below op.Rem kind.I64 a b
result_below regs.Remu a b = binary_below op.Rem kind.U64 a b
result_below regs.Addw a b = binary_below op.Add kind.I32 a b
result_below regs.Subw a b = binary_below op.Sub kind.I32 a b
result_below regs.Sllw a b = binary_below op.Shl kind.I32 a b
result_below regs.Sraw a b = binary_below op.Shr kind.I32 a b
result_below regs.Mulw a b = binary_below op.Mul kind.I32 a b
result_below regs.Divw a b = binary_below op.Div kind.I32 a b
result_below regs.Remw a b = binary_below op.Rem kind.I32 a b

-- ---- a register is reduced to a kind by two shifts

sll_is : (a n : ℕ) → a < 2 ^ 64 → n < 64 → result_of Sll a n ≡ (a * 2 ^ (n % 64)) % 2 ^ 64
unfolding result_of
sll_is a n h j = binary_of-Shl kind.I64 a n refl h (omega arith)

srl_is : (a : ℕ) → (result_of Srl a 56 ≡ a % 2 ^ 64 / 2 ^ 56) × (result_of Srl a 48 ≡ a % 2 ^ 64 / 2 ^ 48) ×
    (result_of Srl a 32 ≡ a % 2 ^ 64 / 2 ^ 32)
unfolding result_of binary_of wrapped reduced value_of kept_of
srl_is a = (omega arith, omega arith, omega arith)

-- the sign bit is copied in
sra_by : (a : ℕ) (z : ℤ) → value_of kind.I64 a ≡ z →
    (result_of Sra a 56 ≡ kept_of (int_div_euclid z (pos (2 ^ 56)))) ×
    (result_of Sra a 48 ≡ kept_of (int_div_euclid z (pos (2 ^ 48)))) ×
    (result_of Sra a 32 ≡ kept_of (int_div_euclid z (pos (2 ^ 32))))
unfolding result_of binary_of value_of reduced
sra_by a z e = (
  ap (λ y. wrapped kind.I64 (int_div_euclid y (pos (2 ^ 56)))) e ∙ wrapped-64 kind.I64 _ refl,
  ap (λ y. wrapped kind.I64 (int_div_euclid y (pos (2 ^ 48)))) e ∙ wrapped-64 kind.I64 _ refl,
  ap (λ y. wrapped kind.I64 (int_div_euclid y (pos (2 ^ 32)))) e ∙ wrapped-64 kind.I64 _ refl,
)

sra_low : (a : ℕ) → a < 2 ^ 63 →
    (result_of Sra a 56 ≡ a / 2 ^ 56) × (result_of Sra a 48 ≡ a / 2 ^ 48) × (result_of Sra a 32 ≡ a / 2 ^ 32)
unfolding value_of reduced kept_of
sra_low a h =
    let small : a % 2 ^ 64 ≡ a = omega arith in
    let z : value_of kind.I64 a ≡ pos a = ap (twos_complement 64) small ∙ twos_complement-low 64 a h in
    let s = sra_by a (pos a) z in
    (s.0 ∙ omega arith, s.1 ∙ omega arith, s.2 ∙ omega arith)

sra_high : (a : ℕ) → 2 ^ 63 ≤ a → a < 2 ^ 64 →
    (result_of Sra a 56 ≡ 2 ^ 64 - 1 - (2 ^ 64 - 1 - a) / 2 ^ 56) ×
    (result_of Sra a 48 ≡ 2 ^ 64 - 1 - (2 ^ 64 - 1 - a) / 2 ^ 48) ×
    (result_of Sra a 32 ≡ 2 ^ 64 - 1 - (2 ^ 64 - 1 - a) / 2 ^ 32)
unfolding value_of reduced kept_of
sra_high a h j =
    let small : a % 2 ^ 64 ≡ a = omega arith in
    let z : value_of kind.I64 a ≡ negsuc (2 ^ 64 - 1 - a) =
    ap (twos_complement 64) small ∙ twos_complement-high 64 a h j in
    let s = sra_by a (negsuc (2 ^ 64 - 1 - a)) z in
    (s.0 ∙ omega arith, s.1 ∙ omega arith, s.2 ∙ omega arith)

-- the bits of a kind without a sign
unsigned_kept : (v : ℕ) →
    (wrapped kind.U8 (pos v) ≡ v % 2 ^ 8) × (wrapped kind.U16 (pos v) ≡ v % 2 ^ 16) ×
    (wrapped kind.U32 (pos v) ≡ v % 2 ^ 32)
unfolding wrapped reduced kept_of
unsigned_kept v = (omega arith, omega arith, omega arith)

signed_by : (w : ℕ) (n : ℕ) (z : ℤ) → twos_complement w n ≡ z → kept_of (twos_complement w n) ≡ kept_of z
signed_by w n z e = ap kept_of e

low_kept : (w n : ℕ) → n < 2 ^ (w - 1) → n < 2 ^ 64 → kept_of (twos_complement w n) ≡ n
unfolding kept_of
low_kept w n h j = signed_by w n (pos n) (twos_complement-low w n h) ∙ mod-eq_of_lt j

high_kept : (w n : ℕ) → 2 ^ (w - 1) ≤ n → n < 2 ^ w → 2 ^ w ≤ 2 ^ 64 →
    kept_of (twos_complement w n) ≡ 2 ^ 64 - 1 - (2 ^ w - 1 - n)
unfolding kept_of
high_kept w n h j k = signed_by w n (negsuc (2 ^ w - 1 - n)) (twos_complement-high w n h j)
    ∙ ap (λ x. 2 ^ 64 - 1 - x) (mod-eq_of_lt (omega arith))

-- what the two shifts leave
pub reduce_unsigned : (v : ℕ) → v < 2 ^ 64 →
    (result_of Srl (result_of Sll v 56) 56 ≡ wrapped kind.U8 (pos v)) ×
    (result_of Srl (result_of Sll v 48) 48 ≡ wrapped kind.U16 (pos v)) ×
    (result_of Srl (result_of Sll v 32) 32 ≡ wrapped kind.U32 (pos v))
reduce_unsigned v h =
    let k = unsigned_kept v in (
      ap (λ x. result_of Srl x 56) (sll_is v 56 h (omega arith)) ∙ (srl_is (v * 2 ^ (56 % 64) % 2 ^ 64)).0 ∙ omega arith
          ∙ sym k.0,
      ap (λ x. result_of Srl x 48) (sll_is v 48 h (omega arith)) ∙ (srl_is (v * 2 ^ (48 % 64) % 2 ^ 64)).1 ∙ omega arith
          ∙ sym k.1,
      ap (λ x. result_of Srl x 32) (sll_is v 32 h (omega arith)) ∙ (srl_is (v * 2 ^ (32 % 64) % 2 ^ 64)).2 ∙ omega arith
          ∙ sym k.2,
    )

pub reduce_8 : (v : ℕ) → v < 2 ^ 64 → result_of Sra (result_of Sll v 56) 56 ≡ wrapped kind.I8 (pos v)
unfolding wrapped reduced
reduce_8 v h =
    ap (λ x. result_of Sra x 56) (sll_is v 56 h (omega arith))
    ∙ ⊎_elim
    (λ low. (sra_low (v * 2 ^ (56 % 64) % 2 ^ 64) (omega arith)).0 ∙ omega arith
    ∙ sym (low_kept 8 (v % 2 ^ 8) low (omega arith)))
    (λ high. (sra_high (v * 2 ^ (56 % 64) % 2 ^ 64) (omega arith) (omega arith)).0 ∙ omega arith
    ∙ sym (high_kept 8 (v % 2 ^ 8) high (omega arith) (omega arith)))
    (cases_lt (v % 2 ^ 8) (2 ^ 7))

pub reduce_16 : (v : ℕ) → v < 2 ^ 64 → result_of Sra (result_of Sll v 48) 48 ≡ wrapped kind.I16 (pos v)
unfolding wrapped reduced
reduce_16 v h =
    ap (λ x. result_of Sra x 48) (sll_is v 48 h (omega arith))
    ∙ ⊎_elim
    (λ low. (sra_low (v * 2 ^ (48 % 64) % 2 ^ 64) (omega arith)).1 ∙ omega arith
    ∙ sym (low_kept 16 (v % 2 ^ 16) low (omega arith)))
    (λ high. (sra_high (v * 2 ^ (48 % 64) % 2 ^ 64) (omega arith) (omega arith)).1 ∙ omega arith
    ∙ sym (high_kept 16 (v % 2 ^ 16) high (omega arith) (omega arith)))
    (cases_lt (v % 2 ^ 16) (2 ^ 15))

-- ---- small numbers

pub small_extended : (p : ℕ) → p < 2048 → extended (pos p) ≡ p
unfolding kept_of
small_extended p h = omega arith

pub one_extended : extended (pos 1) ≡ 1
one_extended = small_extended 1 (omega arith)

-- a register is reduced to an `int` by adding 0
pub word_reduced : (v : ℕ) → result_of regs.Addw v (extended (pos 0)) ≡ wrapped kind.I32 (pos v)
unfolding result_of
word_reduced v =
    ap (binary_of op.Add kind.I32 v) (small_extended 0 (omega arith))
    ∙ binary_of-modular op.Add kind.I32 v 0 tt (omega arith)
    ∙ ap (λ n. wrapped kind.I32 (pos n)) sum
  where
    sum : v + 0 ≡ v
    sum = omega arith

-- ---- comparisons with 0 and 1

pub is_some : (v : ℕ) → v < 2 ^ 64 → result_of Sltu 0 v ≡ (if v == 0 then 0 else 1)
unfolding result_of compare_of value_of reduced
is_some v h = grind (arith, nat_tests)

pub is_none : (v : ℕ) → v < 2 ^ 64 → result_of Sltu v 1 ≡ (if v == 0 then 1 else 0)
unfolding result_of compare_of value_of reduced
is_none v h = grind (arith, nat_tests)

pub reduce_truth : (v : ℕ) → v < 2 ^ 64 → result_of Sltu 0 v ≡ wrapped kind.Bool (pos v)
unfolding wrapped reduced kept_of
reduce_truth v h = is_some v h ∙ grind (arith, nat_tests)

pub turned_round : (b : Bool) → result_of Xor (one_where b) 1 ≡ one_where (not b)
unfolding result_of binary_of wrapped reduced value_of kept_of
turned_round true = refl
turned_round false = refl

-- ---- operations

kept_is : (j : IntKind) (x : ℕ) → IsKept j x → kept_of (reduced j (pos x)) ≡ x
unfolding wrapped
kept_is j x h = h.kept

-- 64 bits that are kept in one kind, reduced to another
reduced_again : (j k : IntKind) (x : ℕ) → IsKept j x → 1 < width_of (form_of k) → wrapped k (pos x) ≡ converted j k x
unfolding converted value_of
reduced_again j k x h some =
    let same : kept_of (reduced j (pos x)) ≡ x = kept_is j x h in
    ap (λ y. wrapped k (pos y)) (sym same) ∙ wrapped-kept_of k (reduced j (pos x)) some

pub narrow : (o : IntOp) (j k : IntKind) (a b : ℕ) → IsModular o → 1 < width_of (form_of k) →
    width_of (form_of k) ≤ width_of (form_of j)
    → arithmetic.result_of o (promoted_width_of j) (pos a) (pos b)
    ≡ arithmetic.result_of o (promoted_width_of k) (pos a) (pos b)
    → wrapped k (pos (binary_of o j a b)) ≡ binary_of o k a b
narrow o j k a b modular some le same =
    reduced_again j k (binary_of o j a b) (IsKept-binary_of o j a b) some
    ∙ binary_of-narrower o j k a b modular some le same

kept : (o : IntOp) (k : IntKind) (a b : ℕ) → wrapped k (pos (binary_of o k a b)) ≡ binary_of o k a b
kept o k a b = (IsKept-binary_of o k a b).kept

extended_word : (o : IntOp) (a b : ℕ) →
    wrapped kind.U32 (pos (word (binary_of o kind.U32 a b))) ≡ binary_of o kind.U32 a b
extended_word o a b =
    let v = binary_of o kind.U32 a b in
    reduced_again kind.I32 kind.U32 (word v) (IsKept-converted kind.U32 kind.I32 v) (omega arith)
    ∙ converted-narrower kind.U32 kind.I32 kind.U32 v (omega arith) (omega arith)
    ∙ converted-same kind.U32 v (IsKept-binary_of o kind.U32 a b)

op_I32 : (o : IntOp) (a b : ℕ) → wrapped kind.I32 (pos (result_of (short_op o) a b)) ≡ binary_of o kind.I32 a b
unfolding result_of
op_I32 op.And a b = narrow op.And kind.I64 kind.I32 a b tt (omega arith) (omega arith) refl
op_I32 op.Or a b = narrow op.Or kind.I64 kind.I32 a b tt (omega arith) (omega arith) refl
op_I32 op.Xor a b = narrow op.Xor kind.I64 kind.I32 a b tt (omega arith) (omega arith) refl
op_I32 op.Add a b = kept op.Add kind.I32 a b
op_I32 op.Sub a b = kept op.Sub kind.I32 a b
op_I32 op.Mul a b = kept op.Mul kind.I32 a b
op_I32 op.Div a b = kept op.Div kind.I32 a b
op_I32 op.Rem a b = kept op.Rem kind.I32 a b
op_I32 op.Shl a b = kept op.Shl kind.I32 a b
op_I32 op.Shr a b = kept op.Shr kind.I32 a b

op_U32 : (o : IntOp) (a b : ℕ) →
    wrapped kind.U32 (pos (result_of (unsigned_op (short_op o)) a b)) ≡ binary_of o kind.U32 a b
unfolding result_of
op_U32 op.And a b = narrow op.And kind.I64 kind.U32 a b tt (omega arith) (omega arith) refl
op_U32 op.Or a b = narrow op.Or kind.I64 kind.U32 a b tt (omega arith) (omega arith) refl
op_U32 op.Xor a b = narrow op.Xor kind.I64 kind.U32 a b tt (omega arith) (omega arith) refl
op_U32 op.Add a b = narrow op.Add kind.I32 kind.U32 a b tt (omega arith) (omega arith) refl
op_U32 op.Sub a b = narrow op.Sub kind.I32 kind.U32 a b tt (omega arith) (omega arith) refl
op_U32 op.Mul a b = narrow op.Mul kind.I32 kind.U32 a b tt (omega arith) (omega arith) refl
op_U32 op.Shl a b = narrow op.Shl kind.I32 kind.U32 a b tt (omega arith) (omega arith) refl
op_U32 op.Div a b = extended_word op.Div a b
op_U32 op.Rem a b = extended_word op.Rem a b
op_U32 op.Shr a b = extended_word op.Shr a b

op_I64 : (o : IntOp) (a b : ℕ) → wrapped kind.I64 (pos (result_of (long_op o) a b)) ≡ binary_of o kind.I64 a b
unfolding result_of
op_I64 op.Add a b = kept op.Add kind.I64 a b
op_I64 op.Sub a b = kept op.Sub kind.I64 a b
op_I64 op.Mul a b = kept op.Mul kind.I64 a b
op_I64 op.Div a b = kept op.Div kind.I64 a b
op_I64 op.Rem a b = kept op.Rem kind.I64 a b
op_I64 op.And a b = kept op.And kind.I64 a b
op_I64 op.Or a b = kept op.Or kind.I64 a b
op_I64 op.Xor a b = kept op.Xor kind.I64 a b
op_I64 op.Shl a b = kept op.Shl kind.I64 a b
op_I64 op.Shr a b = kept op.Shr kind.I64 a b

op_U64 : (o : IntOp) (a b : ℕ) →
    wrapped kind.U64 (pos (result_of (unsigned_op (long_op o)) a b)) ≡ binary_of o kind.U64 a b
unfolding result_of
op_U64 op.Add a b = narrow op.Add kind.I64 kind.U64 a b tt (omega arith) (omega arith) refl
op_U64 op.Sub a b = narrow op.Sub kind.I64 kind.U64 a b tt (omega arith) (omega arith) refl
op_U64 op.Mul a b = narrow op.Mul kind.I64 kind.U64 a b tt (omega arith) (omega arith) refl
op_U64 op.And a b = narrow op.And kind.I64 kind.U64 a b tt (omega arith) (omega arith) refl
op_U64 op.Or a b = narrow op.Or kind.I64 kind.U64 a b tt (omega arith) (omega arith) refl
op_U64 op.Xor a b = narrow op.Xor kind.I64 kind.U64 a b tt (omega arith) (omega arith) refl
op_U64 op.Shl a b = narrow op.Shl kind.I64 kind.U64 a b tt (omega arith) (omega arith) refl
op_U64 op.Div a b = kept op.Div kind.U64 a b
op_U64 op.Rem a b = kept op.Rem kind.U64 a b
op_U64 op.Shr a b = kept op.Shr kind.U64 a b

-- a kind that the integer promotions leave as it is (C11 6.3.1.1p2)
abbrev pub IsPromoted : IntKind → Type 0
IsPromoted k = 32 ≤ width_of (form_of k)

-- the operation, reduced to its kind
pub op_is : (o : IntOp) (k : IntKind) (a b : ℕ) → IsPromoted k →
    wrapped k (pos (result_of (reg_op k o) a b)) ≡ binary_of o k a b
op_is o kind.I32 a b p = op_I32 o a b
op_is o kind.U32 a b p = op_U32 o a b
op_is o kind.I64 a b p = op_I64 o a b
op_is o kind.U64 a b p = op_U64 o a b
op_is o k a b p = absurd (omega arith)

pub kept_low : (j : IntKind) (v w : ℕ) → w ≤ 32 → IsPromoted j → wrapped j (pos v) % 2 ^ w ≡ v % 2 ^ w
unfolding wrapped kept_of
kept_low j v w le p =
    modulo-low (reduced j (pos v)) w 64 (omega arith) ∙ reduced_low
  where
    reduced_low : modulo (reduced j (pos v)) (2 ^ w) ≡ v % 2 ^ w
    reduced_low =
        sym (modulo-low (reduced j (pos v)) w (width_of (form_of j)) (omega arith))
        ∙ ap (λ n. n % 2 ^ w) (modulo-reduced j (pos v) (omega arith))
        ∙ modulo-low (pos v) w (width_of (form_of j)) (omega arith)
