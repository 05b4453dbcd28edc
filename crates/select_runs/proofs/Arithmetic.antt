-- What single instructions compute, in words of the arithmetic of kinds.
use Rattle.std.proofs.Common.{◌≡◌, ℕ, ◌+◌, ◌-◌, ◌*◌, ◌/◌, ◌%◌, ◌^◌, ◌<◌, ◌≤◌, ◌⊎◌, inl, inr, pos, Bool, true, false}
use Rattle.std.proofs.Common.{Option, Some, None, refl, sym, ap, ◌∙◌, subst, arith, ⊎_elim}
use Rattle.std.specs.Prelude.{bit_and, bit_or, bit_xor}
use Rattle.std.proofs.lemmas.Bool.{cases_lt, cases_eq}
use Rattle.std.proofs.lemmas.Nat.{and_shr, or_shr, xor_shr, and_le_l, and_comm, or_comm, xor_comm, and_mask, or_lt}
use Rattle.std.proofs.lemmas.Nat.{xor_lt}
use Rattle.std.proofs.Math.Nat.{mod-lt, mod-le, div-le_self, mul_comm}
use Rattle.std.proofs.Math.Pow.{pow-lt}
use Rattle.std.specs.Int.{int_div_euclid}
use Rattle.ck_int.specs.declared.kinds.IntKind.{IntKind}
use Rattle.ck_int.specs.declared.kinds.IntKind.TheVariants as int
use Rattle.ck_int.specs.declared.kinds.IntOp.{IntOp}
use Rattle.ck_int.specs.declared.kinds.IntOp.TheVariants as op
use Rattle.ck_int.specs.Arithmetic.{binary_of, promoted_width_of}
use Rattle.ck_int.specs.Kinds.{form_of, width_of, unsigned, IsKept, reduced, kept_of, wrapped, converted, value_of}
use Rattle.ck_int.specs.Words.{word_of, word_result_of}
use Rattle.ck_int.proofs.Laws.{IsKept-below, IsKept-unsigned, IsKept-unsigned_below, wrapped-below}
use Rattle.ck_int.proofs.OperationLaws.{binary_of-narrower, binary_of-Add, binary_of-Sub, binary_of-Mul, binary_of-Shl}
use Rattle.ck_int.proofs.OperationLaws.{IsKept-64}
use Rattle.ck_int.proofs.WordLaws.{binary_of-word, word_result_of-Add, word_result_of-Mul, word_result_of-And}
use Rattle.ck_int.proofs.WordLaws.{word_result_of-Or, word_result_of-Xor, word_result_of-Shl, word_result_of-Shr}
use Rattle.ck_int.proofs.WordLaws.{word_result_of-Rem, unsigned_remainder, remainder-zero, unsigned_shift, kept_of-pos}
use Rattle.rv_instr.specs.declared.ops.RegOp.{RegOp}
use Rattle.rv_instr.specs.declared.ops.RegOp.TheVariants as regs
use Rattle.rv_instr.specs.declared.ops.ImmOp.{ImmOp}
use Rattle.cap_machine.specs.Integers.{result_of, immediate_op, shift_op, extended}
use Rattle.cheri_c_sem.specs.Types.{is_shift}
use Rattle.tac_ir.specs.Costs.{is_wide}
use Rattle.select_runs.proofs.Reduced.{IsPromoted, op_is, narrow, kept_low, result_below, small_extended}
use Rattle.purecap_abi.specs.Numbers.{signed_word}
use Rattle.select_words.specs.Integers.{reg_op}
use Rattle.select_words.specs.Operations.{AtKind, is_exact, selected_op, add_op, immediate_by, shift_by}
use Rattle.select_runs.proofs.Numbers.{wrapped_word, signed_small, signed_great}

-- ---- 32 bits with their sign, in 64

sign_bits : ℕ → Type 0
sign_bits h = (h ≡ 0) ⊎ (h ≡ 2 ^ 33 - 1)

word_top : (v : ℕ) → IsKept int.I32 v → sign_bits (v / 2 ^ 31)
unfolding sign_bits
word_top v k =
    let e : signed_word v ≡ v = sym (wrapped_word v) ∙ k.kept in
    ⊎_elim
    (λ low. inl (let s = signed_small v low in omega (arith, e, s, low)))
    (λ high. inr (let s = signed_great v high in omega (arith, e, s, high)))
    (cases_lt (v % 2 ^ 32) (2 ^ 31))

word_from_top : (v : ℕ) → v < 2 ^ 64 → sign_bits (v / 2 ^ 31) → IsKept int.I32 v
unfolding sign_bits
word_from_top v small (inl z) =
    let low : v % 2 ^ 32 < 2 ^ 31 = omega (arith, z, small) in
    record { kept = wrapped_word v ∙ signed_small v low ∙ omega (arith, z, small) }
word_from_top v small (inr z) =
    let high : 2 ^ 31 ≤ v % 2 ^ 32 = omega (arith, z, small) in
    record { kept = wrapped_word v ∙ signed_great v high ∙ omega (arith, z, small) }

and_top : (a b : ℕ) → sign_bits a → sign_bits b → sign_bits (bit_and a b)
unfolding sign_bits
and_top a b (inl x) (inl y) = inl (ap (λ n. bit_and n b) x ∙ ap (bit_and 0) y)
and_top a b (inl x) (inr y) = inl (ap (λ n. bit_and n b) x ∙ ap (bit_and 0) y)
and_top a b (inr x) (inl y) = inl (ap (λ n. bit_and n b) x ∙ ap (bit_and (2 ^ 33 - 1)) y)
and_top a b (inr x) (inr y) = inr (ap (λ n. bit_and n b) x ∙ ap (bit_and (2 ^ 33 - 1)) y)

or_top : (a b : ℕ) → sign_bits a → sign_bits b → sign_bits (bit_or a b)
unfolding sign_bits
or_top a b (inl x) (inl y) = inl (ap (λ n. bit_or n b) x ∙ ap (bit_or 0) y)
or_top a b (inl x) (inr y) = inr (ap (λ n. bit_or n b) x ∙ ap (bit_or 0) y)
or_top a b (inr x) (inl y) = inr (ap (λ n. bit_or n b) x ∙ ap (bit_or (2 ^ 33 - 1)) y)
or_top a b (inr x) (inr y) = inr (ap (λ n. bit_or n b) x ∙ ap (bit_or (2 ^ 33 - 1)) y)

xor_top : (a b : ℕ) → sign_bits a → sign_bits b → sign_bits (bit_xor a b)
unfolding sign_bits
xor_top a b (inl x) (inl y) = inl (ap (λ n. bit_xor n b) x ∙ ap (bit_xor 0) y)
xor_top a b (inl x) (inr y) = inr (ap (λ n. bit_xor n b) x ∙ ap (bit_xor 0) y)
xor_top a b (inr x) (inl y) = inr (ap (λ n. bit_xor n b) x ∙ ap (bit_xor (2 ^ 33 - 1)) y)
xor_top a b (inr x) (inr y) = inl (ap (λ n. bit_xor n b) x ∙ ap (bit_xor (2 ^ 33 - 1)) y)

and_small : (a b : ℕ) → a < 2 ^ 64 → bit_and a b < 2 ^ 64
and_small a b h = let l = and_le_l a b in omega (arith, h, l)

-- ---- bits: 64 of them, and those of a kind

-- the words of kept operands
of_words : (o : IntOp) (k : IntKind) (a b : ℕ) → IsKept k a → IsKept k b
    → binary_of o k a b ≡ wrapped k (pos (word_result_of o k a b))
of_words o k a b x y =
    binary_of-word o k a b ∙ ap (λ n. wrapped k (pos (word_result_of o k n (wrapped k (pos b))))) x.kept
    ∙ ap (λ n. wrapped k (pos (word_result_of o k a n))) y.kept

-- where 64 bits that are the word's result are kept, they are the result
exactly : (o : IntOp) (k : IntKind) (a b r : ℕ) → IsKept k a → IsKept k b → word_result_of o k a b ≡ r → IsKept k r
    → binary_of o k a b ≡ r
exactly o k a b r x y e z = of_words o k a b x y ∙ ap (λ n. wrapped k (pos n)) e ∙ z.kept

wide : (v : ℕ) → v < 2 ^ 64 → IsKept int.I64 v
wide v h = IsKept-64 int.I64 v refl h

bits_alike : (o : IntOp) (k : IntKind) (a b r : ℕ) → IsKept k a → IsKept k b → r < 2 ^ 64 → IsKept k r
    → word_result_of o int.I64 a b ≡ r → word_result_of o k a b ≡ r → binary_of o int.I64 a b ≡ binary_of o k a b
bits_alike o k a b r x y small kept e f =
    exactly o int.I64 a b r (wide a (IsKept-below k a x)) (wide b (IsKept-below k b y)) e (wide r small)
    ∙ sym (exactly o k a b r x y f kept)

and_exact : (k : IntKind) (a b : ℕ) → IsKept k a → IsKept k b → IsKept k (bit_and a b)
    → binary_of op.And int.I64 a b ≡ binary_of op.And k a b
and_exact k a b x y kept =
    let h = IsKept-below k a x in let j = IsKept-below k b y in
    bits_alike op.And k a b (bit_and a b) x y (and_small a b h) kept (word_result_of-And int.I64 a b h j)
    (word_result_of-And k a b h j)

or_exact : (k : IntKind) (a b : ℕ) → IsKept k a → IsKept k b → IsKept k (bit_or a b)
    → binary_of op.Or int.I64 a b ≡ binary_of op.Or k a b
or_exact k a b x y kept =
    let h = IsKept-below k a x in let j = IsKept-below k b y in
    bits_alike op.Or k a b (bit_or a b) x y (or_lt 64 a b h j) kept (word_result_of-Or int.I64 a b h j)
    (word_result_of-Or k a b h j)

xor_exact : (k : IntKind) (a b : ℕ) → IsKept k a → IsKept k b → IsKept k (bit_xor a b)
    → binary_of op.Xor int.I64 a b ≡ binary_of op.Xor k a b
xor_exact k a b x y kept =
    let h = IsKept-below k a x in let j = IsKept-below k b y in
    bits_alike op.Xor k a b (bit_xor a b) x y (xor_lt 64 a b h j) kept (word_result_of-Xor int.I64 a b h j)
    (word_result_of-Xor k a b h j)

word_and : (a b : ℕ) → IsKept int.I32 a → IsKept int.I32 b → IsKept int.I32 (bit_and a b)
word_and a b x y =
    word_from_top (bit_and a b) (and_small a b (IsKept-below int.I32 a x))
    (subst sign_bits (sym (and_shr a b 31)) (and_top (a / 2 ^ 31) (b / 2 ^ 31) (word_top a x) (word_top b y)))

word_or : (a b : ℕ) → IsKept int.I32 a → IsKept int.I32 b → IsKept int.I32 (bit_or a b)
word_or a b x y =
    word_from_top (bit_or a b) (or_lt 64 a b (IsKept-below int.I32 a x) (IsKept-below int.I32 b y))
    (subst sign_bits (sym (or_shr a b 31)) (or_top (a / 2 ^ 31) (b / 2 ^ 31) (word_top a x) (word_top b y)))

word_xor : (a b : ℕ) → IsKept int.I32 a → IsKept int.I32 b → IsKept int.I32 (bit_xor a b)
word_xor a b x y =
    word_from_top (bit_xor a b) (xor_lt 64 a b (IsKept-below int.I32 a x) (IsKept-below int.I32 b y))
    (subst sign_bits (sym (xor_shr a b 31)) (xor_top (a / 2 ^ 31) (b / 2 ^ 31) (word_top a x) (word_top b y)))

half : (v : ℕ) → v < 2 ^ 32 → IsKept int.U32 v
half v h = IsKept-unsigned int.U32 v refl h

half_below : (v : ℕ) → IsKept int.U32 v → v < 2 ^ 32
half_below v k = IsKept-unsigned_below int.U32 v refl k

-- ---- the remainder of 32 bits without a sign

remainder_alike : (a b : ℕ) → IsKept int.U32 a → IsKept int.U32 b
    → binary_of op.Rem int.U64 a b ≡ binary_of op.Rem int.U32 a b
unfolding word_result_of
remainder_alike a b x y =
    let h = half_below a x in let j = half_below b y in
    let r = word_result_of op.Rem int.U32 a b in
    let l : r < 2 ^ 32 = ⊎_elim (λ z. zero h z) (λ ne. some h j ne) (cases_eq b 0) in
    exactly op.Rem int.U64 a b r (IsKept-64 int.U64 a refl (omega (arith, h))) (IsKept-64 int.U64 b refl (omega
    (arith, j))) refl
    (IsKept-64 int.U64 r refl (omega (arith, l)))
    ∙ sym (exactly op.Rem int.U32 a b r x y refl (half r l))
  where
    zero : a < 2 ^ 32 → b ≡ 0 → word_result_of op.Rem int.U32 a b < 2 ^ 32
    zero h e =
        let f = word_result_of-Rem int.U32 a b ∙ ap kept_of (remainder-zero (unsigned 32) (pos a) b e) ∙ kept_of-pos a
        (omega (arith, h)) in
        omega (arith, h, f)

    some : a < 2 ^ 32 → b < 2 ^ 32 → (b ≡ 0 → ⊥) → word_result_of op.Rem int.U32 a b < 2 ^ 32
    some h j ne =
        let f = word_result_of-Rem int.U32 a b ∙ sym (unsigned_remainder (unsigned 32) a b refl (omega (arith, h))
        (omega (arith, j)) ne) in
        omega (arith, h, f)

-- ---- operations of two registers

-- what the word gives: the result, or what is reduced to it
pub record Gives (k : IntKind) (o : IntOp) (by_number : Bool) (r v : ℕ) : Type 0 where
  pub below : r < 2 ^ 64
  pub exact : is_exact k o by_number ≡ true → r ≡ v
  pub else_reduced : is_exact k o by_number ≡ false → wrapped k (pos r) ≡ v

-- without a sign, at 64 bits
long_is : (o : IntOp) (a b : ℕ) → result_of (reg_op int.U64 o) a b ≡ binary_of o int.U64 a b
long_is o a b = sym (wide_kept (result_of (reg_op int.U64 o) a b) (result_below (reg_op int.U64 o) a b))
    ∙ op_is o int.U64 a b (omega arith)
  where
    wide_kept : (v : ℕ) → v < 2 ^ 64 → wrapped int.U64 (pos v) ≡ v
    wide_kept v h = (IsKept-64 int.U64 v refl h).kept

registers_exact : (o : IntOp) (k : IntKind) (a b : ℕ) → IsKept k a → (is_shift o ≡ false → IsKept k b)
    → is_exact k o false ≡ true
    → result_of (selected_op k o) a b ≡ binary_of o k a b
unfolding result_of
registers_exact op.And int.I32 a b x y e = let z = y refl in and_exact int.I32 a b x z (word_and a b x z)
registers_exact op.Or int.I32 a b x y e = let z = y refl in or_exact int.I32 a b x z (word_or a b x z)
registers_exact op.Xor int.I32 a b x y e = let z = y refl in xor_exact int.I32 a b x z (word_xor a b x z)
registers_exact op.Add int.I32 a b x y e = refl
registers_exact op.Sub int.I32 a b x y e = refl
registers_exact op.Mul int.I32 a b x y e = refl
registers_exact op.Div int.I32 a b x y e = refl
registers_exact op.Rem int.I32 a b x y e = refl
registers_exact op.Shl int.I32 a b x y e = refl
registers_exact op.Shr int.I32 a b x y e = refl
registers_exact op.And int.U32 a b x y e =
    let z = y refl in let h = half_below a x in let l = and_le_l a b in
    and_exact int.U32 a b x z (half (bit_and a b) (omega (arith, h, l)))
registers_exact op.Or int.U32 a b x y e =
    let z = y refl in or_exact int.U32 a b x z (half (bit_or a b) (or_lt 32 a b (half_below a x) (half_below b z)))
registers_exact op.Xor int.U32 a b x y e =
    let z = y refl in xor_exact int.U32 a b x z (half (bit_xor a b) (xor_lt 32 a b (half_below a x) (half_below b z)))
registers_exact op.Rem int.U32 a b x y e = remainder_alike a b x (y refl)
registers_exact op.Add int.U32 a b x y e = cc
registers_exact op.Sub int.U32 a b x y e = cc
registers_exact op.Mul int.U32 a b x y e = cc
registers_exact op.Div int.U32 a b x y e = cc
registers_exact op.Shl int.U32 a b x y e = cc
registers_exact op.Shr int.U32 a b x y e = cc
registers_exact op.Add int.I64 a b x y e = refl
registers_exact op.Sub int.I64 a b x y e = refl
registers_exact op.Mul int.I64 a b x y e = refl
registers_exact op.Div int.I64 a b x y e = refl
registers_exact op.Rem int.I64 a b x y e = refl
registers_exact op.And int.I64 a b x y e = refl
registers_exact op.Or int.I64 a b x y e = refl
registers_exact op.Xor int.I64 a b x y e = refl
registers_exact op.Shl int.I64 a b x y e = refl
registers_exact op.Shr int.I64 a b x y e = refl
registers_exact o int.U64 a b x y e = long_is o a b
registers_exact o int.Bool a b x y e = cc
registers_exact o int.I8 a b x y e = cc
registers_exact o int.U8 a b x y e = cc
registers_exact o int.I16 a b x y e = cc
registers_exact o int.U16 a b x y e = cc

-- a truth value is 0 or 1, and so are sums and differences of two
truth : (v : ℕ) → IsKept int.Bool v → (v ≡ 0) ⊎ (v ≡ 1)
truth v k =
    ⊎_elim (λ e. inl e) (λ ne. inr (omega (arith, ne, IsKept-unsigned_below int.Bool v refl k))) (cases_eq v 0)

truths : (Is : ℕ → ℕ → Type 0) → Is 0 0 → Is 0 1 → Is 1 0 → Is 1 1 → (a b : ℕ) → IsKept int.Bool a → IsKept int.Bool b
    → Is a b
truths Is p q r z a b x y = by (truth a x) (truth b y)
  where
    by : (a ≡ 0) ⊎ (a ≡ 1) → (b ≡ 0) ⊎ (b ≡ 1) → Is a b
    by (inl e) (inl f) = subst (λ n. Is n b) (sym e) (subst (Is 0) (sym f) p)
    by (inl e) (inr f) = subst (λ n. Is n b) (sym e) (subst (Is 0) (sym f) q)
    by (inr e) (inl f) = subst (λ n. Is n b) (sym e) (subst (Is 1) (sym f) r)
    by (inr e) (inr f) = subst (λ n. Is n b) (sym e) (subst (Is 1) (sym f) z)

truth_sums : (a b : ℕ) → IsKept int.Bool a → IsKept int.Bool b
    → wrapped int.Bool (pos (binary_of op.Add int.I32 a b)) ≡ binary_of op.Add int.Bool a b
unfolding wrapped reduced kept_of binary_of value_of
truth_sums =
    truths (λ a b. wrapped int.Bool (pos (binary_of op.Add int.I32 a b)) ≡ binary_of op.Add int.Bool a b) refl refl refl
    refl

truth_differences : (a b : ℕ) → IsKept int.Bool a → IsKept int.Bool b
    → wrapped int.Bool (pos (binary_of op.Sub int.I32 a b)) ≡ binary_of op.Sub int.Bool a b
unfolding wrapped reduced kept_of binary_of value_of
truth_differences =
    truths (λ a b. wrapped int.Bool (pos (binary_of op.Sub int.I32 a b)) ≡ binary_of op.Sub int.Bool a b) refl refl refl
    refl

registers_reduced : (o : IntOp) (k : IntKind) (a b : ℕ) → AtKind k o → IsKept k a → (is_shift o ≡ false → IsKept k b)
    → is_exact k o false ≡ false
    → wrapped k (pos (result_of (selected_op k o) a b)) ≡ binary_of o k a b
unfolding result_of
registers_reduced op.Add int.U32 a b p x y e = op_is op.Add int.U32 a b (omega arith)
registers_reduced op.Sub int.U32 a b p x y e = op_is op.Sub int.U32 a b (omega arith)
registers_reduced op.Mul int.U32 a b p x y e = op_is op.Mul int.U32 a b p
registers_reduced op.Div int.U32 a b p x y e = op_is op.Div int.U32 a b p
registers_reduced op.Shl int.U32 a b p x y e = op_is op.Shl int.U32 a b p
registers_reduced op.Shr int.U32 a b p x y e = op_is op.Shr int.U32 a b p
registers_reduced op.Add int.Bool a b p x y e = truth_sums a b x (y refl)
registers_reduced op.Sub int.Bool a b p x y e = truth_differences a b x (y refl)
registers_reduced op.Add int.I8 a b p x y e = narrow op.Add int.I32 int.I8 a b tt (omega arith) (omega arith) refl
registers_reduced op.Sub int.I8 a b p x y e = narrow op.Sub int.I32 int.I8 a b tt (omega arith) (omega arith) refl
registers_reduced op.Add int.U8 a b p x y e = narrow op.Add int.I32 int.U8 a b tt (omega arith) (omega arith) refl
registers_reduced op.Sub int.U8 a b p x y e = narrow op.Sub int.I32 int.U8 a b tt (omega arith) (omega arith) refl
registers_reduced op.Add int.I16 a b p x y e = narrow op.Add int.I32 int.I16 a b tt (omega arith) (omega arith) refl
registers_reduced op.Sub int.I16 a b p x y e = narrow op.Sub int.I32 int.I16 a b tt (omega arith) (omega arith) refl
registers_reduced op.Add int.U16 a b p x y e = narrow op.Add int.I32 int.U16 a b tt (omega arith) (omega arith) refl
registers_reduced op.Sub int.U16 a b p x y e = narrow op.Sub int.I32 int.U16 a b tt (omega arith) (omega arith) refl
registers_reduced op.Rem int.U32 a b p x y e = cc
registers_reduced op.And int.U32 a b p x y e = cc
registers_reduced op.Or int.U32 a b p x y e = cc
registers_reduced op.Xor int.U32 a b p x y e = cc
registers_reduced o int.I32 a b p x y e = cc
registers_reduced o int.I64 a b p x y e = cc
registers_reduced o int.U64 a b p x y e = cc
registers_reduced op.Mul k a b p x y e = absurd (omega arith)
registers_reduced op.Div k a b p x y e = absurd (omega arith)
registers_reduced op.Rem k a b p x y e = absurd (omega arith)
registers_reduced op.And k a b p x y e = absurd (omega arith)
registers_reduced op.Or k a b p x y e = absurd (omega arith)
registers_reduced op.Xor k a b p x y e = absurd (omega arith)
registers_reduced op.Shl k a b p x y e = absurd (omega arith)
registers_reduced op.Shr k a b p x y e = absurd (omega arith)

pub registers_give : (o : IntOp) (k : IntKind) (a b : ℕ) → AtKind k o → IsKept k a → (is_shift o ≡ false → IsKept k b)
    → Gives k o false (result_of (selected_op k o) a b) (binary_of o k a b)
registers_give o k a b p x y = record {
  below = result_below (selected_op k o) a b;
  exact = λ e. registers_exact o k a b x y e;
  else_reduced = λ e. registers_reduced o k a b p x y e;
}

-- ---- with a number

-- the word is that of two registers
pub immediate_is : (o : IntOp) (k : IntKind) (i : ImmOp) → AtKind k o → immediate_by k o ≡ Some i
    → immediate_op i ≡ selected_op k o
immediate_is o k i p e = by o k p i e
  where
    op_in : Option ImmOp → RegOp
    op_in None = regs.Add
    op_in (Some j) = immediate_op j

    by : (o : IntOp) (k : IntKind) → AtKind k o → (i : ImmOp) → immediate_by k o ≡ Some i
        → immediate_op i ≡ selected_op k o
    by op.Add int.I32 p i e = sym (ap op_in e)
    by op.Add int.U32 p i e = sym (ap op_in e)
    by op.Add int.I64 p i e = sym (ap op_in e)
    by op.Add int.U64 p i e = sym (ap op_in e)
    by op.Add int.Bool p i e = sym (ap op_in e)
    by op.Add int.I8 p i e = sym (ap op_in e)
    by op.Add int.U8 p i e = sym (ap op_in e)
    by op.Add int.I16 p i e = sym (ap op_in e)
    by op.Add int.U16 p i e = sym (ap op_in e)
    by op.And int.I32 p i e = sym (ap op_in e)
    by op.And int.U32 p i e = sym (ap op_in e)
    by op.And int.I64 p i e = sym (ap op_in e)
    by op.And int.U64 p i e = sym (ap op_in e)
    by op.Or int.I32 p i e = sym (ap op_in e)
    by op.Or int.U32 p i e = sym (ap op_in e)
    by op.Or int.I64 p i e = sym (ap op_in e)
    by op.Or int.U64 p i e = sym (ap op_in e)
    by op.Xor int.I32 p i e = sym (ap op_in e)
    by op.Xor int.U32 p i e = sym (ap op_in e)
    by op.Xor int.I64 p i e = sym (ap op_in e)
    by op.Xor int.U64 p i e = sym (ap op_in e)
    by op.Sub k p i e = absurd cc
    by op.Mul k p i e = absurd cc
    by op.Div k p i e = absurd cc
    by op.Rem k p i e = absurd cc
    by op.Shl k p i e = absurd cc
    by op.Shr k p i e = absurd cc
    by o k p i e = absurd (omega arith)

pub no_shift : (o : IntOp) (k : IntKind) (i : ImmOp) → immediate_by k o ≡ Some i → is_shift o ≡ false
no_shift op.Shl k i e = cc
no_shift op.Shr k i e = cc
no_shift op.Add k i e = refl
no_shift op.Sub k i e = refl
no_shift op.Mul k i e = refl
no_shift op.Div k i e = refl
no_shift op.Rem k i e = refl
no_shift op.And k i e = refl
no_shift op.Or k i e = refl
no_shift op.Xor k i e = refl

-- the operands change places
by_words : (o : IntOp) (k : IntKind) (a b : ℕ) → IsKept k a → IsKept k b
    → word_result_of o k a b ≡ word_result_of o k b a
    → binary_of o k a b ≡ binary_of o k b a
by_words o k a b x y e = of_words o k a b x y ∙ ap (λ n. wrapped k (pos n)) e ∙ sym (of_words o k b a y x)

pub commutes : (o : IntOp) (k : IntKind) (i : ImmOp) (a b : ℕ) → immediate_by k o ≡ Some i → IsKept k a → IsKept k b
    → binary_of o k a b ≡ binary_of o k b a
commutes op.Add k i a b e x y =
    let h = IsKept-below k a x in let j = IsKept-below k b y in
    let c : (a + b) % 2 ^ 64 ≡ (b + a) % 2 ^ 64 = omega arith in
    by_words op.Add k a b x y (word_result_of-Add k a b h j ∙ c ∙ sym (word_result_of-Add k b a j h))
commutes op.And k i a b e x y =
    let h = IsKept-below k a x in let j = IsKept-below k b y in
    by_words op.And k a b x y (word_result_of-And k a b h j ∙ and_comm a b ∙ sym (word_result_of-And k b a j h))
commutes op.Or k i a b e x y =
    let h = IsKept-below k a x in let j = IsKept-below k b y in
    by_words op.Or k a b x y (word_result_of-Or k a b h j ∙ or_comm a b ∙ sym (word_result_of-Or k b a j h))
commutes op.Xor k i a b e x y =
    let h = IsKept-below k a x in let j = IsKept-below k b y in
    by_words op.Xor k a b x y (word_result_of-Xor k a b h j ∙ xor_comm a b ∙ sym (word_result_of-Xor k b a j h))
commutes op.Sub k i a b e x y = cc
commutes op.Mul k i a b e x y = cc
commutes op.Div k i a b e x y = cc
commutes op.Rem k i a b e x y = cc
commutes op.Shl k i a b e x y = cc
commutes op.Shr k i a b e x y = cc

-- to add the negative is to subtract
less_wide : (a n m : ℕ) → a < 2 ^ 64 → n < 2 ^ 64 → m < 2 ^ 64 → (m + n) % 2 ^ 64 ≡ 0
    → binary_of op.Add int.I64 a m ≡ binary_of op.Sub int.I64 a n
less_wide a n m h j l e =
    binary_of-Add int.I64 a m refl h l ∙ omega (arith, e, j, l) ∙ sym (binary_of-Sub int.I64 a n refl h j)

less_word : (a n m : ℕ) → a < 2 ^ 64 → n < 2 ^ 64 → m < 2 ^ 64 → (m + n) % 2 ^ 64 ≡ 0
    → binary_of op.Add int.I32 a m ≡ binary_of op.Sub int.I32 a n
less_word a n m h j l e =
    sym (binary_of-narrower op.Add int.I64 int.I32 a m tt (omega arith) (omega arith) refl)
    ∙ ap (converted int.I64 int.I32) (less_wide a n m h j l e)
    ∙ binary_of-narrower op.Sub int.I64 int.I32 a n tt (omega arith) (omega arith) refl

pub less_is : (k : IntKind) (a n m : ℕ) → a < 2 ^ 64 → n < 2 ^ 64 → m < 2 ^ 64 → (m + n) % 2 ^ 64 ≡ 0
    → result_of (immediate_op (add_op k)) a m ≡ result_of (selected_op k op.Sub) a n
unfolding result_of
less_is int.I32 a n m h j l e = less_word a n m h j l e
less_is int.U32 a n m h j l e = less_word a n m h j l e
less_is int.I64 a n m h j l e = less_wide a n m h j l e
less_is int.U64 a n m h j l e = less_wide a n m h j l e
less_is int.Bool a n m h j l e = less_word a n m h j l e
less_is int.I8 a n m h j l e = less_word a n m h j l e
less_is int.U8 a n m h j l e = less_word a n m h j l e
less_is int.I16 a n m h j l e = less_word a n m h j l e
less_is int.U16 a n m h j l e = less_word a n m h j l e

-- ---- shifts by a number

-- the bits of a promoted kind, of which so many of a count matter
promoted_bits : (k : IntKind) → IsPromoted k → (w : ℕ) × (promoted_width_of k ≡ 2 ^ w) × (w ≤ 6) × (width_of
    (form_of k) ≡ 2 ^ w)
promoted_bits int.I32 p = (5, refl, omega arith, refl)
promoted_bits int.U32 p = (5, refl, omega arith, refl)
promoted_bits int.I64 p = (6, refl, omega arith, refl)
promoted_bits int.U64 p = (6, refl, omega arith, refl)
promoted_bits k p = absurd (omega arith)

count_kept : (k : IntKind) (n : ℕ) → IsPromoted k → wrapped k (pos n) % promoted_width_of k ≡ n % promoted_width_of k
count_kept k n p =
    let q = promoted_bits k p in
    ap (λ w. wrapped k (pos n) % w) q.1 ∙ kept_low k n q.0 (omega (arith, q.2)) p ∙ sym (ap (λ w. n % w) q.1)

count_again : (k : IntKind) (n : ℕ) → IsPromoted k → n % width_of
    (form_of k) % promoted_width_of k ≡ n % promoted_width_of k
count_again int.I32 n p = omega arith
count_again int.U32 n p = omega arith
count_again int.I64 n p = omega arith
count_again int.U64 n p = omega arith
count_again k n p = absurd (omega arith)

shl_is : (k : IntKind) (a n : ℕ) → IsPromoted k → IsKept k a → n < 2 ^ 64
    → binary_of op.Shl k a n ≡ wrapped k (pos ((a * 2 ^ (n % promoted_width_of k)) % 2 ^ 64))
shl_is k a n p x h =
    binary_of-word op.Shl k a n
    ∙ ap (λ m. wrapped k (pos (word_result_of op.Shl k m (wrapped k (pos n))))) x.kept
    ∙ ap (λ m. wrapped k (pos m)) (word_result_of-Shl k a (wrapped k (pos n)) (IsKept-below k a x) (wrapped-below k
    (pos n)))
    ∙ ap (λ c. wrapped k (pos ((a * 2 ^ c) % 2 ^ 64))) (count_kept k n p)

shr_is : (k : IntKind) (a n : ℕ) → IsPromoted k → IsKept k a → n < 2 ^ 64
    → binary_of op.Shr k a n ≡ wrapped k (pos (kept_of (int_div_euclid (word_of (form_of k) a) (pos (2 ^
    (n % promoted_width_of k))))))
shr_is k a n p x h =
    binary_of-word op.Shr k a n
    ∙ ap (λ m. wrapped k (pos (word_result_of op.Shr k m (wrapped k (pos n))))) x.kept
    ∙ ap (λ m. wrapped k (pos m)) (word_result_of-Shr k a (wrapped k (pos n)) (IsKept-below k a x) (wrapped-below k
    (pos n)))
    ∙ ap (λ c. wrapped k (pos (kept_of (int_div_euclid (word_of (form_of k) a) (pos (2 ^ c)))))) (count_kept k n p)

shift_again : (o : IntOp) (k : IntKind) (a n : ℕ) → is_shift o ≡ true → IsPromoted k → IsKept k a → n < 2 ^ 64
    → binary_of o k a (n % width_of (form_of k)) ≡ binary_of o k a n
shift_again op.Shl k a n s p x h =
    let small : n % width_of (form_of k) < 2 ^ 64 = reduced_below (width_of (form_of k)) n h in
    shl_is k a (n % width_of (form_of k)) p x small
    ∙ ap (λ c. wrapped k (pos ((a * 2 ^ c) % 2 ^ 64))) (count_again k n p) ∙ sym (shl_is k a n p x h)
  where
    reduced_below : (w n : ℕ) → n < 2 ^ 64 → n % w < 2 ^ 64
    reduced_below w n h = let l = mod-le n w in omega (arith, l, h)
shift_again op.Shr k a n s p x h =
    let small : n % width_of (form_of k) < 2 ^ 64 = reduced_below (width_of (form_of k)) n h in
    shr_is k a (n % width_of (form_of k)) p x small
    ∙ ap (λ c. wrapped k (pos (kept_of (int_div_euclid (word_of (form_of k) a) (pos (2 ^ c)))))) (count_again k n p)
    ∙ sym (shr_is k a n p x h)
  where
    reduced_below : (w n : ℕ) → n < 2 ^ 64 → n % w < 2 ^ 64
    reduced_below w n h = let l = mod-le n w in omega (arith, l, h)
shift_again op.Add k a n s p x h = cc
shift_again op.Sub k a n s p x h = cc
shift_again op.Mul k a n s p x h = cc
shift_again op.Div k a n s p x h = cc
shift_again op.Rem k a n s p x h = cc
shift_again op.And k a n s p x h = cc
shift_again op.Or k a n s p x h = cc
shift_again op.Xor k a n s p x h = cc

-- 32 bits without a sign are shifted to the right as 64
half_shifted : (a c : ℕ) → IsKept int.U32 a → c < 32 → binary_of op.Shr int.U64 a c ≡ binary_of op.Shr int.U32 a c
half_shifted a c x l =
    let h = half_below a x in
    let wide_a : IsKept int.U64 a = IsKept-64 int.U64 a refl (omega (arith, h)) in
    let r = a / 2 ^ c in
    let small : r < 2 ^ 32 = let d = div-le_self a (2 ^ c) in omega (arith, d, h) in
    let one : c % 64 ≡ c = omega (arith, l) in
    let two : c % 32 ≡ c = omega (arith, l) in
    let up : kept_of (int_div_euclid (word_of (unsigned 64) a) (pos (2 ^ (c % 64)))) ≡ r =
    sym (unsigned_shift (unsigned 64) a (2 ^ (c % 64)) refl (omega (arith, h))) ∙ ap (λ n. a / 2 ^ n) one in
    let down : kept_of (int_div_euclid (word_of (unsigned 32) a) (pos (2 ^ (c % 32)))) ≡ r =
    sym (unsigned_shift (unsigned 32) a (2 ^ (c % 32)) refl (omega (arith, h))) ∙ ap (λ n. a / 2 ^ n) two in
    shr_is int.U64 a c (omega arith) wide_a (omega (arith, l)) ∙ ap (λ n. wrapped int.U64 (pos n)) up
    ∙ (IsKept-64 int.U64 r refl (omega (arith, small))).kept
    ∙ sym (shr_is int.U32 a c (omega arith) x (omega (arith, l)) ∙ ap (λ n. wrapped int.U32 (pos n)) down ∙
    (half r small).kept)

-- a shift by a count below the kind's width
counted_exact : (o : IntOp) (k : IntKind) (a c : ℕ) → is_shift o ≡ true → IsPromoted k → IsKept k a → c < width_of
    (form_of k)
    → is_exact k o true ≡ true → result_of (shift_op (shift_by k o)) a c ≡ binary_of o k a c
unfolding result_of
counted_exact op.Shl int.I32 a c s p x l e = refl
counted_exact op.Shr int.I32 a c s p x l e = refl
counted_exact op.Shl int.U32 a c s p x l e = cc
counted_exact op.Shr int.U32 a c s p x l e = half_shifted a c x l
counted_exact op.Shl int.I64 a c s p x l e = refl
counted_exact op.Shr int.I64 a c s p x l e = refl
counted_exact op.Shl int.U64 a c s p x l e = long_is op.Shl a c
counted_exact op.Shr int.U64 a c s p x l e = long_is op.Shr a c
counted_exact op.Shl k a c s p x l e = absurd (omega arith)
counted_exact op.Shr k a c s p x l e = absurd (omega arith)
counted_exact o k a c s p x l e = cc

counted_reduced : (o : IntOp) (k : IntKind) (a c : ℕ) → is_shift o ≡ true → IsPromoted k → is_exact k o true ≡ false
    → wrapped k (pos (result_of (shift_op (shift_by k o)) a c)) ≡ binary_of o k a c
counted_reduced op.Shl int.U32 a c s p e = op_is op.Shl int.U32 a c p
counted_reduced op.Shr int.U32 a c s p e = cc
counted_reduced op.Shl int.I32 a c s p e = cc
counted_reduced op.Shl int.I64 a c s p e = cc
counted_reduced op.Shl int.U64 a c s p e = cc
counted_reduced op.Shr int.I32 a c s p e = cc
counted_reduced op.Shr int.I64 a c s p e = cc
counted_reduced op.Shr int.U64 a c s p e = cc
counted_reduced op.Shl k a c s p e = absurd (omega arith)
counted_reduced op.Shr k a c s p e = absurd (omega arith)
counted_reduced o k a c s p e = cc

pub shift_gives : (o : IntOp) (k : IntKind) (a n : ℕ) → is_shift o ≡ true → IsPromoted k → IsKept k a → n < 2 ^ 64
    → Gives k o true (result_of (shift_op (shift_by k o)) a (n % width_of (form_of k))) (binary_of o k a n)
shift_gives o k a n s p x h =
    let c = n % width_of (form_of k) in
    let l : c < width_of (form_of k) = mod-lt n (omega (arith, p)) in
    record {
      below = result_below (shift_op (shift_by k o)) a c;
      exact = λ e. counted_exact o k a c s p x l e ∙ shift_again o k a n s p x h;
      else_reduced = λ e. counted_reduced o k a c s p e ∙ shift_again o k a n s p x h;
    }

-- ---- products with powers of two, at 64 bits

pub times_is : (k : IntKind) (a q : ℕ) → is_wide k ≡ true → IsKept k a → q < 31
    → result_of regs.Sll a q ≡ binary_of op.Mul k a (2 ^ q)
unfolding result_of
times_is k a q w x l =
    let h = IsKept-below k a x in
    let small : 2 ^ q < 2 ^ 64 = pow-lt {j = 64} (omega (arith, l)) in
    let e : q % 64 ≡ q = omega (arith, l) in
    binary_of-Shl int.I64 a q refl h (omega (arith, l)) ∙ ap (λ c. (a * 2 ^ c) % 2 ^ 64) e
    ∙ sym (binary_of-Mul k a (2 ^ q) (wide_64 k w) h small)
  where
    wide_64 : (k : IntKind) → is_wide k ≡ true → width_of (form_of k) ≡ 64
    wide_64 int.I64 e = refl
    wide_64 int.U64 e = refl
    wide_64 int.Bool e = cc
    wide_64 int.I8 e = cc
    wide_64 int.U8 e = cc
    wide_64 int.I16 e = cc
    wide_64 int.U16 e = cc
    wide_64 int.I32 e = cc
    wide_64 int.U32 e = cc

pub product_turns : (k : IntKind) (a b : ℕ) → IsKept k a → IsKept k b → binary_of op.Mul k a b ≡ binary_of op.Mul k b a
product_turns k a b x y =
    let h = IsKept-below k a x in let j = IsKept-below k b y in
    by_words op.Mul k a b x y
    (word_result_of-Mul k a b h j ∙ ap (λ n. n % 2 ^ 64) (mul_comm a b) ∙ sym (word_result_of-Mul k b a j h))

-- ---- reduction

-- 8 bits are cut out by a mask
byte_kept : (v : ℕ) → v % 2 ^ 8 ≡ wrapped int.U8 (pos v)
unfolding wrapped reduced kept_of
byte_kept v = omega arith

pub mask_is : (v : ℕ) → v < 2 ^ 64 → result_of regs.And v 255 ≡ wrapped int.U8 (pos v)
unfolding result_of
mask_is v h =
    let e : bit_and v 255 ≡ v % 2 ^ 8 = and_mask v 8 in
    let small : v % 2 ^ 8 < 2 ^ 64 = omega arith in
    exactly op.And int.I64 v 255 (v % 2 ^ 8) (wide v h) (wide 255 (omega arith)) (word_result_of-And int.I64 v 255 h
    (omega arith) ∙ e)
    (wide (v % 2 ^ 8) small)
    ∙ byte_kept v

pub xor_is : (a b : ℕ) → a < 2 ^ 64 → b < 2 ^ 64 → result_of regs.Xor a b ≡ bit_xor a b
unfolding result_of
xor_is a b h j =
    exactly op.Xor int.I64 a b (bit_xor a b) (wide a h) (wide b j) (word_result_of-Xor int.I64 a b h j) (wide
    (bit_xor a b) (xor_lt 64 a b h j))

pub sum_with_zero : (a : ℕ) → a < 2 ^ 64 → result_of regs.Add a (extended (pos 0)) ≡ a
unfolding result_of
sum_with_zero a h =
    ap (binary_of op.Add int.I64 a) (small_extended 0 (omega arith)) ∙ binary_of-Add int.I64 a 0 refl h (omega arith)
    ∙ omega arith
