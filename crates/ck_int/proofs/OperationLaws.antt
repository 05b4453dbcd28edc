-- Laws of the operations and the comparisons, for the crates above.
use Rattle.std.proofs.Common.{◌≡◌, ℕ, ◌+◌, ◌-◌, ◌*◌, ◌%◌, ◌^◌, ◌<◌, ◌≤◌, ℤ, pos, negsuc, ◌+ℤ◌, ◌-ℤ◌, ◌*ℤ◌, neg_ℤ, arith}
use Rattle.std.proofs.Common.{sym, ap, ◌∙◌, refl, lit<, lit≤, Bool, true, false, not, max}
use Rattle.std.proofs.Math.Nat.{mod-eq_of_lt, lt_trans}
use Rattle.std.proofs.lemmas.Bool.Decides.{Decides-int_eq, nat_tests}
use Rattle.std.specs.Ordering.{int_eq}
use Rattle.std.proofs.lemmas.Int.{int_wrap-add_left, int_wrap-add_right, int_wrap-sub_right, int_wrap-mul_left}
use Rattle.std.proofs.lemmas.Int.{int_wrap-mul_right}
use Rattle.std.proofs.lemmas.Nat.{and_mod, or_mod, xor_mod, pow_pos}
use Rattle.std.specs.Int.{Width, w8, w16, w32, w64, cast_signed, int_wrap}
use mir.Val.{bits}
use Rattle.std.specs.Prelude.{bit_and, bit_or, bit_xor, ◌==◌, Decides, ◌<ℤ◌, if◌then◌else◌, T}
use Rattle.std.specs.Bool.{passes}
use Rattle.ck_int.specs.declared.kinds.IntKind.{IntKind}
use Rattle.ck_int.specs.declared.kinds.IntKind.TheVariants as kind
use Rattle.ck_int.specs.declared.kinds.IntOp.{IntOp}
use Rattle.ck_int.specs.declared.kinds.IntOp.TheVariants.{Add, Sub, Mul, Div, Rem, And, Or, Xor, Shl, Shr}
use Rattle.ck_int.specs.declared.kinds.CmpOp.{CmpOp}
use Rattle.ck_int.specs.declared.kinds.CmpOp.TheVariants.{Lt, Le, Gt, Ge, Eq, Ne}
use Rattle.ck_int.specs.Arithmetic.{result_of, promoted_width_of, binary_of, comparison_of, compare_of}
use Rattle.ck_int.specs.Kinds.{Form, truth, unsigned, signed, form_of, width_of, modulo, twos_complement, truth_of}
use Rattle.ck_int.specs.Kinds.{IsKept, reduced, kept_of, wrapped, value_of, converted}
use Rattle.ck_int.specs.Words.{word_of, word_result_of}
use Rattle.ck_int.proofs.Forms.{truth_of-below, converted_to-same}
use Rattle.ck_int.proofs.Laws.{modulo-reduced, value_of-wrapped, reduced-narrower, kept_of-below, IsKept-below}
use Rattle.ck_int.proofs.Modulo.{modulo-below, modulo-low, int_wrap-modulo, modulo-from_int_wrap}
use Rattle.ck_int.proofs.WordLaws.{binary_of-word, value_of-word, word_result_of-Add, word_result_of-Sub}
use Rattle.ck_int.proofs.WordLaws.{word_result_of-Mul, word_result_of-And, word_result_of-Or, word_result_of-Xor}
use Rattle.ck_int.proofs.WordLaws.{word_result_of-Shl, not-int_lt, kept_of-pos, compare_of-Eq}

-- ---- sums, differences, products, bits and left shifts: the low bits of the operands are enough

-- x and y have the same low w bits
SameBits : ℕ → ℤ → ℤ → Type 0
SameBits w x y = modulo x (2 ^ w) ≡ modulo y (2 ^ w)

SameBits-from_int_wrap : (w : Width) (x y : ℤ) → int_wrap w x ≡ int_wrap w y → SameBits (bits w) x y
unfolding SameBits
SameBits-from_int_wrap w x y e =
    modulo-from_int_wrap w x (modulo y (2 ^ bits w)) (modulo-below y (2 ^ bits w) (pow_pos (bits w)))
    (sym (int_wrap-modulo w y) ∙ sym e)

int_wrap-SameBits : (w : Width) (x y : ℤ) → SameBits (bits w) x y → int_wrap w x ≡ int_wrap w y
unfolding SameBits
int_wrap-SameBits w x y e = int_wrap-modulo w x ∙ ap (cast_signed w) e ∙ sym (int_wrap-modulo w y)

-- an operation that may wrap its operands keeps what bits they have in common
module _ (w : Width) (op : ℤ → ℤ → ℤ)
    (left : (x y : ℤ) → int_wrap w (op (int_wrap w x) y) ≡ int_wrap w (op x y))
    (right : (x y : ℤ) → int_wrap w (op x (int_wrap w y)) ≡ int_wrap w (op x y)) where
  both : (x y : ℤ) → int_wrap w (op (int_wrap w x) (int_wrap w y)) ≡ int_wrap w (op x y)
  both x y = right (int_wrap w x) y ∙ left x y

  SameBits-op : (x x' y y' : ℤ) → SameBits (bits w) x x' → SameBits (bits w) y y' →
      SameBits (bits w) (op x y) (op x' y')
  SameBits-op x x' y y' e f =
      SameBits-from_int_wrap w (op x y) (op x' y')
      (sym (both x y) ∙ (λ i. int_wrap w (op (int_wrap-SameBits w x x' e i) (int_wrap-SameBits w y y' f i)))
      ∙ both x' y')

SameBits-add : (w : Width) (x x' y y' : ℤ) → SameBits (bits w) x x' → SameBits (bits w) y y' →
    SameBits (bits w) (x +ℤ y) (x' +ℤ y')
SameBits-add w = SameBits-op w (λ x y. x +ℤ y) (int_wrap-add_left w) (int_wrap-add_right w)

SameBits-sub : (w : Width) (x x' y y' : ℤ) → SameBits (bits w) x x' → SameBits (bits w) y y' →
    SameBits (bits w) (x -ℤ y) (x' -ℤ y')
SameBits-sub w = SameBits-op w (λ x y. x -ℤ y) (λ x y. int_wrap-add_left w x (neg_ℤ y)) (int_wrap-sub_right w)

SameBits-mul : (w : Width) (x x' y y' : ℤ) → SameBits (bits w) x x' → SameBits (bits w) y y' →
    SameBits (bits w) (x *ℤ y) (x' *ℤ y')
SameBits-mul w = SameBits-op w (λ x y. x *ℤ y) (int_wrap-mul_left w) (int_wrap-mul_right w)

-- the low bits of the 64 bits
kept_of-low : (w : ℕ) (x : ℤ) → w ≤ 64 → kept_of x % 2 ^ w ≡ modulo x (2 ^ w)
unfolding kept_of
kept_of-low w x h = modulo-low x w 64 h

-- a bitwise operation whose low bits are those of its operands' low bits
SameBits-bitwise : (op : ℕ → ℕ → ℕ) → ((a b k : ℕ) → op a b % 2 ^ k ≡ op (a % 2 ^ k) (b % 2 ^ k))
    → (w : ℕ) → w ≤ 64 → (x x' y y' : ℤ) → SameBits w x x' → SameBits w y y' →
    SameBits w (pos (op (kept_of x) (kept_of y))) (pos (op (kept_of x') (kept_of y')))
unfolding SameBits
SameBits-bitwise op low w h x x' y y' e f =
    let bits_of : (u v : ℤ) → op (kept_of u) (kept_of v) % 2 ^ w ≡ op (modulo u (2 ^ w)) (modulo v (2 ^ w)) =
    λ u v. low (kept_of u) (kept_of v) w ∙ (λ i. op (kept_of-low w u h i) (kept_of-low w v h i)) in
    bits_of x y ∙ (λ i. op (e i) (f i)) ∙ sym (bits_of x' y')

SameBits-pos : (w m n : ℕ) → m ≡ n → SameBits w (pos m) (pos n)
unfolding SameBits
SameBits-pos w m n e = ap (λ l. l % 2 ^ w) e

-- fewer bits
SameBits-fewer : (v w : ℕ) (x y : ℤ) → v ≤ w → SameBits w x y → SameBits v x y
unfolding SameBits
SameBits-fewer v w x y h e =
    sym (modulo-low x v w h) ∙ ap (λ n. modulo (pos n) (2 ^ v)) e ∙ modulo-low y v w h

-- the operations whose low bits are decided by those of their operands
abbrev pub IsModular : IntOp → Type 0
IsModular Div = ⊥
IsModular Rem = ⊥
IsModular Shr = ⊥
IsModular op = Unit {0}

-- the operation at a width of a kind, with a count that has the kind's bits
module _ (w : Width) (count : ℕ) (few : count ≤ bits w) (whole : bits w ≤ 64) where
  SameBits-result_of : (op : IntOp) → IsModular op → (x x' y y' : ℤ) → SameBits (bits w) x x' → SameBits (bits w) y y'
      → SameBits (bits w) (result_of op (2 ^ count) x y) (result_of op (2 ^ count) x' y')
  unfolding SameBits
  SameBits-result_of Add m x x' y y' e f = SameBits-add w x x' y y' e f
  SameBits-result_of Sub m x x' y y' e f = SameBits-sub w x x' y y' e f
  SameBits-result_of Mul m x x' y y' e f = SameBits-mul w x x' y y' e f
  SameBits-result_of And m x x' y y' e f = SameBits-bitwise bit_and and_mod (bits w) whole x x' y y' e f
  SameBits-result_of Or m x x' y y' e f = SameBits-bitwise bit_or or_mod (bits w) whole x x' y y' e f
  SameBits-result_of Xor m x x' y y' e f = SameBits-bitwise bit_xor xor_mod (bits w) whole x x' y y' e f
  SameBits-result_of Shl m x x' y y' e f =
      SameBits-mul w x x' (pos (2 ^ modulo y (2 ^ count))) (pos (2 ^ modulo y' (2 ^ count))) e
      (SameBits-pos (bits w) _ _ (ap (λ n. 2 ^ n) (SameBits-fewer count (bits w) y y' few f)))
  SameBits-result_of op m x x' y y' e f = absurd m

SameBits-at : (op : IntOp) (k : IntKind) → IsModular op → 1 < width_of (form_of k) → (x x' y y' : ℤ)
    → SameBits (width_of (form_of k)) x x' → SameBits (width_of (form_of k)) y y'
    → SameBits (width_of (form_of k)) (result_of op (promoted_width_of k) x y)
    (result_of op (promoted_width_of k) x' y')
SameBits-at op kind.Bool m h = absurd (omega arith)
SameBits-at op kind.I8 m h = SameBits-result_of w8 5 (lit≤ tt) (lit≤ tt) op m
SameBits-at op kind.U8 m h = SameBits-result_of w8 5 (lit≤ tt) (lit≤ tt) op m
SameBits-at op kind.I16 m h = SameBits-result_of w16 5 (lit≤ tt) (lit≤ tt) op m
SameBits-at op kind.U16 m h = SameBits-result_of w16 5 (lit≤ tt) (lit≤ tt) op m
SameBits-at op kind.I32 m h = SameBits-result_of w32 5 (lit≤ tt) (lit≤ tt) op m
SameBits-at op kind.U32 m h = SameBits-result_of w32 5 (lit≤ tt) (lit≤ tt) op m
SameBits-at op kind.I64 m h = SameBits-result_of w64 6 (lit≤ tt) (lit≤ tt) op m
SameBits-at op kind.U64 m h = SameBits-result_of w64 6 (lit≤ tt) (lit≤ tt) op m

SameBits-value_of : (k : IntKind) (a : ℕ) → 1 < width_of (form_of k) →
    SameBits (width_of (form_of k)) (value_of k a) (pos a)
unfolding SameBits value_of
SameBits-value_of k a h = modulo-reduced k (pos a) h

wrapped-SameBits : (k : IntKind) (x y : ℤ) → 1 < width_of (form_of k) → SameBits (width_of (form_of k)) x y →
    wrapped k x ≡ wrapped k y
unfolding SameBits wrapped reduced
wrapped-SameBits k x y h e = ap kept_of (converted_to-same (form_of k) x y h e)

-- the operands need not be kept: their low bits are enough
pub binary_of-modular : (op : IntOp) (k : IntKind) (a b : ℕ) → IsModular op → 1 < width_of (form_of k)
    → binary_of op k a b ≡ wrapped k (result_of op (promoted_width_of k) (pos a) (pos b))
unfolding binary_of
binary_of-modular op k a b m h =
    wrapped-SameBits k _ _ h
    (SameBits-at op k m h (value_of k a) (pos a) (value_of k b) (pos b) (SameBits-value_of k a h)
    (SameBits-value_of k b h))

-- An operation at one kind, converted to a kind that is no wider, is the operation there. The last premise is `refl` at
-- two kinds that are known, for a left shift at kinds whose promoted widths are equal
pub binary_of-narrower : (op : IntOp) (j k : IntKind) (a b : ℕ) → IsModular op → 1 < width_of (form_of k) →
    width_of (form_of k) ≤ width_of (form_of j)
    → result_of op (promoted_width_of j) (pos a) (pos b) ≡ result_of op (promoted_width_of k) (pos a) (pos b)
    → converted j k (binary_of op j a b) ≡ binary_of op k a b
unfolding converted wrapped
binary_of-narrower op j k a b m h le e =
    ap (λ v. wrapped k (value_of j v)) (binary_of-modular op j a b m (omega arith))
    ∙ ap (wrapped k) (value_of-wrapped j _)
    ∙ ap kept_of (reduced-narrower j k _ h le)
    ∙ ap (wrapped k) e ∙ sym (binary_of-modular op k a b m h)

-- ---- the kinds of 64 bits

pub wrapped-64 : (k : IntKind) (z : ℤ) → width_of (form_of k) ≡ 64 → wrapped k z ≡ kept_of z
unfolding wrapped kept_of
wrapped-64 k z h = rw h at (modulo-reduced k z (omega arith))

pub IsKept-64 : (k : IntKind) (v : ℕ) → width_of (form_of k) ≡ 64 → v < 2 ^ 64 → IsKept k v
IsKept-64 k v h below = record { kept = wrapped-64 k (pos v) h ∙ kept_of-pos v below }

word_result_of-below : (op : IntOp) (k : IntKind) (a b : ℕ) → word_result_of op k a b < 2 ^ 64
unfolding word_result_of
word_result_of-below op k a b = kept_of-below _

-- Below, k is one of the two kinds of 64 bits, and so each number below 2 ^ 64 is kept
module _ (k : IntKind) (a b : ℕ) (h : width_of (form_of k) ≡ 64) (p : a < 2 ^ 64) (q : b < 2 ^ 64) where
  on_words : (op : IntOp) → binary_of op k a b ≡ word_result_of op k a b
  on_words op =
      binary_of-word op k a b
      ∙ (λ i. wrapped k (pos (word_result_of op k ((IsKept-64 k a h p).kept i) ((IsKept-64 k b h q).kept i))))
      ∙ wrapped-64 k _ h ∙ kept_of-pos _ (word_result_of-below op k a b)

  pub binary_of-Add : binary_of Add k a b ≡ (a + b) % 2 ^ 64
  binary_of-Add = on_words Add ∙ word_result_of-Add k a b p q

  pub binary_of-Sub : binary_of Sub k a b ≡ (a + (2 ^ 64 - b)) % 2 ^ 64
  binary_of-Sub = on_words Sub ∙ word_result_of-Sub k a b p q

  pub binary_of-Mul : binary_of Mul k a b ≡ (a * b) % 2 ^ 64
  binary_of-Mul = on_words Mul ∙ word_result_of-Mul k a b p q

  pub binary_of-And : binary_of And k a b ≡ bit_and a b
  binary_of-And = on_words And ∙ word_result_of-And k a b p q

  pub binary_of-Or : binary_of Or k a b ≡ bit_or a b
  binary_of-Or = on_words Or ∙ word_result_of-Or k a b p q

  pub binary_of-Xor : binary_of Xor k a b ≡ bit_xor a b
  binary_of-Xor = on_words Xor ∙ word_result_of-Xor k a b p q

  pub binary_of-Shl : binary_of Shl k a b ≡ (a * 2 ^ (b % 64)) % 2 ^ 64
  binary_of-Shl =
      on_words Shl ∙ word_result_of-Shl k a b p q
      ∙ ap (λ w. (a * 2 ^ (b % max 32 w)) % 2 ^ 64) h

-- ---- kept operands

-- the kind of 64 bits with the form's sign
abbrev pub word_kind : Form → IntKind
word_kind truth = kind.U64
word_kind (unsigned w) = kind.U64
word_kind (signed w) = kind.I64

value_of-word_kind : (f : Form) (a : ℕ) → a < 2 ^ 64 → value_of (word_kind f) a ≡ word_of f a
unfolding value_of reduced
value_of-word_kind truth a h = ap pos (mod-eq_of_lt h)
value_of-word_kind (unsigned w) a h = ap pos (mod-eq_of_lt h)
value_of-word_kind (signed w) a h = ap (twos_complement 64) (mod-eq_of_lt h)

-- a kept number is the same number at 64 bits
pub value_of-kept : (k : IntKind) (a : ℕ) → IsKept k a → value_of (word_kind (form_of k)) a ≡ value_of k a
value_of-kept k a h =
    value_of-word_kind (form_of k) a (IsKept-below k a h) ∙ ap (word_of (form_of k)) (sym h.kept)
    ∙ sym (value_of-word k a)

-- kept numbers are compared at 64 bits
pub compare_of-kept : (op : CmpOp) (k : IntKind) (a b : ℕ) → IsKept k a → IsKept k b →
    compare_of op (word_kind (form_of k)) a b ≡ compare_of op k a b
unfolding compare_of
compare_of-kept op k a b h j = λ i. comparison_of op (value_of-kept k a h i) (value_of-kept k b j i)

-- two kept numbers are equal where their bits are
pub compare_of-Eq_kept : (k : IntKind) (a b : ℕ) → IsKept k a → IsKept k b → compare_of Eq k a b ≡ (a == b)
compare_of-Eq_kept k a b h j = compare_of-Eq k a b ∙ (λ i. h.kept i == j.kept i)

-- ---- comparisons

true_from_T : (b : Bool) → T b → b ≡ true
true_from_T true h = refl
true_from_T false h = absurd h

pub compare_of-decides_Lt : (k : IntKind) (a b : ℕ) → Decides (compare_of Lt k a b) (value_of k a <ℤ value_of k b)
unfolding compare_of
compare_of-decides_Lt k a b = (λ e. record { lt = passes _ e }, λ h. true_from_T _ h.lt)

pub compare_of-decides_Eq : (k : IntKind) (a b : ℕ) → Decides (compare_of Eq k a b) (value_of k a ≡ value_of k b)
unfolding compare_of
compare_of-decides_Eq k a b = Decides-int_eq (value_of k a) (value_of k b)

-- each comparison by `Lt` or `Eq`
pub compare_of-Gt : (k : IntKind) (a b : ℕ) → compare_of Gt k a b ≡ compare_of Lt k b a
unfolding compare_of
compare_of-Gt k a b = refl

pub compare_of-Ge : (k : IntKind) (a b : ℕ) → compare_of Ge k a b ≡ not (compare_of Lt k a b)
unfolding compare_of
compare_of-Ge k a b = sym (not-int_lt (value_of k a) (value_of k b))

pub compare_of-Le : (k : IntKind) (a b : ℕ) → compare_of Le k a b ≡ not (compare_of Lt k b a)
unfolding compare_of
compare_of-Le k a b = sym (not-int_lt (value_of k b) (value_of k a))

pub compare_of-Ne : (k : IntKind) (a b : ℕ) → compare_of Ne k a b ≡ not (compare_of Eq k a b)
unfolding compare_of
compare_of-Ne k a b = refl

-- ---- a truth value

value_of-zero : (k : IntKind) → value_of k 0 ≡ pos 0
unfolding value_of reduced
value_of-zero kind.Bool = refl
value_of-zero k = refl

truth_of-int_eq : (z : ℤ) → truth_of z ≡ (if int_eq z (pos 0) then 0 else 1)
truth_of-int_eq (pos n) = grind (arith, nat_tests)
truth_of-int_eq (negsuc n) = refl

-- a number is converted to `_Bool` as it is compared with 0
pub converted-Bool : (k : IntKind) (v : ℕ) → converted k kind.Bool v ≡ (if compare_of Eq k v 0 then 0 else 1)
unfolding converted wrapped reduced compare_of
converted-Bool k v =
    kept_of-pos (truth_of (value_of k v)) (lt_trans (truth_of-below (value_of k v)) (lit< tt))
    ∙ truth_of-int_eq (value_of k v)
    ∙ ap (λ z. if int_eq (value_of k v) z then 0 else 1) (sym (value_of-zero k))
