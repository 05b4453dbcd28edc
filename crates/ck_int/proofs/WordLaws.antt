-- The operations on 64 bits give the 64 bits of the operations on whole numbers.
use Rattle.std.proofs.Common.{◌≡◌, ◌≢◌, ℕ, zero, suc, ◌+◌, ◌-◌, ◌*◌, ◌/◌, ◌%◌, ◌^◌, ◌<◌, ◌≤◌, ℤ, pos, negsuc, ◌+ℤ◌}
use Rattle.std.proofs.Common.{◌-ℤ◌, ◌*ℤ◌, neg_ℤ, arith, sym, ap, ◌∙◌, refl, lit<, true, false, not, ⊎_elim, suc-le-suc}
use Rattle.std.proofs.Common.{lit≤}
use Rattle.std.proofs.Math.Nat.{mod-eq_of_lt, mod-lt, div-le_self, mod-le, le_trans, lt_of_le_of_lt}
use Rattle.std.proofs.lemmas.Bool.{eqb-true, eq-eqb, ne_eqb, cond-false, cases_eq, false≢true}
use Rattle.std.proofs.lemmas.Bool.Decides.{same_from_decides, Decides-int_eq, nat_tests}
use Rattle.std.proofs.lemmas.Int.{of_z-to_z, int_wrap-add_left, int_wrap-add_right, int_wrap-sub_right}
use Rattle.std.proofs.lemmas.Int.{int_wrap-mul_left, int_wrap-mul_right, wrapping_add-bits, wrapping_sub-bits}
use Rattle.std.proofs.lemmas.Int.{wrapping_mul-bits}
use Rattle.std.specs.Int.{cast_signed, cast_unsigned, w64, int_wrap, int_wrapping_div, int_div_euclid}
use Rattle.std.specs.Int.Signed.{shr_z}
use Rattle.std.specs.Ordering.{int_eq}
use Rattle.std.specs.Prelude.{unsigned_abs, int_div, int_rem, int_lt, int_le, ◌==◌, bit_and, bit_or, bit_xor}
use Rattle.ck_int.specs.declared.kinds.IntKind.{IntKind}
use Rattle.ck_int.specs.declared.kinds.IntKind.TheVariants as kind
use Rattle.ck_int.specs.Kinds.{Form, truth, unsigned, signed, is_signed, form_of, modulo, truth_of, kept_of, wrapped}
use Rattle.ck_int.specs.Kinds.{reduced, value_of}
use Rattle.ck_int.specs.declared.kinds.IntOp.{IntOp}
use Rattle.ck_int.specs.declared.kinds.IntOp.TheVariants.{Add, Sub, Mul, Div, Rem, And, Or, Xor, Shl, Shr}
use Rattle.ck_int.specs.declared.kinds.CmpOp.{CmpOp}
use Rattle.ck_int.specs.declared.kinds.CmpOp.TheVariants.{Lt, Le, Gt, Ge, Eq, Ne}
use Rattle.ck_int.specs.Words.{word_of, word_result_of}
use Rattle.std.proofs.lemmas.Nat.{and_le_l, or_lt, xor_lt, mul-mod_second}
use Rattle.ck_int.specs.Arithmetic.{quotient, remainder, result_of, promoted_width_of, binary_of, comparison_of}
use Rattle.ck_int.specs.Arithmetic.{compare_of}
use Rattle.ck_int.proofs.Modulo.{modulo-below, modulo-low, int_wrap-modulo, modulo-from_int_wrap}
use Rattle.ck_int.proofs.Forms.{truth_of-below, modulo-twos_complement, word_of-kept, form_of-IsForm}
use Rattle.ck_int.proofs.Laws.{wrapped-kept_of, kept_of-below, wrapped-below}

-- ---- the 64 bits of a sum, a difference and a product

bits_below : (z : ℤ) → modulo z (2 ^ 64) < 2 ^ 64
bits_below z = modulo-below z (2 ^ 64) (lit< tt)

pub kept_of-add : (x y : ℤ) → kept_of (x +ℤ y) ≡ (kept_of x + kept_of y) % 2 ^ 64
unfolding kept_of
kept_of-add x y =
    modulo-from_int_wrap w64 (x +ℤ y) _ (mod-lt _ (lit< tt))
    (wrapping_add-bits w64 (modulo x (2 ^ 64)) (modulo y (2 ^ 64)) (bits_below x) (bits_below y)
    ∙ (λ i. int_wrap w64 (sym (int_wrap-modulo w64 x) i +ℤ sym (int_wrap-modulo w64 y) i))
    ∙ int_wrap-add_right w64 (int_wrap w64 x) y ∙ int_wrap-add_left w64 x y)

pub kept_of-sub : (x y : ℤ) → kept_of (x -ℤ y) ≡ (kept_of x + (2 ^ 64 - kept_of y)) % 2 ^ 64
unfolding kept_of
kept_of-sub x y =
    modulo-from_int_wrap w64 (x -ℤ y) _ (mod-lt _ (lit< tt))
    (wrapping_sub-bits w64 (modulo x (2 ^ 64)) (modulo y (2 ^ 64)) (bits_below x) (bits_below y)
    ∙ (λ i. int_wrap w64 (sym (int_wrap-modulo w64 x) i -ℤ sym (int_wrap-modulo w64 y) i))
    ∙ int_wrap-sub_right w64 (int_wrap w64 x) y ∙ int_wrap-add_left w64 x (neg_ℤ y))

pub kept_of-mul : (x y : ℤ) → kept_of (x *ℤ y) ≡ (kept_of x * kept_of y) % 2 ^ 64
unfolding kept_of
kept_of-mul x y =
    modulo-from_int_wrap w64 (x *ℤ y) _ (mod-lt _ (lit< tt))
    (wrapping_mul-bits w64 (modulo x (2 ^ 64)) (modulo y (2 ^ 64)) (bits_below x) (bits_below y)
    ∙ (λ i. int_wrap w64 (sym (int_wrap-modulo w64 x) i *ℤ sym (int_wrap-modulo w64 y) i))
    ∙ int_wrap-mul_right w64 (int_wrap w64 x) y ∙ int_wrap-mul_left w64 x y)

pub kept_of-pos : (n : ℕ) → n < 2 ^ 64 → kept_of (pos n) ≡ n
unfolding kept_of
kept_of-pos n h = mod-eq_of_lt h

kept_of-mul_pos : (a n : ℕ) → (a * kept_of (pos n)) % 2 ^ 64 ≡ (a * n) % 2 ^ 64
unfolding kept_of
kept_of-mul_pos a n = mul-mod_second a n (2 ^ 64)

-- ---- words

pub kept_of-word_of : (f : Form) (a : ℕ) → a < 2 ^ 64 → kept_of (word_of f a) ≡ a
unfolding kept_of
kept_of-word_of truth a h = mod-eq_of_lt h
kept_of-word_of (unsigned w) a h = mod-eq_of_lt h
kept_of-word_of (signed w) a h = modulo-twos_complement 64 a h

pub word_of-signed : (f : Form) (a : ℕ) → is_signed f ≡ true → a < 2 ^ 64 → word_of f a ≡ cast_signed w64 a
word_of-signed truth a s h = absurd (false≢true s)
word_of-signed (unsigned w) a s h = absurd (false≢true s)
word_of-signed (signed w) a s h = grind (arith, nat_tests)

pub word_of-unsigned : (f : Form) (a : ℕ) → is_signed f ≡ false → word_of f a ≡ pos a
word_of-unsigned truth a s = refl
word_of-unsigned (unsigned w) a s = refl
word_of-unsigned (signed w) a s = absurd (false≢true (sym s))

pub word_of-zero : (f : Form) → word_of f 0 ≡ pos 0
word_of-zero truth = refl
word_of-zero (unsigned w) = refl
word_of-zero (signed w) = refl

-- two words are equal where their bits are
pub int_eq-word_of : (f : Form) (a b : ℕ) → a < 2 ^ 64 → b < 2 ^ 64 → int_eq (word_of f a) (word_of f b) ≡ (a == b)
int_eq-word_of f a b h k =
    same_from_decides _ _ (Decides-int_eq (word_of f a) (word_of f b)) (
      λ e. ap (word_of f) (eqb-true a b e),
      λ e. eq-eqb a b (sym (kept_of-word_of f a h) ∙ ap kept_of e ∙ kept_of-word_of f b k),
    )

pub int_eq-zero : (f : Form) (b : ℕ) → b < 2 ^ 64 → int_eq (word_of f b) (pos 0) ≡ (b == 0)
int_eq-zero f b h = ap (int_eq (word_of f b)) (sym (word_of-zero f)) ∙ int_eq-word_of f b 0 h (lit< tt)

pub not-int_lt : (x y : ℤ) → not (int_lt x y) ≡ int_le y x
not-int_lt (pos a) (pos b) = grind (arith, nat_tests)
not-int_lt (pos a) (negsuc b) = refl
not-int_lt (negsuc a) (pos b) = refl
not-int_lt (negsuc a) (negsuc b) = grind (arith, nat_tests)

-- ---- to reduce a word

truth_of-nonzero : (z : ℤ) → (z ≡ pos 0 → ⊥) → truth_of z ≡ 1
truth_of-nonzero (pos n) h = cond-false _ _ _ (ne_eqb n 0 (λ e. h (ap pos e)))
truth_of-nonzero (negsuc n) h = refl

truth_of-word_of : (f : Form) (a : ℕ) → a < 2 ^ 64 → truth_of (word_of f a) ≡ truth_of (pos a)
truth_of-word_of f a h =
    ⊎_elim
    (λ e. rw e (ap truth_of (word_of-zero f)))
    (λ ne. truth_of-nonzero (word_of f a) (λ e.
    ne (sym (kept_of-word_of f a h) ∙ ap kept_of (e ∙ sym (word_of-zero f)) ∙ kept_of-word_of f 0 (lit< tt)))
    ∙ sym (cond-false _ _ _ (ne_eqb a 0 ne)))
    (cases_eq a 0)

-- 64 bits are reduced to one number, read with the sign bit or without
pub wrapped-word_of : (f : Form) (k : IntKind) (a : ℕ) → a < 2 ^ 64 → wrapped k (word_of f a) ≡ wrapped k (pos a)
unfolding wrapped reduced
wrapped-word_of f kind.Bool a h = ap (λ (n : ℕ). kept_of (pos n)) (truth_of-word_of f a h)
wrapped-word_of f k a h =
    sym (wrapped-kept_of k (word_of f a) (lit< tt)) ∙ ap (λ n. wrapped k (pos n)) (kept_of-word_of f a h)

-- the number that 64 bits stand for at a kind, by the bits that the code reduces them to
pub value_of-word : (k : IntKind) (a : ℕ) → value_of k a ≡ word_of (form_of k) (wrapped k (pos a))
unfolding value_of wrapped reduced kept_of
value_of-word k a = sym (word_of-kept (form_of k) (pos a) (form_of-IsForm k))

-- ---- quotients

unsigned_abs-neg : (n : ℕ) → unsigned_abs (neg_ℤ (pos n)) ≡ n
unsigned_abs-neg zero = refl
unsigned_abs-neg (suc n) = refl

unsigned_abs-int_div : (x y : ℤ) → unsigned_abs (int_div x y) ≤ unsigned_abs x
unsigned_abs-int_div (pos a) (pos b) = div-le_self a b
unsigned_abs-int_div (pos a) (negsuc b) = rw (unsigned_abs-neg (a / suc b)) (div-le_self a (suc b))
unsigned_abs-int_div (negsuc a) (pos b) = rw (unsigned_abs-neg (suc a / b)) (div-le_self (suc a) b)
unsigned_abs-int_div (negsuc a) (negsuc b) = div-le_self (suc a) (suc b)

unsigned_abs-int_rem : (x y : ℤ) → unsigned_abs (int_rem x y) ≤ unsigned_abs x
unsigned_abs-int_rem (pos a) y = mod-le a (unsigned_abs y)
unsigned_abs-int_rem (negsuc a) y = rw (unsigned_abs-neg (suc a % unsigned_abs y)) (mod-le (suc a) (unsigned_abs y))

unsigned_abs-cast_signed : (a : ℕ) → a < 2 ^ 64 → unsigned_abs (cast_signed w64 a) ≤ 2 ^ 63
unsigned_abs-cast_signed a h = grind (arith, nat_tests)

-- a number of at most 63 bits and a sign, as std casts it to 64 bits
kept_of-cast : (z : ℤ) → unsigned_abs z ≤ 2 ^ 63 → cast_unsigned w64 (cast_signed w64 (cast_unsigned w64 z)) ≡ kept_of z
unfolding kept_of
kept_of-cast (pos n) h = of_z-to_z w64 n (omega arith) ∙ sym (mod-eq_of_lt {n = n} {m = 2 ^ 64} (omega arith))
kept_of-cast (negsuc n) h =
    of_z-to_z w64 (2 ^ 64 - suc n) (omega arith) ∙ omega arith

-- the operand that a signed operation of std is given
pub signed_operand : (f : Form) (a : ℕ) (x : ℤ) → is_signed f ≡ true → a < 2 ^ 64 → x ≡ cast_signed w64 a →
    cast_signed w64 (cast_unsigned w64 x) ≡ word_of f a
signed_operand f a x s h e =
    ap (λ z. cast_signed w64 (cast_unsigned w64 z)) e ∙ ap (cast_signed w64) (of_z-to_z w64 a h)
    ∙ sym (word_of-signed f a s h)

unsigned_abs-word_of : (f : Form) (a : ℕ) → is_signed f ≡ true → a < 2 ^ 64 → unsigned_abs (word_of f a) ≤ 2 ^ 63
unsigned_abs-word_of f a s h = rw (word_of-signed f a s h) (unsigned_abs-cast_signed a h)

pub quotient-zero : (f : Form) (x : ℤ) (b : ℕ) → b ≡ 0 → quotient x (word_of f b) ≡ negsuc 0
quotient-zero f x b e = rw (e, word_of-zero f) refl

pub remainder-zero : (f : Form) (x : ℤ) (b : ℕ) → b ≡ 0 → remainder x (word_of f b) ≡ x
remainder-zero f x b e = rw (e, word_of-zero f) refl

pub quotient-nonzero : (f : Form) (x : ℤ) (b : ℕ) → b < 2 ^ 64 → b ≢ 0 →
    quotient x (word_of f b) ≡ int_div x (word_of f b)
quotient-nonzero f x b h ne = cond-false _ _ _ (int_eq-zero f b h ∙ ne_eqb b 0 ne)

pub remainder-nonzero : (f : Form) (x : ℤ) (b : ℕ) → b < 2 ^ 64 → b ≢ 0 →
    remainder x (word_of f b) ≡ int_rem x (word_of f b)
remainder-nonzero f x b h ne = cond-false _ _ _ (int_eq-zero f b h ∙ ne_eqb b 0 ne)

-- what std's `wrapping_div`, `wrapping_rem` and `>>` give, cast to 64 bits
pub signed_quotient : (f : Form) (a b : ℕ) → is_signed f ≡ true → a < 2 ^ 64 → b < 2 ^ 64 → b ≢ 0
    → cast_unsigned w64 (cast_signed w64 (cast_unsigned w64 (int_wrapping_div w64 (word_of f a) (word_of f b))))
    ≡ kept_of (quotient (word_of f a) (word_of f b))
signed_quotient f a b s h k ne =
    let q : ℤ = int_div (word_of f a) (word_of f b) in
    let small : unsigned_abs q ≤ 2 ^ 63 =
    le_trans (unsigned_abs-int_div (word_of f a) (word_of f b)) (unsigned_abs-word_of f a s h) in
    ap (λ n. cast_unsigned w64 (cast_signed w64 n)) (kept_of-cast q small)
    ∙ of_z-to_z w64 (kept_of q) (kept_of-below q)
    ∙ ap kept_of (sym (quotient-nonzero f (word_of f a) b k ne))

pub signed_remainder : (f : Form) (a b : ℕ) → is_signed f ≡ true → a < 2 ^ 64 → b < 2 ^ 64 → b ≢ 0
    → cast_unsigned w64 (cast_signed w64 (cast_unsigned w64 (int_rem (word_of f a) (word_of f b))))
    ≡ kept_of (remainder (word_of f a) (word_of f b))
signed_remainder f a b s h k ne =
    kept_of-cast (int_rem (word_of f a) (word_of f b))
    (le_trans (unsigned_abs-int_rem (word_of f a) (word_of f b)) (unsigned_abs-word_of f a s h))
    ∙ ap kept_of (sym (remainder-nonzero f (word_of f a) b k ne))

pub unsigned_quotient : (f : Form) (a b : ℕ) → is_signed f ≡ false → a < 2 ^ 64 → b < 2 ^ 64 → b ≢ 0 →
    a / b ≡ kept_of (quotient (word_of f a) (word_of f b))
unfolding kept_of
unsigned_quotient f a b s h k ne =
    sym (ap kept_of (quotient-nonzero f (word_of f a) b k ne
    ∙ (λ i. int_div (word_of-unsigned f a s i) (word_of-unsigned f b s i)))
    ∙ mod-eq_of_lt (lt_of_le_of_lt (div-le_self a b) h))

pub unsigned_remainder : (f : Form) (a b : ℕ) → is_signed f ≡ false → a < 2 ^ 64 → b < 2 ^ 64 → b ≢ 0 →
    a % b ≡ kept_of (remainder (word_of f a) (word_of f b))
unfolding kept_of
unsigned_remainder f a b s h k ne =
    sym (ap kept_of (remainder-nonzero f (word_of f a) b k ne
    ∙ (λ i. int_rem (word_of-unsigned f a s i) (word_of-unsigned f b s i)))
    ∙ mod-eq_of_lt (lt_of_le_of_lt (mod-le a b) h))

-- ---- shifts

int_div_euclid-shr : (x : ℤ) (m : ℕ) → int_div_euclid x (pos m) ≡ shr_z x m
int_div_euclid-shr (pos a) m = refl
int_div_euclid-shr (negsuc a) m = refl

unsigned_abs-shr : (x : ℤ) (m : ℕ) → unsigned_abs (shr_z x m) ≤ unsigned_abs x
unsigned_abs-shr (pos a) m = div-le_self a m
unsigned_abs-shr (negsuc a) m = suc-le-suc (div-le_self a m)

pub signed_shift : (f : Form) (a m : ℕ) → is_signed f ≡ true → a < 2 ^ 64
    → cast_unsigned w64 (cast_signed w64 (cast_unsigned w64 (shr_z (word_of f a) m)))
    ≡ kept_of (int_div_euclid (word_of f a) (pos m))
signed_shift f a m s h =
    kept_of-cast (shr_z (word_of f a) m)
    (le_trans (unsigned_abs-shr (word_of f a) m) (unsigned_abs-word_of f a s h))
    ∙ ap kept_of (sym (int_div_euclid-shr (word_of f a) m))

pub unsigned_shift : (f : Form) (a m : ℕ) → is_signed f ≡ false → a < 2 ^ 64 →
    a / m ≡ kept_of (int_div_euclid (word_of f a) (pos m))
unfolding kept_of
unsigned_shift f a m s h =
    sym (ap (λ x. kept_of (int_div_euclid x (pos m))) (word_of-unsigned f a s)
    ∙ mod-eq_of_lt (lt_of_le_of_lt (div-le_self a m) h))

-- ---- each operation on words

pub word_result_of-Add : (k : IntKind) (a b : ℕ) → a < 2 ^ 64 → b < 2 ^ 64 → word_result_of Add k a b ≡ (a + b) % 2 ^ 64
unfolding word_result_of
word_result_of-Add k a b h j =
    let f = form_of k in
    kept_of-add (word_of f a) (word_of f b)
    ∙ (λ i. (kept_of-word_of f a h i + kept_of-word_of f b j i) % 2 ^ 64)

pub word_result_of-Sub : (k : IntKind) (a b : ℕ) → a < 2 ^ 64 → b < 2 ^ 64 →
    word_result_of Sub k a b ≡ (a + (2 ^ 64 - b)) % 2 ^ 64
unfolding word_result_of
word_result_of-Sub k a b h j =
    let f = form_of k in
    kept_of-sub (word_of f a) (word_of f b)
    ∙ (λ i. (kept_of-word_of f a h i + (2 ^ 64 - kept_of-word_of f b j i)) % 2 ^ 64)

pub word_result_of-Mul : (k : IntKind) (a b : ℕ) → a < 2 ^ 64 → b < 2 ^ 64 → word_result_of Mul k a b ≡ (a * b) % 2 ^ 64
unfolding word_result_of
word_result_of-Mul k a b h j =
    let f = form_of k in
    kept_of-mul (word_of f a) (word_of f b)
    ∙ (λ i. (kept_of-word_of f a h i * kept_of-word_of f b j i) % 2 ^ 64)

pub word_result_of-And : (k : IntKind) (a b : ℕ) → a < 2 ^ 64 → b < 2 ^ 64 → word_result_of And k a b ≡ bit_and a b
unfolding word_result_of
word_result_of-And k a b h j =
    let f = form_of k in
    ap kept_of (λ i. pos (bit_and (kept_of-word_of f a h i) (kept_of-word_of f b j i)))
    ∙ kept_of-pos (bit_and a b) (lt_of_le_of_lt (and_le_l a b) h)

pub word_result_of-Or : (k : IntKind) (a b : ℕ) → a < 2 ^ 64 → b < 2 ^ 64 → word_result_of Or k a b ≡ bit_or a b
unfolding word_result_of
word_result_of-Or k a b h j =
    let f = form_of k in
    ap kept_of (λ i. pos (bit_or (kept_of-word_of f a h i) (kept_of-word_of f b j i)))
    ∙ kept_of-pos (bit_or a b) (or_lt 64 a b h j)

pub word_result_of-Xor : (k : IntKind) (a b : ℕ) → a < 2 ^ 64 → b < 2 ^ 64 → word_result_of Xor k a b ≡ bit_xor a b
unfolding word_result_of
word_result_of-Xor k a b h j =
    let f = form_of k in
    ap kept_of (λ i. pos (bit_xor (kept_of-word_of f a h i) (kept_of-word_of f b j i)))
    ∙ kept_of-pos (bit_xor a b) (xor_lt 64 a b h j)

-- the width of a promoted operand is 32 or 64
promoted_width : (P : ℕ → Type 0) (k : IntKind) → P 32 → P 64 → P (promoted_width_of k)
promoted_width P kind.I64 h j = j
promoted_width P kind.U64 h j = j
promoted_width P k h j = h

-- a shift count by its low bits
shift_count-bits : (k : IntKind) (b : ℕ) → b < 2 ^ 64 →
    modulo (word_of (form_of k) b) (promoted_width_of k) ≡ b % promoted_width_of k
unfolding kept_of
shift_count-bits k b h =
    let y = word_of (form_of k) b in
    let same = kept_of-word_of (form_of k) b h in
    promoted_width (λ w. modulo y w ≡ b % w) k
    (sym (modulo-low y 5 64 (lit≤ tt)) ∙ ap (λ n. n % 32) same)
    (sym (modulo-low y 6 64 (lit≤ tt)) ∙ ap (λ n. n % 64) same)

pub word_result_of-Shl : (k : IntKind) (a b : ℕ) → a < 2 ^ 64 → b < 2 ^ 64 →
    word_result_of Shl k a b ≡ (a * 2 ^ (b % promoted_width_of k)) % 2 ^ 64
unfolding word_result_of
word_result_of-Shl k a b h j =
    let f = form_of k in
    let shifted : ℕ → ℕ = λ c. kept_of (word_of f a *ℤ pos (2 ^ c)) in
    ap shifted (shift_count-bits k b j)
    ∙ kept_of-mul (word_of f a) (pos (2 ^ (b % promoted_width_of k)))
    ∙ ap (λ n. (n * kept_of (pos (2 ^ (b % promoted_width_of k)))) % 2 ^ 64) (kept_of-word_of f a h)
    ∙ kept_of-mul_pos a (2 ^ (b % promoted_width_of k))

pub word_result_of-Shr : (k : IntKind) (a b : ℕ) → a < 2 ^ 64 → b < 2 ^ 64
    → word_result_of Shr k a b ≡ kept_of (int_div_euclid (word_of (form_of k) a) (pos (2 ^ (b % promoted_width_of k))))
unfolding word_result_of
word_result_of-Shr k a b h j =
    ap (λ c. kept_of (int_div_euclid (word_of (form_of k) a) (pos (2 ^ c)))) (shift_count-bits k b j)

pub word_result_of-Div : (k : IntKind) (a b : ℕ) →
    word_result_of Div k a b ≡ kept_of (quotient (word_of (form_of k) a) (word_of (form_of k) b))
unfolding word_result_of
word_result_of-Div k a b = refl

pub word_result_of-Rem : (k : IntKind) (a b : ℕ) →
    word_result_of Rem k a b ≡ kept_of (remainder (word_of (form_of k) a) (word_of (form_of k) b))
unfolding word_result_of
word_result_of-Rem k a b = refl

pub ruleset word_results = (
  word_result_of-Add,
  word_result_of-Sub,
  word_result_of-Mul,
  word_result_of-Div,
  word_result_of-Rem,
  word_result_of-And,
  word_result_of-Or,
  word_result_of-Xor,
  word_result_of-Shl,
  word_result_of-Shr,
)

-- ---- an operation at a kind, by an operation on words

-- the low 64 bits of a result are reduced to a truth value as the result is
SameTruth : IntOp → ℕ → ℕ → Type 0
SameTruth op m n =
    wrapped kind.Bool (result_of op 32 (pos m) (pos n))
    ≡ wrapped kind.Bool (pos (kept_of (result_of op 32 (pos m) (pos n))))

bool_results : (op : IntOp) → SameTruth op 0 0 × SameTruth op 0 1 × SameTruth op 1 0 × SameTruth op 1 1
unfolding SameTruth kept_of wrapped reduced
bool_results Add = (refl, refl, refl, refl)
bool_results Sub = (refl, refl, refl, refl)
bool_results Mul = (refl, refl, refl, refl)
bool_results Div = (refl, refl, refl, refl)
bool_results Rem = (refl, refl, refl, refl)
bool_results And = (refl, refl, refl, refl)
bool_results Or = (refl, refl, refl, refl)
bool_results Xor = (refl, refl, refl, refl)
bool_results Shl = (refl, refl, refl, refl)
bool_results Shr = (refl, refl, refl, refl)

bool_result : (op : IntOp) (m n : ℕ) → m < 2 → n < 2 → SameTruth op m n
bool_result op zero zero h j = (bool_results op).0
bool_result op zero (suc zero) h j = (bool_results op).1
bool_result op (suc zero) zero h j = (bool_results op).2
bool_result op (suc zero) (suc zero) h j = (bool_results op).3
bool_result op (suc (suc m)) n h j = absurd (omega arith)
bool_result op m (suc (suc n)) h j = absurd (omega arith)

truth-below : (z : ℤ) → wrapped kind.Bool z < 2
unfolding wrapped reduced kept_of
truth-below z = let b : truth_of z < 2 = truth_of-below z in le_trans (suc-le-suc (mod-le (truth_of z) (2 ^ 64))) b

-- the low 64 bits of a result on words are reduced as the result is
reduced_word : (op : IntOp) (k : IntKind) (a b : ℕ)
    → wrapped k (result_of op (promoted_width_of k) (word_of (form_of k) (wrapped k (pos a)))
    (word_of (form_of k) (wrapped k (pos b))))
    ≡ wrapped k (pos (word_result_of op k (wrapped k (pos a)) (wrapped k (pos b))))
unfolding word_result_of SameTruth
reduced_word op kind.Bool a b =
    bool_result op (wrapped kind.Bool (pos a)) (wrapped kind.Bool (pos b)) (truth-below (pos a)) (truth-below (pos b))
reduced_word op k a b = sym (wrapped-kept_of k _ (lit< tt))

-- an operation at a kind is the operation on words, reduced
pub binary_of-word : (op : IntOp) (k : IntKind) (a b : ℕ)
    → binary_of op k a b ≡ wrapped k (pos (word_result_of op k (wrapped k (pos a)) (wrapped k (pos b))))
unfolding binary_of
binary_of-word op k a b =
    (λ i. wrapped k (result_of op (promoted_width_of k) (value_of-word k a i) (value_of-word k b i)))
    ∙ reduced_word op k a b

-- ---- comparisons

-- what the code reads an operand as
abbrev read : IntKind → ℕ → ℤ
read k a = word_of (form_of k) (wrapped k (pos a))

-- a comparison at a kind is the comparison of words
compare_of-word : (op : CmpOp) (k : IntKind) (a b : ℕ) → compare_of op k a b ≡ comparison_of op (read k a) (read k b)
unfolding compare_of
compare_of-word op k a b = λ i. comparison_of op (value_of-word k a i) (value_of-word k b i)

int_eq-read : (k : IntKind) (a b : ℕ) → int_eq (read k a) (read k b) ≡ (wrapped k (pos a) == wrapped k (pos b))
int_eq-read k a b =
    int_eq-word_of (form_of k) (wrapped k (pos a)) (wrapped k (pos b)) (wrapped-below k (pos a))
    (wrapped-below k (pos b))

pub compare_of-Lt : (k : IntKind) (a b : ℕ) → compare_of Lt k a b ≡ int_lt (read k a) (read k b)
compare_of-Lt k a b = compare_of-word Lt k a b

pub compare_of-Le : (k : IntKind) (a b : ℕ) → compare_of Le k a b ≡ not (int_lt (read k b) (read k a))
compare_of-Le k a b = compare_of-word Le k a b ∙ sym (not-int_lt (read k b) (read k a))

pub compare_of-Gt : (k : IntKind) (a b : ℕ) → compare_of Gt k a b ≡ int_lt (read k b) (read k a)
compare_of-Gt k a b = compare_of-word Gt k a b

pub compare_of-Ge : (k : IntKind) (a b : ℕ) → compare_of Ge k a b ≡ not (int_lt (read k a) (read k b))
compare_of-Ge k a b = compare_of-word Ge k a b ∙ sym (not-int_lt (read k a) (read k b))

pub compare_of-Eq : (k : IntKind) (a b : ℕ) → compare_of Eq k a b ≡ (wrapped k (pos a) == wrapped k (pos b))
compare_of-Eq k a b = compare_of-word Eq k a b ∙ int_eq-read k a b

pub compare_of-Ne : (k : IntKind) (a b : ℕ) → compare_of Ne k a b ≡ not (wrapped k (pos a) == wrapped k (pos b))
compare_of-Ne k a b = compare_of-word Ne k a b ∙ ap not (int_eq-read k a b)

pub ruleset comparisons = (compare_of-Lt, compare_of-Le, compare_of-Gt, compare_of-Ge, compare_of-Eq, compare_of-Ne)
