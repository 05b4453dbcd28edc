-- What each form of number keeps in 64 bits, and what its bits say.
use Rattle.std.proofs.Common.{◌≡◌, ◌≢◌, ℕ, zero, suc, ◌+◌, ◌-◌, ◌*◌, ◌%◌, ◌^◌, ◌<◌, ◌≤◌, ℤ, pos, negsuc, ◌≤ℤ◌, arith}
use Rattle.std.proofs.Common.{sym, ap, ◌∙◌, refl, subst, lit<, lit≤, true, false, ⊎_elim}
use Rattle.std.proofs.Math.Nat.{mod-eq_of_lt, mod-le, lt_of_le_of_lt, le-mul_of_pos_right}
use Rattle.std.proofs.lemmas.Bool.{cases_lt, lt-ltb, le-ltb, cond-true, cond-false, false≢true}
use Rattle.std.proofs.lemmas.Int.{ints}
use Rattle.std.proofs.lemmas.Nat.{pow_pos}
use Rattle.std.specs.Prelude.{if◌then◌else◌, ◌==◌}
use Rattle.ck_int.specs.declared.kinds.IntKind.{IntKind}
use Rattle.ck_int.specs.declared.kinds.IntKind.TheVariants as kind
use Rattle.ck_int.specs.Kinds.{Form, truth, unsigned, signed, form_of, is_signed, modulo, twos_complement, truth_of}
use Rattle.ck_int.specs.Kinds.{converted_to, least_of, greatest_of, width_of}
use Rattle.ck_int.specs.Words.{word_of}
use Rattle.ck_int.proofs.Modulo.{modulo-below, modulo-low, pow-split}

-- ---- two's complement

pub twos_complement-low : (w n : ℕ) → n < 2 ^ (w - 1) → twos_complement w n ≡ pos n
twos_complement-low w n h = cond-true _ _ _ (lt-ltb n (2 ^ (w - 1)) h)

pub twos_complement-high : (w n : ℕ) → 2 ^ (w - 1) ≤ n → n < 2 ^ w → twos_complement w n ≡ negsuc (2 ^ w - 1 - n)
twos_complement-high w n h below = cond-false _ _ _ (le-ltb n (2 ^ (w - 1)) h) ∙ omega (arith, ints)

-- ---- widths

pub record IsWidth (w : ℕ) : Type 0 where
  pub some : 0 < w
  pub most : w ≤ 64

pub IsForm : Form → Type 0
IsForm truth = Unit {0}
IsForm (unsigned w) = IsWidth w
IsForm (signed w) = IsWidth w

pub form_of-IsForm : (k : IntKind) → IsForm (form_of k)
unfolding IsForm
form_of-IsForm kind.Bool = tt
form_of-IsForm kind.I8 = record { some = lit< tt; most = lit≤ tt }
form_of-IsForm kind.U8 = record { some = lit< tt; most = lit≤ tt }
form_of-IsForm kind.I16 = record { some = lit< tt; most = lit≤ tt }
form_of-IsForm kind.U16 = record { some = lit< tt; most = lit≤ tt }
form_of-IsForm kind.I32 = record { some = lit< tt; most = lit≤ tt }
form_of-IsForm kind.U32 = record { some = lit< tt; most = lit≤ tt }
form_of-IsForm kind.I64 = record { some = lit< tt; most = lit≤ tt }
form_of-IsForm kind.U64 = record { some = lit< tt; most = lit≤ tt }

pub width_of-IsForm : (f : Form) → IsForm f → width_of f ≤ 64
unfolding IsForm
width_of-IsForm truth h = lit≤ tt
width_of-IsForm (unsigned w) h = h.most
width_of-IsForm (signed w) h = h.most

-- a sign bit, and the other bits
halves : (w : ℕ) → IsWidth w → 2 ^ (w - 1) + 2 ^ (w - 1) ≡ 2 ^ w
halves w h = let e : 2 ^ 1 * 2 ^ (w - 1) ≡ 2 ^ w = pow-split 1 w h.some in omega arith

within_word : (w : ℕ) → IsWidth w → 2 ^ w ≤ 2 ^ 64
within_word w h =
    let e : 2 ^ w * 2 ^ (64 - w) ≡ 2 ^ 64 = pow-split w 64 h.most in
    let le : 2 ^ w ≤ 2 ^ w * 2 ^ (64 - w) = le-mul_of_pos_right (2 ^ w) (pow_pos (64 - w)) in
    omega arith

-- the bits of a number in two's complement are the bits that it was read from
pub modulo-twos_complement : (w n : ℕ) → n < 2 ^ w → modulo (twos_complement w n) (2 ^ w) ≡ n
modulo-twos_complement w n h =
    ⊎_elim
    (λ low. ap (λ z. modulo z (2 ^ w)) (twos_complement-low w n low) ∙ mod-eq_of_lt h)
    (λ high. ap (λ z. modulo z (2 ^ w)) (twos_complement-high w n high h)
    ∙ (let e : (2 ^ w - 1 - n) % 2 ^ w ≡ 2 ^ w - 1 - n = mod-eq_of_lt (omega arith) in omega arith))
    (cases_lt n (2 ^ (w - 1)))

-- a number of w bits in two's complement, extended to 64 bits and read there
pub twos_complement-extended : (w n : ℕ) → IsWidth w → n < 2 ^ w →
    twos_complement 64 (modulo (twos_complement w n) (2 ^ 64)) ≡ twos_complement w n
twos_complement-extended w n width h =
    let whole : 2 ^ w ≤ 2 ^ 64 = within_word w width in
    let double : 2 ^ (w - 1) + 2 ^ (w - 1) ≡ 2 ^ w = halves w width in
    let extended : ℤ → ℤ = λ z. twos_complement 64 (modulo z (2 ^ 64)) in
    let distance : ℕ = 2 ^ w - 1 - n in
    ⊎_elim
    (λ low. ap extended (twos_complement-low w n low)
    ∙ ap (twos_complement 64) (mod-eq_of_lt {n = n} {m = 2 ^ 64} (omega arith))
    ∙ twos_complement-low 64 n (omega arith) ∙ sym (twos_complement-low w n low))
    (λ high. ap extended (twos_complement-high w n high h)
    ∙ ap (λ r. twos_complement 64 (2 ^ 64 - 1 - r)) (mod-eq_of_lt {n = distance} {m = 2 ^ 64} (omega arith))
    ∙ twos_complement-high 64 (2 ^ 64 - 1 - distance) (omega arith) (omega arith)
    ∙ ap negsuc (omega arith) ∙ sym (twos_complement-high w n high h))
    (cases_lt n (2 ^ (w - 1)))

-- ---- forms

pub truth_of-below : (z : ℤ) → truth_of z < 2
truth_of-below (pos n) = elim (n == 0) as (λ b. (if b then 0 else 1) < 2) [ true ↦ lit< tt | false ↦ lit< tt ]
truth_of-below (negsuc n) = lit< tt

truth_of-pos : (n : ℕ) → n < 2 → truth_of (pos n) ≡ n
truth_of-pos zero h = refl
truth_of-pos (suc zero) h = refl
truth_of-pos (suc (suc n)) h = absurd (omega arith)

-- a converted number is kept: its 64 bits, read as the form's, are the number
pub word_of-kept : (f : Form) (z : ℤ) → IsForm f → word_of f (modulo (converted_to f z) (2 ^ 64)) ≡ converted_to f z
unfolding IsForm
word_of-kept truth z h = let b : truth_of z < 2 = truth_of-below z in ap pos (mod-eq_of_lt (omega arith))
word_of-kept (unsigned w) z h =
    let b : modulo z (2 ^ w) < 2 ^ w = modulo-below z (2 ^ w) (pow_pos w) in
    let whole : 2 ^ w ≤ 2 ^ 64 = within_word w h in
    ap pos (mod-eq_of_lt (omega arith))
word_of-kept (signed w) z h = twos_complement-extended w (modulo z (2 ^ w)) h (modulo-below z (2 ^ w) (pow_pos w))

-- and converting its 64 bits gives it again
pub converted_to-kept : (f : Form) (z : ℤ) → IsForm f →
    converted_to f (pos (modulo (converted_to f z) (2 ^ 64))) ≡ converted_to f z
unfolding IsForm
converted_to-kept truth z h =
    let b : truth_of z < 2 = truth_of-below z in
    ap (λ (n : ℕ). pos (truth_of (pos n))) (mod-eq_of_lt (omega arith)) ∙ ap pos (truth_of-pos (truth_of z) b)
converted_to-kept (unsigned w) z h =
    let b : modulo z (2 ^ w) < 2 ^ w = modulo-below z (2 ^ w) (pow_pos w) in
    ap pos (modulo-low (pos (modulo z (2 ^ w))) w 64 h.most ∙ mod-eq_of_lt b)
converted_to-kept (signed w) z h =
    let b : modulo z (2 ^ w) < 2 ^ w = modulo-below z (2 ^ w) (pow_pos w) in
    ap (twos_complement w)
    (modulo-low (twos_complement w (modulo z (2 ^ w))) w 64 h.most ∙ modulo-twos_complement w (modulo z (2 ^ w)) b)

-- a form without a sign keeps the numbers of its width as they are, and no others
pub kept-unsigned : (f : Form) (v : ℕ) → IsForm f → is_signed f ≡ false → v < 2 ^ width_of f →
    modulo (converted_to f (pos v)) (2 ^ 64) ≡ v
unfolding IsForm
kept-unsigned truth v h s below = ap (λ n. n % 2 ^ 64) (truth_of-pos v below) ∙ mod-eq_of_lt (omega arith)
kept-unsigned (unsigned w) v h s below =
    let whole : 2 ^ w ≤ 2 ^ 64 = within_word w h in
    ap (λ n. n % 2 ^ 64) (mod-eq_of_lt {n = v} {m = 2 ^ w} below) ∙ mod-eq_of_lt (omega arith)
kept-unsigned (signed w) v h s below = absurd (false≢true (sym s))

pub kept-unsigned_below : (f : Form) (z : ℤ) → is_signed f ≡ false → modulo (converted_to f z) (2 ^ 64) < 2 ^ width_of f
kept-unsigned_below truth z s = lt_of_le_of_lt (mod-le (truth_of z) (2 ^ 64)) (truth_of-below z)
kept-unsigned_below (unsigned w) z s =
    lt_of_le_of_lt (mod-le (modulo z (2 ^ w)) (2 ^ 64)) (modulo-below z (2 ^ w) (pow_pos w))
kept-unsigned_below (signed w) z s = absurd (false≢true (sym s))

-- ---- ranges

-- a converted number is one of the form's
pub least-converted_to : (f : Form) (z : ℤ) → IsForm f → least_of f ≤ℤ converted_to f z
unfolding IsForm
least-converted_to truth z h = omega (arith, ints)
least-converted_to (unsigned w) z h = omega (arith, ints)
least-converted_to (signed w) z h =
    let n : ℕ = modulo z (2 ^ w) in
    let b : n < 2 ^ w = modulo-below z (2 ^ w) (pow_pos w) in
    let double : 2 ^ (w - 1) + 2 ^ (w - 1) ≡ 2 ^ w = halves w h in
    ⊎_elim
    (λ low. subst (λ x. least_of (signed w) ≤ℤ x) (sym (twos_complement-low w n low)) (omega (arith, ints)))
    (λ high. subst (λ x. least_of (signed w) ≤ℤ x) (sym (twos_complement-high w n high b)) (omega (arith, ints)))
    (cases_lt n (2 ^ (w - 1)))

pub converted_to-greatest : (f : Form) (z : ℤ) → IsForm f → converted_to f z ≤ℤ greatest_of f
unfolding IsForm
converted_to-greatest truth z h = let b : truth_of z < 2 = truth_of-below z in omega (arith, ints)
converted_to-greatest (unsigned w) z h =
    let b : modulo z (2 ^ w) < 2 ^ w = modulo-below z (2 ^ w) (pow_pos w) in
    omega (arith, ints)
converted_to-greatest (signed w) z h =
    let n : ℕ = modulo z (2 ^ w) in
    let b : n < 2 ^ w = modulo-below z (2 ^ w) (pow_pos w) in
    let double : 2 ^ (w - 1) + 2 ^ (w - 1) ≡ 2 ^ w = halves w h in
    ⊎_elim
    (λ low. subst (λ x. x ≤ℤ greatest_of (signed w)) (sym (twos_complement-low w n low)) (omega (arith, ints)))
    (λ high. subst (λ x. x ≤ℤ greatest_of (signed w)) (sym (twos_complement-high w n high b)) (omega (arith, ints)))
    (cases_lt n (2 ^ (w - 1)))

-- a number of the form is converted to itself
pub converted_to-itself : (f : Form) (z : ℤ) → IsForm f → least_of f ≤ℤ z → z ≤ℤ greatest_of f → converted_to f z ≡ z
unfolding IsForm
converted_to-itself truth (pos n) h low high = ap pos (truth_of-pos n (omega (arith, ints)))
converted_to-itself (unsigned w) (pos n) h low high =
    let b : 0 < 2 ^ w = pow_pos w in
    ap pos (mod-eq_of_lt {n = n} {m = 2 ^ w} (omega (arith, ints)))
converted_to-itself (signed w) (pos n) h low high =
    let b : 0 < 2 ^ (w - 1) = pow_pos (w - 1) in
    let double : 2 ^ (w - 1) + 2 ^ (w - 1) ≡ 2 ^ w = halves w h in
    ap (twos_complement w) (mod-eq_of_lt {n = n} {m = 2 ^ w} (omega (arith, ints)))
    ∙ twos_complement-low w n (omega (arith, ints))
converted_to-itself truth (negsuc n) h low high = absurd (omega (arith, ints))
converted_to-itself (unsigned w) (negsuc n) h low high = absurd (omega (arith, ints))
converted_to-itself (signed w) (negsuc n) h low high =
    let double : 2 ^ (w - 1) + 2 ^ (w - 1) ≡ 2 ^ w = halves w h in
    ap (λ r. twos_complement w (2 ^ w - 1 - r)) (mod-eq_of_lt {n = n} {m = 2 ^ w} (omega (arith, ints)))
    ∙ twos_complement-high w (2 ^ w - 1 - n) (omega (arith, ints)) (omega (arith, ints))
    ∙ ap negsuc (omega (arith, ints))

-- ---- the low bits of a conversion

-- the bits of a converted number are those of the number
pub modulo-converted_to : (f : Form) (z : ℤ) → 1 < width_of f →
    modulo (converted_to f z) (2 ^ width_of f) ≡ modulo z (2 ^ width_of f)
modulo-converted_to truth z h = absurd (omega arith)
modulo-converted_to (unsigned w) z h = mod-eq_of_lt (modulo-below z (2 ^ w) (pow_pos w))
modulo-converted_to (signed w) z h = modulo-twos_complement w (modulo z (2 ^ w)) (modulo-below z (2 ^ w) (pow_pos w))

modulo-narrower : (f : Form) (z : ℤ) (v : ℕ) → 1 < width_of f → v ≤ width_of f →
    modulo (converted_to f z) (2 ^ v) ≡ modulo z (2 ^ v)
modulo-narrower f z v h le =
    sym (modulo-low (converted_to f z) v (width_of f) le) ∙ ap (λ n. modulo (pos n) (2 ^ v)) (modulo-converted_to f z h)
    ∙ modulo-low z v (width_of f) le

-- a conversion to a form that is no wider than one before it
pub converted_to-narrower : (f g : Form) (z : ℤ) → 1 < width_of g → width_of g ≤ width_of f →
    converted_to g (converted_to f z) ≡ converted_to g z
converted_to-narrower f truth z h le = absurd (omega arith)
converted_to-narrower f (unsigned v) z h le = ap pos (modulo-narrower f z v (omega arith) le)
converted_to-narrower f (signed v) z h le = ap (twos_complement v) (modulo-narrower f z v (omega arith) le)

-- numbers with the same bits are converted to one number
pub converted_to-same : (f : Form) (x y : ℤ) → 1 < width_of f → modulo x (2 ^ width_of f) ≡ modulo y (2 ^ width_of f) →
    converted_to f x ≡ converted_to f y
converted_to-same truth x y h e = absurd (omega arith)
converted_to-same (unsigned w) x y h e = ap pos e
converted_to-same (signed w) x y h e = ap (twos_complement w) e

-- each kind but `_Bool` has more than one bit
pub more_than_bit : (k : IntKind) → k ≢ kind.Bool → 1 < width_of (form_of k)
more_than_bit kind.Bool h = absurd (h refl)
more_than_bit k h = lit< tt
