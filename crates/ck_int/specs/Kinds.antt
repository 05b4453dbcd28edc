-- The kinds of integers: the whole numbers that each has, the conversion to it, and the 64 bits in which a number is
-- kept. A whole number is a ℤ: `pos n` is n, and `negsuc n` is -1 - n.
use Rattle.std.specs.Prelude.{◌≡◌, ℕ, ◌-◌, ◌%◌, ◌^◌, Bool, true, false, if◌then◌else◌, nat_lt, ◌==◌, ℤ, pos, negsuc}
use Rattle.std.specs.Prelude.{◌-ℤ◌, ◌≤ℤ◌, neg_ℤ}
use Rattle.ck_int.specs.declared.kinds.IntKind.{IntKind}
use Rattle.ck_int.specs.declared.kinds.IntKind.TheVariants as kind

-- What a kind has (C11 6.2.5, 6.2.6.2): the truth values 0 and 1; the numbers of w bits without a sign, from 0 to 2^w -
-- 1; or those of w bits in two's complement, from -2^(w-1) to 2^(w-1) - 1
pub data Form : Type 0 where
  truth : Form
  unsigned : ℕ → Form
  signed : ℕ → Form

abbrev pub form_of : IntKind → Form
form_of kind.Bool = truth
form_of kind.I8 = signed 8
form_of kind.U8 = unsigned 8
form_of kind.I16 = signed 16
form_of kind.U16 = unsigned 16
form_of kind.I32 = signed 32
form_of kind.U32 = unsigned 32
form_of kind.I64 = signed 64
form_of kind.U64 = unsigned 64

-- the number of bits, a sign bit among them (C11 6.2.6.2p6)
abbrev pub width_of : Form → ℕ
width_of truth = 1
width_of (unsigned w) = w
width_of (signed w) = w

abbrev pub is_signed : Form → Bool
is_signed truth = false
is_signed (unsigned w) = false
is_signed (signed w) = true

-- the least and the greatest number of a form
abbrev pub least_of : Form → ℤ
least_of truth = pos 0
least_of (unsigned w) = pos 0
least_of (signed w) = neg_ℤ (pos (2 ^ (w - 1)))

abbrev pub greatest_of : Form → ℤ
greatest_of truth = pos 1
greatest_of (unsigned w) = pos (2 ^ w - 1)
greatest_of (signed w) = pos (2 ^ (w - 1) - 1)

-- the kind has the number z
pub record Represents (k : IntKind) (z : ℤ) : Type 0 where
  pub low : least_of (form_of k) ≤ℤ z
  pub high : z ≤ℤ greatest_of (form_of k)

-- ---- conversion

-- z modulo m: the number from 0 to m - 1 that differs from z by a multiple of m
abbrev pub modulo : ℤ → ℕ → ℕ
modulo (pos n) m = n % m
modulo (negsuc n) m = m - 1 - n % m

-- the bits n, of which there are w, read as two's complement: the sign bit is worth -2^(w-1) (C11 6.2.6.2p2)
abbrev pub twos_complement : ℕ → ℕ → ℤ
twos_complement w n = (if nat_lt n (2 ^ (w - 1)) then pos n else pos n -ℤ pos (2 ^ w))

-- 0 for 0, and otherwise 1
abbrev pub truth_of : ℤ → ℕ
truth_of (pos n) = (if n == 0 then 0 else 1)
truth_of (negsuc n) = 1

abbrev pub converted_to : Form → ℤ → ℤ
converted_to truth z = pos (truth_of z)
converted_to (unsigned w) z = pos (modulo z (2 ^ w))
converted_to (signed w) z = twos_complement w (modulo z (2 ^ w))

-- z converted to a kind: to `_Bool` by C11 6.3.1.2, and to the others by C11 6.3.1.3, also to a signed one modulo 2^w
unfoldable pub reduced : IntKind → ℤ → ℤ
reduced k z = converted_to (form_of k) z

-- ---- 64 bits

-- the sign extension or zero extension of a number to 64 bits
unfoldable pub kept_of : ℤ → ℕ
kept_of z = modulo z (2 ^ 64)

-- z reduced to a kind, as it is kept
unfoldable pub wrapped : IntKind → ℤ → ℕ
wrapped k z = kept_of (reduced k z)

-- the number that 64 bits v stand for as an operand of a kind. Where they don't keep a number of the kind, v is first
-- reduced to it
unfoldable pub value_of : IntKind → ℕ → ℤ
value_of k v = reduced k (pos v)

-- v keeps a number of the kind
pub record IsKept (k : IntKind) (v : ℕ) : Type 0 where
  pub kept : wrapped k (pos v) ≡ v

-- a conversion between two kinds
unfoldable pub converted : IntKind → IntKind → ℕ → ℕ
converted from to v = wrapped to (value_of from v)
