-- The values and types of literals (C11 6.4.4, 6.4.5), from the bytes that spell them.
use Rattle.std.specs.Prelude.{ℕ, zero, suc, ◌-◌, Bool, not, ◌||◌, ◌==◌, if◌then◌else◌, List, [], ◌∷◌, length, take}
use Rattle.std.specs.Prelude.{drop, filter, Option, Some, None}
use Rattle.std.specs.List.{list_any}
use Rattle.std.specs.Str.{byte}
use Rattle.ck_base.specs.declared.tokens.Integer.{Integer}
use Rattle.ck_base.specs.Literals.{leading_digits, simple_escape, IntegerType}
use Rattle.ck_base.specs.Literals as literal
use Rattle.ck_int.specs.declared.kinds.IntKind.TheVariants as kind
use Rattle.c_tree.specs.Types.{Ty, Int, int, long, unsigned_long}

-- ---- integer constants (6.4.4.1)

abbrev pub is_unsigned_letter : ℕ → Bool
is_unsigned_letter c = c == byte "u" || c == byte "U"

abbrev pub is_long_letter : ℕ → Bool
is_long_letter c = c == byte "l" || c == byte "L"

-- no digit is one of these letters
abbrev pub is_suffix_letter : ℕ → Bool
is_suffix_letter c = is_unsigned_letter c || is_long_letter c

-- the base that the first digits tell, and the digits behind the prefix
abbrev pub base_and_digits : List ℕ → ℕ × List ℕ
base_and_digits (d ∷ x ∷ ds) =
    (if d == byte "0" then (if x == byte "x" || x == byte "X" then (16, ds) else (8, x ∷ ds)) else (10, d ∷ x ∷ ds))
base_and_digits (d ∷ []) = (if d == byte "0" then (8, d ∷ []) else (10, d ∷ []))
base_and_digits [] = (10, [])

abbrev pub integer_with : ℕ × List ℕ → List ℕ → Integer
integer_with b suffix = record {
  value = literal.value_of b.0 b.1;
  unsigned = list_any is_unsigned_letter suffix;
  longs = length (filter is_long_letter suffix);
  decimal = b.0 == 10;
}

unfoldable pub integer_of : List ℕ → Integer
integer_of text = integer_with (base_and_digits (filter (λ c. not (is_suffix_letter c)) text))
    (filter is_suffix_letter text)

-- 6.4.4.1p5: the type of an integer constant
abbrev pub integer_type : Option IntegerType → Ty
integer_type None = int
integer_type (Some literal.Int) = int
integer_type (Some literal.UnsignedInt) = Int kind.U32 0
integer_type (Some literal.Long) = long
integer_type (Some literal.UnsignedLong) = unsigned_long
integer_type (Some literal.LongLong) = Int kind.I64 1
integer_type (Some literal.UnsignedLongLong) = Int kind.U64 1

abbrev pub number_type : List ℕ → Ty
number_type text = integer_type (literal.type_of (integer_of text))

-- ---- characters and strings (6.4.4.4, 6.4.5)

-- the bytes between two quotes
abbrev pub between_quotes : List ℕ → List ℕ
between_quotes text = take (length text - 2) (drop 1 text)

-- Behind a backslash stands a simple escape, or digits of base 16 or 8; `go` gives the characters behind
abbrev pub numeric : ℕ → List ℕ → (List ℕ → List ℕ) → List ℕ → List ℕ
numeric base digits go rest = literal.value_of base digits ∷ go (drop (length digits) rest)

abbrev pub escape : Option ℕ → (List ℕ → List ℕ) → ℕ → List ℕ → List ℕ
escape (Some v) go c cs = v ∷ go cs
escape None go c cs = (if c == byte "x" then numeric 16 (leading_digits 16 cs) go cs
    else numeric 8 (take 3 (leading_digits 8 (c ∷ cs))) go (c ∷ cs))

abbrev pub escaped : (List ℕ → List ℕ) → List ℕ → List ℕ
escaped go [] = []
escaped go (c ∷ cs) = escape (simple_escape c) go c cs

-- the values of the characters in at most so many bytes
unfoldable pub characters : ℕ → List ℕ → List ℕ
characters zero bytes = []
characters (suc n) [] = []
characters (suc n) (b ∷ bs) = (if b == byte "\\" then escaped (characters n) bs else b ∷ characters n bs)

abbrev pub characters_of : List ℕ → List ℕ
characters_of text = characters (length text) (between_quotes text)

abbrev pub first_or_zero : List ℕ → ℕ
first_or_zero [] = 0
first_or_zero (b ∷ bs) = b

-- a character constant has the type `int` (6.4.4.4p10), and here one character
abbrev pub character_value : List ℕ → ℕ
character_value text = first_or_zero (characters_of text)
