-- The literals of C (C11 6.4.4, 6.4.5) and their values, over the bytes that spell them.
use Rattle.std.specs.Prelude.{◌≡◌, ◌≢◌, ℕ, zero, suc, ◌+◌, ◌*◌, ◌^◌, ◌≤◌, Bool, true, false, not, ◌&&◌, ◌||◌}
use Rattle.std.specs.Prelude.{if◌then◌else◌, ◌==◌, nat_lt, nat_le, List, [], ◌∷◌, ◌++◌, length, take, drop, fold, find}
use Rattle.std.specs.Prelude.{take_while, codes, Option, Some, None, IsTrue, IsSome}
use Rattle.std.specs.Char.{digit_value, is_digit}
use Rattle.std.specs.List.{list_all, flat_map}
use Rattle.std.specs.Str.{byte}
use Rattle.ck_base.specs.declared.tokens.Integer.{Integer}
use Rattle.ck_base.specs.Tokens.{is_among, line_feed}

-- one or more digits of a base; from ten on they are letters, of either case
abbrev pub are_digits : ℕ → List ℕ → Bool
are_digits base [] = false
are_digits base (d ∷ ds) = list_all (λ c. is_digit c base) (d ∷ ds)

-- the number that digits of a base write, the first digit weighing most
abbrev pub value_of : ℕ → List ℕ → ℕ
value_of base digits = fold (λ n d. base * n + digit_value d) 0 digits

-- Integer constants (6.4.4.1)

-- the constant without its suffix: its bytes, its value, and whether it is decimal
pub data SpellsInteger : List ℕ → ℕ → Bool → Type 0 where
  decimal : (d : ℕ) (ds : List ℕ) → d ≢ byte "0" → IsTrue (are_digits 10 (d ∷ ds)) →
      SpellsInteger (d ∷ ds) (value_of 10 (d ∷ ds)) true
  octal : (ds : List ℕ) → IsTrue (are_digits 8 (byte "0" ∷ ds)) →
      SpellsInteger (byte "0" ∷ ds) (value_of 8 (byte "0" ∷ ds)) false
  hexadecimal : (x : ℕ) (ds : List ℕ) → IsTrue (x == byte "x" || x == byte "X") → IsTrue (are_digits 16 ds) →
      SpellsInteger (byte "0" ∷ x ∷ ds) (value_of 16 ds) false

abbrev pub unsigned_suffixes : Bool → List (List ℕ)
unsigned_suffixes false = [] ∷ []
unsigned_suffixes true = codes "u" ∷ codes "U" ∷ []

-- with no `long`, one and two
abbrev pub long_suffixes : ℕ → List (List ℕ)
long_suffixes zero = [] ∷ []
long_suffixes (suc zero) = codes "l" ∷ codes "L" ∷ []
long_suffixes (suc (suc zero)) = codes "ll" ∷ codes "LL" ∷ []
long_suffixes (suc (suc (suc n))) = []

-- an unsigned suffix and a long one, in either order; each may be missing
unfoldable pub suffixes : Bool → ℕ → List (List ℕ)
suffixes unsigned longs =
    flat_map (λ u. flat_map (λ l. (u ++ l) ∷ (l ++ u) ∷ []) (long_suffixes longs)) (unsigned_suffixes unsigned)

-- The types of integer constants. An `int` has 32 bits, a `long` and a `long long` have 64.
pub data IntegerType : Type 0 where
  Int UnsignedInt Long UnsignedLong LongLong UnsignedLongLong : IntegerType

abbrev pub integer_types : List IntegerType
integer_types = Int ∷ UnsignedInt ∷ Long ∷ UnsignedLong ∷ LongLong ∷ UnsignedLongLong ∷ []

-- one more than the greatest value of a type
abbrev pub limit_of : IntegerType → ℕ
limit_of Int = 2 ^ 31
limit_of UnsignedInt = 2 ^ 32
limit_of Long = 2 ^ 63
limit_of UnsignedLong = 2 ^ 64
limit_of LongLong = 2 ^ 63
limit_of UnsignedLongLong = 2 ^ 64

-- how often the type says `long`
abbrev pub longs_of : IntegerType → ℕ
longs_of Int = 0
longs_of UnsignedInt = 0
longs_of Long = 1
longs_of UnsignedLong = 1
longs_of LongLong = 2
longs_of UnsignedLongLong = 2

abbrev pub is_unsigned : IntegerType → Bool
is_unsigned Int = false
is_unsigned UnsignedInt = true
is_unsigned Long = false
is_unsigned UnsignedLong = true
is_unsigned LongLong = false
is_unsigned UnsignedLongLong = true

-- 6.4.4.1p5: a suffix asks for at least as many `long`s. With `u` only unsigned types are in the constant's list, and
-- in that of a decimal constant without `u` there are only signed ones.
abbrev pub is_candidate : Integer → IntegerType → Bool
is_candidate n t = nat_le n.longs (longs_of t)
    && (if n.unsigned then is_unsigned t else not (n.decimal && is_unsigned t))

-- a type of that list that has the value
abbrev pub can_have : Integer → IntegerType → Bool
can_have n t = is_candidate n t && nat_lt n.value (limit_of t)

-- the first of them
unfoldable pub type_of : Integer → Option IntegerType
type_of n = find (can_have n) integer_types

-- the text of an integer constant: digits and a suffix, with a value that has a type
pub record IsInteger (text : List ℕ) (n : Integer) : Type 0 where
  pub digits : List ℕ
  pub suffix : List ℕ
  pub spelled : text ≡ digits ++ suffix
  pub value : SpellsInteger digits n.value n.decimal
  pub suffixed : IsTrue (is_among (suffixes n.unsigned n.longs) suffix)
  pub typed : IsSome (type_of n)

-- Character constants (6.4.4.4) and string literals (6.4.5)

-- 6.4.4.4p3, 5.2.2: the byte that a backslash and one byte stand for
unfoldable pub simple_escape : ℕ → Option ℕ
simple_escape b =
    if b == byte "n" then Some 10
    else (if b == byte "t" then Some 9
    else (if b == byte "r" then Some 13
    else (if b == byte "a" then Some 7
    else (if b == byte "b" then Some 8
    else (if b == byte "f" then Some 12
    else (if b == byte "v" then Some 11
    else (if b == byte "\\" || b == byte "'" || b == byte "\"" || b == byte "?" then Some b
    else None)))))))

-- the digits of a base from the front on, as far as they go
abbrev pub leading_digits : ℕ → List ℕ → List ℕ
leading_digits base bytes = take_while (λ b. is_digit b base) bytes

-- 6.4.4.4: The bytes, which stand behind a backslash, begin with an escape sequence of this value and of n bytes.
-- A numeric one takes as many digits as there are (p7), octal digits up to three, and its value is that of a byte (p9).
pub data BeginsWithEscape (bytes : List ℕ) : ℕ → ℕ → Type 0 where
  simple : {value : ℕ} (b : ℕ) (rest : List ℕ) → bytes ≡ b ∷ rest → simple_escape b ≡ Some value →
      BeginsWithEscape bytes value 1
  octal : (digits : List ℕ) → digits ≡ take 3 (leading_digits 8 bytes) → IsTrue (are_digits 8 digits) →
      value_of 8 digits ≤ 255 → BeginsWithEscape bytes (value_of 8 digits) (length digits)
  hexadecimal : (digits rest : List ℕ) → bytes ≡ byte "x" ∷ rest → digits ≡ leading_digits 16 rest →
      IsTrue (are_digits 16 digits) → value_of 16 digits ≤ 255 →
      BeginsWithEscape bytes (value_of 16 digits) (1 + length digits)

-- 6.4.4.4, 6.4.5: The bytes, which stand behind an opening quote, begin with a character of this value and of n bytes:
-- a byte other than the quote, the backslash and line feed stands for itself, and a backslash begins an escape
-- sequence.
pub data BeginsWithCharacter (quote : ℕ) (bytes : List ℕ) : ℕ → ℕ → Type 0 where
  itself : (b : ℕ) (rest : List ℕ) → bytes ≡ b ∷ rest → b ≢ quote → b ≢ byte "\\" → b ≢ line_feed →
      BeginsWithCharacter quote bytes b 1
  escape : {value n : ℕ} (rest : List ℕ) → bytes ≡ byte "\\" ∷ rest → BeginsWithEscape rest value n →
      BeginsWithCharacter quote bytes value (n + 1)

-- the bytes are characters one after another, with these values
pub data AreCharacters (quote : ℕ) : List ℕ → List ℕ → Type 0 where
  nothing : AreCharacters quote [] []
  more : {value n : ℕ} {bytes values : List ℕ} → BeginsWithCharacter quote bytes value n →
      AreCharacters quote (drop n bytes) values → AreCharacters quote bytes (value ∷ values)

-- bytes between two quotes
abbrev pub in_quotes : ℕ → List ℕ → List ℕ
in_quotes quote bytes = quote ∷ (bytes ++ quote ∷ [])

-- the text of a character constant: one character between single quotes
abbrev pub IsCharacter : List ℕ → ℕ → Type 0
IsCharacter text value = (bytes : List ℕ) × (text ≡ in_quotes (byte "'") bytes) ×
    BeginsWithCharacter (byte "'") bytes value (length bytes)

-- the text of a string literal, and the bytes that it spells, without the zero that 6.4.5p6 adds
abbrev pub IsString : List ℕ → List ℕ → Type 0
IsString text values = (bytes : List ℕ) × (text ≡ in_quotes (byte "\"") bytes) × AreCharacters (byte "\"") bytes values
