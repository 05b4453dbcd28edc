-- The parts of literals.
use Rattle.std.specs.Prelude.{ℕ, ◌+◌, ◌^◌, Bool, true, false, not, ◌&&◌, ◌||◌, if◌then◌else◌, ◌==◌, nat_lt, nat_le}
use Rattle.std.specs.Prelude.{List, [], ◌∷◌, length, take, codes, Option, Some, None, option_map}
use Rattle.std.specs.Str.{byte}
use Rattle.ck_base.specs.Tokens.{is_among, line_feed}
use Rattle.ck_base.specs.Literals.{value_of, leading_digits, simple_escape}
pub use Rattle.c_lex.specs.Bases.{digits_at}
unfoldable pub use Rattle.c_lex.specs.Bases.{base_at}

-- a value below 2 ^ 64 has a type where this holds: a decimal constant without `u` needs a signed one
abbrev pub has_type : ℕ → Bool → Bool → Bool
has_type value unsigned decimal = unsigned || (not decimal || nat_lt value (2 ^ 63))

-- the spellings of each suffix of an integer constant
abbrev pub no_suffix : List (List ℕ)
no_suffix = [] ∷ []

abbrev pub unsigned_suffix : List (List ℕ)
unsigned_suffix = codes "u" ∷ codes "U" ∷ []

abbrev pub long_suffix : List (List ℕ)
long_suffix = codes "l" ∷ codes "L" ∷ []

abbrev pub long_long_suffix : List (List ℕ)
long_long_suffix = codes "ll" ∷ codes "LL" ∷ []

abbrev pub unsigned_long_suffix : List (List ℕ)
unsigned_long_suffix = codes "ul" ∷ codes "lu" ∷ codes "uL" ∷ codes "Lu" ∷ codes "Ul" ∷ codes "lU" ∷ codes "UL"
    ∷ codes "LU" ∷ []

abbrev pub unsigned_long_long_suffix : List (List ℕ)
unsigned_long_long_suffix =
    codes "ull" ∷ codes "llu" ∷ codes "uLL" ∷ codes "LLu" ∷ codes "Ull" ∷ codes "llU" ∷ codes "ULL" ∷ codes "LLU" ∷ []

-- what a suffix says: whether the constant is unsigned, and how many longs it has
unfoldable pub suffix_at : List ℕ → Option (Bool × ℕ)
suffix_at suffix =
    if is_among no_suffix suffix then Some (false, 0)
    else (if is_among unsigned_suffix suffix then Some (true, 0)
    else (if is_among long_suffix suffix then Some (false, 1)
    else (if is_among long_long_suffix suffix then Some (false, 2)
    else (if is_among unsigned_long_suffix suffix then Some (true, 1)
    else (if is_among unsigned_long_long_suffix suffix then Some (true, 2)
    else None)))))

-- a numeric escape sequence with some bytes before its digits: its value, which is a byte's, and its length
abbrev pub numeric_at : ℕ → List ℕ → ℕ → Option (ℕ × ℕ)
numeric_at base digits before =
    if nat_lt 0 (length digits) && nat_le (value_of base digits) 255
    then Some (value_of base digits, before + length digits) else None

abbrev pub octal_digits : List ℕ → List ℕ
octal_digits bytes = take 3 (leading_digits 8 bytes)

-- an escape sequence with no octal digit, behind its backslash
unfoldable pub other_escape_at : List ℕ → Option (ℕ × ℕ)
other_escape_at [] = None
other_escape_at (b ∷ bs) =
    if b == byte "x" then numeric_at 16 (leading_digits 16 bs) 1 else option_map (λ value. (value, 1)) (simple_escape b)

-- the escape sequence at the front, behind its backslash: its value and its length
unfoldable pub escape_at : List ℕ → Option (ℕ × ℕ)
escape_at bytes = if nat_lt 0 (length (octal_digits bytes)) then numeric_at 8 (octal_digits bytes) 0
    else other_escape_at bytes

-- the character at the front, behind an opening quote: its value and its length
unfoldable pub character_at : ℕ → List ℕ → Option (ℕ × ℕ)
character_at quote [] = None
character_at quote (b ∷ bs) =
    if b == byte "\\" then option_map (λ found. (found.0, found.1 + 1)) (escape_at bs)
    else (if b == quote || b == line_feed then None else Some (b, 1))

-- a byte that stands for itself between double quotes
abbrev pub is_plain : ℕ → Bool
is_plain b = not (b == byte "\\" || b == byte "\"" || b == line_feed)
