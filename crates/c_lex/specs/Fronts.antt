-- The tokens of one kind that some bytes begin with.
use Rattle.std.specs.Prelude.{ℕ, ◌≤◌, Bool, ◌||◌, if◌then◌else◌, ◌==◌, List, [], ◌∷◌, length, take, Option, MatchOption}
use Rattle.std.specs.Prelude.{IsTrue, IsFalse}
use Rattle.std.specs.Str.{byte}
use Rattle.ck_base.specs.declared.tokens.TokenKind.{TokenKind}
use Rattle.ck_base.specs.declared.tokens.TokenKind.TheVariants.{Word, Number, Char, Text, Punct}
use Rattle.ck_base.specs.Tokens.{is_nondigit, starts_number, is_quoted, has_form}

-- the only kind whose tokens may begin as the bytes do, except that a dot may be a punctuator before a digit
unfoldable pub beginning : List ℕ → TokenKind
beginning [] = Punct
beginning (b ∷ bs) =
    if is_nondigit b then Word
    else (if starts_number (b ∷ bs) then Number
    else (if b == byte "'" then Char
    else (if b == byte "\"" then Text
    else Punct)))

-- the first n bytes have the form of the kind, and no longer front has it
pub record IsLongestOf (kind : TokenKind) (bytes : List ℕ) (n : ℕ) : Type 0 where
  pub within : n ≤ length bytes
  pub form : IsTrue (has_form kind (take n bytes))
  pub longest : (m : ℕ) → m ≤ length bytes → IsTrue (has_form kind (take m bytes)) → m ≤ n

abbrev pub HasNone : TokenKind → List ℕ → Type 0
HasNone kind bytes = (n : ℕ) → n ≤ length bytes → IsFalse (has_form kind (take n bytes))

-- the length of the longest front of the kind, or None
abbrev pub MeasuresFront : TokenKind → List ℕ → Option ℕ → Type 0
MeasuresFront kind bytes found = MatchOption found (HasNone kind bytes) (IsLongestOf kind bytes)

-- the length of the front that is quoted, or None
abbrev pub MeasuresQuoted : ℕ → List ℕ → Option ℕ → Type 0
MeasuresQuoted quote bytes found =
    MatchOption found
    ((n : ℕ) → n ≤ length bytes → IsFalse (is_quoted quote (take n bytes)))
    (λ n. (n ≤ length bytes) × IsTrue (is_quoted quote (take n bytes)))

-- the bytes that begin a text which is left out
unfoldable pub begins_left_out : ℕ → Bool
begins_left_out b =
    b == byte "." || (b == byte "_" || (b == byte "a" || (b == byte "d" || (b == byte "f" || (b == byte "g"
    || b == byte "t")))))
