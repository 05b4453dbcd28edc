-- How a file is cut into tokens (C11 6.4, 5.1.1.2), and the first place that breaks the rules. A file is a list of
-- bytes; places in it count from 0.
use Rattle.std.specs.Prelude.{◌≡◌, ℕ, ◌+◌, ◌-◌, ◌<◌, ◌≤◌, Bool, true, false, not, ◌&&◌, ◌||◌, ◌==◌, List, [], ◌∷◌}
use Rattle.std.specs.Prelude.{length, take, drop, count_by, take_while, bytes_eq, codes, slice_range, IsTrue, IsFalse}
use Rattle.std.specs.Int.{is_in_range}
use Rattle.std.specs.List.{list_all, prefix_len, position_or_len, after_last, starts_with}
use Rattle.std.specs.Prelude.{nat_eq}
use Rattle.std.specs.Str.{byte}
use Rattle.ck_base.specs.declared.positions.Pos.{Pos}
use Rattle.ck_base.specs.declared.tokens.Integer.{Integer}
use Rattle.ck_base.specs.declared.tokens.TokenKind.{TokenKind}
use Rattle.ck_base.specs.declared.tokens.TokenKind.TheVariants.{Word, Number, Char, Text, Punct}
use Rattle.ck_base.specs.Tokens.{Lexeme, is_among, is_word_byte, line_feed, has_form, left_out}
use Rattle.ck_base.specs.Literals.{are_digits, IsInteger, IsCharacter, IsString}

-- Lines, columns and blanks

abbrev pub is_line_feed : ℕ → Bool
is_line_feed b = b == line_feed

-- what stands on the last line of some bytes
abbrev pub last_line : List ℕ → List ℕ
last_line bytes = after_last is_line_feed bytes

-- the position behind some bytes: lines and columns count from 1, in bytes, and only a line feed ends a line
unfoldable pub position_after : List ℕ → Pos
position_after bytes = record { line = count_by is_line_feed bytes + 1; col = length (last_line bytes) + 1 }

-- how many bytes stand before the end of the line, or of the file
abbrev pub line_length : List ℕ → ℕ
line_length bytes = position_or_len is_line_feed bytes

-- a space or a tab
unfoldable pub is_space : ℕ → Bool
is_space b = b == byte " " || b == byte "\t"

-- 6.4p3: white space is a space, or one of the bytes 9 to 13: tab, line feed, vertical tab, form feed, carriage return.
unfoldable pub is_blank : ℕ → Bool
is_blank b = b == byte " " || is_in_range 9 13 b

abbrev pub begins_with : List ℕ → List ℕ → Bool
begins_with text bytes = starts_with nat_eq bytes text

-- Comments (6.4.9)

-- the first `*/` stands behind n bytes
pub record ClosesBehind (bytes : List ℕ) (n : ℕ) : Type 0 where
  pub here : IsTrue (begins_with (codes "*/") (drop n bytes))
  pub first : (k : ℕ) → k < n → IsFalse (begins_with (codes "*/") (drop k bytes))

-- there is no `*/`
abbrev pub NeverCloses : List ℕ → Type 0
NeverCloses bytes = (n : ℕ) → IsFalse (begins_with (codes "*/") (drop n bytes))

-- The bytes begin with a comment of n bytes: `//` and the rest of the line, or `/*` up to the first `*/` behind it.
pub data BeginsWithComment (bytes : List ℕ) : ℕ → Type 0 where
  line : IsTrue (begins_with (codes "//") bytes) → BeginsWithComment bytes (line_length bytes)
  block : {n : ℕ} → IsTrue (begins_with (codes "/*") bytes) → ClosesBehind (drop 2 bytes) n →
      BeginsWithComment bytes (n + 4)

abbrev pub starts_comment : List ℕ → Bool
starts_comment bytes = begins_with (codes "//") bytes || begins_with (codes "/*") bytes

-- Directive lines, as a preprocessor leaves them (6.10.4, 6.10.6)

-- whether a byte behind these bytes is the first of its line other than space and tab
unfoldable pub begins_line : List ℕ → Bool
begins_line bytes = list_all is_space (last_line bytes)

-- behind spaces and tabs, the longest run of letters, `_` and digits
abbrev pub behind_spaces : List ℕ → List ℕ
behind_spaces bytes = drop (prefix_len is_space bytes) bytes

abbrev pub next_word : List ℕ → List ℕ
next_word bytes = take_while is_word_byte (behind_spaces bytes)

-- and what stands behind that
abbrev pub behind_word : List ℕ → List ℕ
behind_word bytes = drop (prefix_len is_word_byte (behind_spaces bytes)) (behind_spaces bytes)

-- what may stand behind a `#`: a line marker, which is `line` or a decimal number; `pragma`; and `pragma pack`
abbrev pub is_marker : List ℕ → Bool
is_marker bytes = bytes_eq (next_word bytes) (codes "line") || are_digits 10 (next_word bytes)

abbrev pub is_pragma : List ℕ → Bool
is_pragma bytes = bytes_eq (next_word bytes) (codes "pragma")

abbrev pub is_pack : List ℕ → Bool
is_pack bytes = is_pragma bytes && bytes_eq (next_word (behind_word bytes)) (codes "pack")

-- a directive line that is skipped, and one that is refused
unfoldable pub begins_skipped : List ℕ → Bool
begins_skipped [] = false
begins_skipped (b ∷ bs) = b == byte "#" && (is_marker bs || (is_pragma bs && not (is_pack bs)))

unfoldable pub begins_pack : List ℕ → Bool
begins_pack [] = false
begins_pack (b ∷ bs) = b == byte "#" && is_pack bs

-- What separates tokens

-- n bytes at the front of the bytes are a whole blank, comment or skipped directive line. `first` says that only spaces
-- and tabs stand before them on their line.
pub data Separates (first : Bool) (bytes : List ℕ) : ℕ → Type 0 where
  blank : (b : ℕ) (rest : List ℕ) → bytes ≡ b ∷ rest → IsTrue (is_blank b) → Separates first bytes 1
  comment : {n : ℕ} → BeginsWithComment bytes n → Separates first bytes n
  directive : IsTrue first → IsTrue (begins_skipped bytes) → Separates first bytes (line_length bytes)

-- from one place of a file to another there are only separators
pub data Gap (file : List ℕ) : ℕ → ℕ → Type 0 where
  none : {i : ℕ} → Gap file i i
  more : {i n k : ℕ} → Separates (begins_line (take i file)) (drop i file) n → Gap file (i + n) k → Gap file i k

-- Tokens

-- 6.4p4: the first n bytes have the form of a token of this kind, and no longer front has the form of any token
pub record IsLongest (bytes : List ℕ) (kind : TokenKind) (n : ℕ) : Type 0 where
  pub within : n ≤ length bytes
  pub form : IsTrue (has_form kind (take n bytes))
  pub longest : (other : TokenKind) (m : ℕ) → m ≤ length bytes → IsTrue (has_form other (take m bytes)) → m ≤ n

-- no front has the form of a token
abbrev pub BeginsNoToken : List ℕ → Type 0
BeginsNoToken bytes = (kind : TokenKind) (n : ℕ) → n ≤ length bytes → IsFalse (has_form kind (take n bytes))

-- a text of that form is a token of the language: its literals have values, and it is not left out
abbrev pub IsAccepted : TokenKind → List ℕ → Type 0
IsAccepted Word text = IsFalse (is_among left_out text)
IsAccepted Number text = (n : Integer) × IsInteger text n
IsAccepted Char text = (value : ℕ) × IsCharacter text value
IsAccepted Text text = (values : List ℕ) × IsString text values
IsAccepted Punct text = IsFalse (is_among left_out text)

-- The first n bytes are a token of this kind: the longest, where no comment begins, and one of the language.
pub record BeginsWithToken (bytes : List ℕ) (kind : TokenKind) (n : ℕ) : Type 0 where
  pub no_comment : IsFalse (starts_comment bytes)
  pub longest : IsLongest bytes kind n
  pub accepted : IsAccepted kind (take n bytes)

-- a token of a file, which stands at its span
pub record IsTokenOf (file : List ℕ) (token : Lexeme) : Type 0 where
  pub text : token.text ≡ slice_range file token.span.start token.span.end
  pub pos : token.pos ≡ position_after (take token.span.start file)
  pub begins : BeginsWithToken (drop token.span.start file) token.kind (token.span.end - token.span.start)

-- Refusals

abbrev pub is_quote : ℕ → Bool
is_quote b = b == byte "'" || b == byte "\""

abbrev pub is_literal : TokenKind → Bool
is_literal Number = true
is_literal Char = true
is_literal Text = true
is_literal _ = false

-- what breaks the rules at the front of the bytes, and its code
pub data Breaks (first : Bool) (bytes : List ℕ) : ℕ → Type 0 where
  -- a byte that begins no token, no separator, and no directive that has a refusal of its own
  stray : (b : ℕ) (rest : List ℕ) → bytes ≡ b ∷ rest → IsFalse (is_blank b) → IsFalse (is_quote b) →
      IsFalse (first && (begins_skipped bytes || begins_pack bytes)) → BeginsNoToken bytes → Breaks first bytes 100
  -- a quote or a comment that is not closed
  quote : (b : ℕ) (rest : List ℕ) → bytes ≡ b ∷ rest → IsTrue (is_quote b) → BeginsNoToken bytes →
      Breaks first bytes 101
  comment : IsTrue (begins_with (codes "/*") bytes) → NeverCloses (drop 2 bytes) → Breaks first bytes 101
  -- a literal that has no value
  literal : {kind : TokenKind} {n : ℕ} → IsLongest bytes kind n → IsTrue (is_literal kind) →
      (IsAccepted kind (take n bytes) → ⊥) → Breaks first bytes 102
  -- a word or punctuator that the language leaves out
  word : {kind : TokenKind} {n : ℕ} → IsLongest bytes kind n → IsTrue (is_among left_out (take n bytes)) →
      Breaks first bytes 103
  -- `#pragma pack`
  pack : IsTrue first → IsTrue (begins_pack bytes) → Breaks first bytes 104

-- A whole file

-- behind a place of the file, and behind separators alone, stands this token; what breaks the rules, with its code and
-- position; the end
abbrev pub NextToken : List ℕ → ℕ → Lexeme → Type 0
NextToken file i token = Gap file i token.span.start × IsTokenOf file token

abbrev pub NextRefusal : List ℕ → ℕ → ℕ → Pos → Type 0
NextRefusal file i code pos =
    (k : ℕ) × Gap file i k × Breaks (begins_line (take k file)) (drop k file) code ×
    (pos ≡ position_after (take k file))

abbrev pub NextEnd : List ℕ → ℕ → Type 0
NextEnd file i = Gap file i (length file)

-- the first tokens of the file, and the place where the last of them ends
abbrev pub Reads : List ℕ → ℕ → List Lexeme → ℕ → Type 0
Reads file i [] k = i ≡ k
Reads file i (token ∷ tokens) k = NextToken file i token × Reads file token.span.end tokens k

-- The file is these tokens, and separators before, between and behind them.
abbrev pub Lexes : List ℕ → List Lexeme → Type 0
Lexes file tokens = (k : ℕ) × Reads file 0 tokens k × NextEnd file k

-- The file is refused with this code at this position, which is the first place that breaks the rules.
abbrev pub Refuses : List ℕ → ℕ → Pos → Type 0
Refuses file code pos = (tokens : List Lexeme) × (k : ℕ) × Reads file 0 tokens k × NextRefusal file k code pos
