-- The tokens of C (C11 6.4), narrowed to the language that is compiled: the forms of their texts, which are lists of
-- bytes.
use Rattle.std.specs.Prelude.{ℕ, Bool, false, not, ◌&&◌, ◌||◌, if◌then◌else◌, ◌==◌, List, [], ◌∷◌, bytes_eq, codes}
use Rattle.std.specs.Char.{is_ascii_alphabetic, is_ascii_digit}
use Rattle.std.specs.List.{list_any, list_all}
use Rattle.std.specs.Str.{byte}
use Rattle.ck_base.specs.declared.positions.Pos.{Pos}
use Rattle.ck_base.specs.declared.positions.Span.{Span}
use Rattle.ck_base.specs.declared.tokens.TokenKind.{TokenKind}
use Rattle.ck_base.specs.declared.tokens.TokenKind.TheVariants.{Word, Number, Char, Text, Punct}

-- A token of a file: its kind, its bytes, and where they stand.
pub record Lexeme : Type 0 where
  pub kind : TokenKind
  pub text : List ℕ
  pub span : Span
  pub pos : Pos

-- whether a text is in a table
abbrev pub is_among : List (List ℕ) → List ℕ → Bool
is_among table text = list_any (λ entry. bytes_eq entry text) table

-- 6.4.2.1: a nondigit is a letter or `_`.
unfoldable pub is_nondigit : ℕ → Bool
is_nondigit b = is_ascii_alphabetic b || b == byte "_"

unfoldable pub is_word_byte : ℕ → Bool
is_word_byte b = is_nondigit b || is_ascii_digit b

-- 6.4.1, 6.4.2: an identifier or a keyword is a nondigit, and then nondigits and digits.
unfoldable pub is_word : List ℕ → Bool
is_word [] = false
is_word (b ∷ bs) = is_nondigit b && list_all is_word_byte bs

unfoldable pub is_number_byte : ℕ → Bool
is_number_byte b = is_word_byte b || b == byte "."

abbrev pub starts_digit : List ℕ → Bool
starts_digit [] = false
starts_digit (b ∷ bs) = is_ascii_digit b

-- a digit, or a dot and a digit
unfoldable pub starts_number : List ℕ → Bool
starts_number [] = false
starts_number (b ∷ bs) = is_ascii_digit b || (b == byte "." && starts_digit bs)

-- 6.4.8: a preprocessing number starts so, and goes on with letters, `_`, digits and dots. The signs of exponents are
-- no part of it here.
unfoldable pub is_number : List ℕ → Bool
is_number text = starts_number text && list_all is_number_byte text

abbrev pub line_feed : ℕ
line_feed = 10

-- What stands behind an opening quote: bytes other than line feeds, up to the first quote with no backslash before it,
-- which is the last byte. A backslash takes the byte behind it along; `escaped` says that one stands directly before.
abbrev pub closes : ℕ → Bool → List ℕ → Bool
closes quote escaped [] = false
closes quote escaped (b ∷ bs) =
    not (b == line_feed) && (if escaped then closes quote false bs
    else (if b == quote then bytes_eq bs [] else closes quote (b == byte "\\") bs))

-- 6.4.4.4, 6.4.5: a quote, and what closes it. Literals.antt says what may stand between.
unfoldable pub is_quoted : ℕ → List ℕ → Bool
is_quoted quote [] = false
is_quoted quote (b ∷ bs) = b == quote && closes quote false bs

-- 6.4.6: the punctuators, without `#`, `##` and the digraphs.
unfoldable pub punctuators : List (List ℕ)
punctuators =
    codes "[" ∷ codes "]" ∷ codes "(" ∷ codes ")" ∷ codes "{" ∷ codes "}" ∷ codes "." ∷ codes "->"
    ∷ codes "++" ∷ codes "--" ∷ codes "&" ∷ codes "*" ∷ codes "+" ∷ codes "-" ∷ codes "~" ∷ codes "!"
    ∷ codes "/" ∷ codes "%" ∷ codes "<<" ∷ codes ">>" ∷ codes "<" ∷ codes ">" ∷ codes "<=" ∷ codes ">=" ∷ codes "=="
    ∷ codes "!=" ∷ codes "^" ∷ codes "|" ∷ codes "&&" ∷ codes "||"
    ∷ codes "?" ∷ codes ":" ∷ codes ";" ∷ codes "..."
    ∷ codes "=" ∷ codes "*=" ∷ codes "/=" ∷ codes "%=" ∷ codes "+=" ∷ codes "-=" ∷ codes "<<=" ∷ codes ">>="
    ∷ codes "&=" ∷ codes "^=" ∷ codes "|=" ∷ codes "," ∷ []

-- whether a text has the form of a token of this kind
unfoldable pub has_form : TokenKind → List ℕ → Bool
has_form Word text = is_word text
has_form Number text = is_number text
has_form Char text = is_quoted (byte "'") text
has_form Text text = is_quoted (byte "\"") text
has_form Punct text = is_among punctuators text

-- 6.4.1: the keywords of the language, with `__intcap_t`, `__uintcap_t` and the spellings `__restrict` and `__inline`
-- of `restrict` and `inline`.
unfoldable pub keywords : List (List ℕ)
keywords =
    codes "auto" ∷ codes "break" ∷ codes "case" ∷ codes "char" ∷ codes "const" ∷ codes "continue" ∷ codes "default"
    ∷ codes "do"
    ∷ codes "else" ∷ codes "enum" ∷ codes "extern" ∷ codes "for" ∷ codes "if" ∷ codes "inline" ∷ codes "int"
    ∷ codes "long"
    ∷ codes "register" ∷ codes "restrict" ∷ codes "return" ∷ codes "short" ∷ codes "signed" ∷ codes "sizeof"
    ∷ codes "static"
    ∷ codes "struct" ∷ codes "switch" ∷ codes "typedef" ∷ codes "union" ∷ codes "unsigned" ∷ codes "void"
    ∷ codes "volatile"
    ∷ codes "while" ∷ codes "_Bool" ∷ codes "__intcap_t" ∷ codes "__uintcap_t" ∷ codes "__restrict" ∷ codes "__inline"
    ∷ []

-- Words and a punctuator of C and of its extensions that the language leaves out.
unfoldable pub left_out : List (List ℕ)
left_out =
    codes "float" ∷ codes "double" ∷ codes "_Complex" ∷ codes "_Imaginary" ∷ codes "goto" ∷ codes "asm" ∷ codes "__asm"
    ∷ codes "__asm__" ∷ codes "_Atomic" ∷ codes "_Generic" ∷ codes "_Alignas" ∷ codes "_Alignof" ∷ codes "_Noreturn"
    ∷ codes "_Static_assert" ∷ codes "_Thread_local" ∷ codes "__attribute" ∷ codes "__attribute__"
    ∷ codes "__extension__"
    ∷ codes "typeof" ∷ codes "__typeof__" ∷ codes "__int128" ∷ codes "__builtin_va_list" ∷ codes "__builtin_offsetof"
    ∷ codes "..." ∷ []
