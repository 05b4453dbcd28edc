-- What stands at a place of a file, as the reader finds it.
use Rattle.std.specs.Prelude.{◌≡◌, ℕ, ◌≤◌, not, ◌&&◌, ◌||◌, Bool, List, [], length, take, drop, codes, IsTrue, IsFalse}
use Rattle.ck_base.specs.declared.tokens.TokenKind.{TokenKind}
use Rattle.ck_base.specs.Tokens.{is_among, left_out}
use Rattle.std.specs.Prelude.{false, ◌∷◌}
use Rattle.std.specs.List.{list_all}
use Rattle.ck_base.specs.Lexes.{position_after, begins_line, begins_with, NeverCloses, BeginsWithComment}
use Rattle.ck_base.specs.Lexes.{is_space, is_line_feed}
use Rattle.ck_base.specs.Lexes.{starts_comment, is_marker, is_pragma, is_pack, begins_skipped, begins_pack, Separates}
use Rattle.ck_base.specs.Lexes.{IsAccepted, BeginsWithToken, is_literal, Breaks}
use Rattle.c_lex.specs.declared.separators.Comment.{Comment}
use Rattle.c_lex.specs.declared.separators.Comment.TheVariants as comment
use Rattle.c_lex.specs.declared.separators.Directive.{Directive}
use Rattle.c_lex.specs.declared.separators.Directive.TheVariants as directive
use Rattle.c_lex.specs.declared.places.Place.{Place}
use Rattle.c_lex.specs.declared.pieces.Found.{Found}
use Rattle.c_lex.specs.declared.pieces.Found.TheVariants as found
use Rattle.c_lex.specs.declared.pieces.Piece.{Piece}
use Rattle.c_lex.specs.declared.pieces.Piece.TheVariants as piece

-- what a comment at the front is
abbrev pub DescribesComment : List ℕ → Comment → Type 0
DescribesComment bytes (comment.Whole n) = BeginsWithComment bytes n
DescribesComment bytes comment.Unclosed = IsTrue (begins_with (codes "/*") bytes) × NeverCloses (drop 2 bytes)
DescribesComment bytes comment.Missing = IsFalse (starts_comment bytes)

-- what a directive is that is named so behind a `#`
abbrev pub DescribesNamed : List ℕ → Directive → Type 0
DescribesNamed bytes directive.Skipped = IsTrue (is_marker bytes || (is_pragma bytes && not (is_pack bytes)))
DescribesNamed bytes directive.Pack = IsTrue (is_pack bytes)
DescribesNamed bytes directive.Missing = IsFalse (is_marker bytes || is_pragma bytes)

-- what a directive line at the front is
abbrev pub DescribesDirective : List ℕ → Directive → Type 0
DescribesDirective bytes directive.Skipped = IsTrue (begins_skipped bytes)
DescribesDirective bytes directive.Pack = IsTrue (begins_pack bytes)
DescribesDirective bytes directive.Missing = IsFalse (begins_skipped bytes || begins_pack bytes)

-- the place behind some bytes
unfoldable pub place_behind : List ℕ → Place
place_behind bytes = record { at = length bytes; pos = position_after bytes; begins_line = begins_line bytes }

-- no line ends in the text, and its first byte is no space or tab
unfoldable pub goes_on : List ℕ → Bool
goes_on [] = false
goes_on (b ∷ bs) = not (is_space b) && list_all (λ c. not (is_line_feed c)) (b ∷ bs)

-- the place is one of the file
pub record IsPlaceOf (file : List ℕ) (place : Place) : Type 0 where
  pub within : place.at ≤ length file
  pub is : place ≡ place_behind (take place.at file)

-- why a text with the form of a token is none of the language
pub data Faults (kind : TokenKind) (text : List ℕ) : ℕ → Type 0 where
  literal : IsTrue (is_literal kind) → (IsAccepted kind text → ⊥) → Faults kind text 102
  word : IsTrue (is_among left_out text) → Faults kind text 103

-- what stands at the front of the bytes; `first` says that only spaces and tabs stand before them on their line
abbrev pub StandsFound : Bool → List ℕ → Found → Type 0
StandsFound first bytes found.End = bytes ≡ []
StandsFound first bytes (found.Token kind n) = BeginsWithToken bytes kind n
StandsFound first bytes (found.Refused code) = Breaks first bytes code

abbrev pub Stands : Bool → List ℕ → Piece → Type 0
Stands first bytes (piece.Separator n) = Separates first bytes n
Stands first bytes (piece.Other f) = StandsFound first bytes f
