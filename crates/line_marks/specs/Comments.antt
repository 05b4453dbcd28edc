-- Where a block comment is open, line by line (C11 6.4.4.4, 6.4.5, 6.4.9).
use Rattle.std.specs.Prelude.{ℕ, Bool, true, false, if◌then◌else◌, ◌==◌, List, fold}
use Rattle.std.specs.Str.{byte}
use Rattle.ck_base.specs.Lexes.{is_quote}
use Rattle.line_marks.specs.declared.comments.Inside.{Inside}
use Rattle.line_marks.specs.declared.comments.Inside.TheVariants.{Code, Slash, Rest, Comment, Star, Quoted, Escaped}

-- what a byte of code leads into
abbrev pub from_code : ℕ → Inside
from_code b = if b == byte "/" then Slash else if is_quote b then Quoted b else Code

-- what one more byte of a line leads into
abbrev pub into : Inside → ℕ → Inside
into Code b = from_code b
into Slash b = if b == byte "/" then Rest else if b == byte "*" then Comment else from_code b
into Rest b = Rest
into Comment b = if b == byte "*" then Star else Comment
into Star b = if b == byte "/" then Code else if b == byte "*" then Star else Comment
into (Quoted quote) b = if b == quote then Code else if b == byte "\\" then Escaped quote else Quoted quote
into (Escaped quote) b = Quoted quote

-- only a block comment goes on behind the end of a line
abbrev pub goes_on : Inside → Bool
goes_on Comment = true
goes_on Star = true
goes_on other = false

-- whether one is open behind a line, by whether one was open before it
abbrev pub leaves_open : Bool → List ℕ → Bool
leaves_open commented line = goes_on (fold into (if commented then Comment else Code) line)
