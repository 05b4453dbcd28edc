-- Line markers, and the places that they give: `#line N "NAME"` (C11 6.10.4), and `# N "NAME" FLAGS`, as gcc's
-- preprocessor writes it (The C Preprocessor, "Preprocessor Output").
--
-- A marker is a directive line: its first byte other than space and tab is `#`, and no block comment is open before it.
-- Those are the lines that the rules of tokens skip (`begins_skipped` of `Lexes`): a literal ends on its line there,
-- and behind a `#` no comment begins. Of a file that is refused, the lines up to the refusal agree. A skipped line that
-- is no marker has no effect: a `#pragma`, `#line` without a number, a number of 2^32 or more. Zero is a number: gcc
-- writes it. What stands behind the name, or in place of it, is not read: flags, a carriage return, a name that is not
-- closed on the line.
use Rattle.std.specs.Prelude.{ℕ, ◌+◌, ◌-◌, ◌^◌, Bool, true, false, not, ◌&&◌, if◌then◌else◌, ◌==◌, List, [], ◌∷◌, codes}
use Rattle.std.specs.Prelude.{length, take, fold, nat_lt, bytes_eq, Option, Some, None}
use Rattle.std.specs.List.{slice_split}
use Rattle.std.specs.Str.{byte}
use Rattle.ck_base.specs.Lexes.{is_line_feed, behind_spaces, next_word, behind_word}
use Rattle.ck_base.specs.Literals.{are_digits, value_of}
use Rattle.ck_base.specs.declared.positions.Pos.{Pos}
use Rattle.line_marks.specs.Comments.{leaves_open}

-- ---- a directive line

-- what stands behind the `#` that begins a line
abbrev pub behind_hash : List ℕ → Option (List ℕ)
behind_hash [] = None
behind_hash (b ∷ bs) = if b == byte "#" then Some bs else None

abbrev pub directive_of : List ℕ → Option (List ℕ)
directive_of line = behind_hash (behind_spaces line)

-- from the number of a marker on
abbrev pub from_number : List ℕ → List ℕ
from_number bytes = if bytes_eq (next_word bytes) (codes "line") then behind_word bytes else bytes

-- the number that a word writes
abbrev pub number_of : List ℕ → Option ℕ
number_of word =
    if are_digits 10 word && nat_lt (value_of 10 word) (2 ^ 32) then Some (value_of 10 word) else None

-- how many bytes stand before the first quote that no backslash takes along
abbrev pub quote_at : Bool → List ℕ → ℕ
quote_at escaped [] = 0
quote_at escaped (b ∷ bs) =
    if not escaped && b == byte "\"" then 0 else 1 + quote_at (not escaped && b == byte "\\") bs

-- the name behind an opening quote, as it is written; or the one in force, where no quote closes it
abbrev pub closed_name : List ℕ → List ℕ → List ℕ
closed_name kept bytes =
    if nat_lt (quote_at false bytes) (length bytes) then take (quote_at false bytes) bytes else kept

abbrev pub name_at : List ℕ → List ℕ → List ℕ
name_at kept [] = kept
name_at kept (b ∷ bs) = if b == byte "\"" then closed_name kept bs else kept

-- ---- a whole file

-- What is known before a line of the bytes: whether a block comment is open; which line of the bytes it is; which one
-- stands behind the last marker, and the number that this gives it; and the name in force, an empty one being none.
pub record Known : Type 0 where
  pub commented : Bool
  pub line : ℕ
  pub from : ℕ
  pub number : ℕ
  pub name : List ℕ

abbrev pub first : Known
first = record { commented = false; line = 1; from = 0; number = 0; name = [] }

abbrev pub passed : Known → Bool → Known
passed k commented =
    record { commented = commented; line = k.line + 1; from = k.from; number = k.number; name = k.name }

abbrev pub behind_marker : Known → ℕ → List ℕ → Known
behind_marker k number name =
    record { commented = false; line = k.line + 1; from = k.line + 1; number = number; name = name }

-- behind a directive line, by what stands in it from its number on
abbrev pub numbered : Known → List ℕ → Option ℕ → Known
numbered k bytes None = passed k false
numbered k bytes (Some n) = behind_marker k n (name_at k.name (behind_spaces (behind_word bytes)))

abbrev pub directed : Known → List ℕ → Option (List ℕ) → Known
directed k line None = passed k (leaves_open false line)
directed k line (Some bytes) = numbered k (from_number bytes) (number_of (next_word (from_number bytes)))

-- behind one more line
abbrev pub behind : Known → List ℕ → Known
behind k line = if k.commented then passed k (leaves_open true line) else directed k line (directive_of line)

-- before a line of a file
abbrev pub known_at : List ℕ → ℕ → Known
known_at file line = fold behind first (take (line - 1) (slice_split is_line_feed file))

-- ---- places

pub record Place : Type 0 where
  pub name : List ℕ
  pub line : ℕ
  pub col : ℕ

-- by the last marker before the line: the line behind it has its number
abbrev pub place_by : Known → Pos → Place
place_by k pos = record { name = k.name; line = k.number + (pos.line - k.from); col = pos.col }

-- the marked place of a position
abbrev pub marked : List ℕ → Pos → Place
marked file pos = place_by (known_at file pos.line) pos
