-- A file without markers.
use Rattle.std.specs.Prelude.{◌≡◌, ℕ, List, None}
use Rattle.std.specs.List.{All, slice_split}
use Rattle.ck_base.specs.Lexes.{is_line_feed}
use Rattle.line_marks.specs.Marks.{directive_of}

-- no line begins with `#`, as none does of the empty file
abbrev pub LacksDirectives : List ℕ → Type 0
LacksDirectives file = All (λ line. directive_of line ≡ None) (slice_split is_line_feed file)
