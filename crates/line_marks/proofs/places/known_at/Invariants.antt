use Rattle.std.proofs.Common.{◌≡◌, ◌-◌, take}
use Rattle.std.specs.Prelude.{fold}
use Rattle.std.specs.List.{slice_split}
use Rattle.ck_base.specs.Lexes.{is_line_feed}
use Rattle.line_marks.specs.Marks.{behind, known_at}
use Rattle.line_marks.specs.Known.{known_of}
use Rattle.line_marks.proofs.places.known_at.Given as goal

-- what is known, and the lines that are left, give what is known before the line
abbrev pub invariant-loop-n : goal.invariant-loop-n
invariant-loop-n l = record {
  counted : l.known.line ≡ l._n;
  same : fold behind (known_of l.known) (take (l.line - l._n) (slice_split is_line_feed l.rest))
      ≡ known_at l.file l.line;
}
