use Rattle.std.proofs.Common.{◌≡◌, ◌+◌, drop, false}
use Rattle.line_marks.specs.Marks.{quote_at}
use Rattle.line_marks.proofs.markers.quote_at.Given as goal

abbrev pub invariant-loop-i : goal.invariant-loop-i
invariant-loop-i l = quote_at false l.bytes ≡ l.i + quote_at l.escaped (drop l.i l.bytes)
