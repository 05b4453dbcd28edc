use Rattle.std.proofs.Common.{◌≡◌, take}
use Rattle.std.specs.Prelude.{fold, if◌then◌else◌}
use Rattle.line_marks.specs.Comments.{into}
use Rattle.line_marks.specs.declared.comments.Inside.TheVariants.{Code, Comment}
use Rattle.line_marks.proofs.comments.leaves_open.Given as goal

abbrev pub invariant-loop-b : goal.invariant-loop-b
invariant-loop-b l = l.inside ≡ fold into (if l.commented then Comment else Code) (take l.b-index l.line)
