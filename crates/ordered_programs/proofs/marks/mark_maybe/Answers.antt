use Rattle.ordered_programs.proofs.Marking.{marks_none}
use Rattle.ordered_programs.proofs.marks.mark_maybe.Goals as goal

pub returns-in-None : goal.returns-in-None
returns-in-None c = λ e. rw c.in-None.is (marks_none c.args.limit c.args.marks.now.items)
