use Rattle.ordered_programs.proofs.Marking.{marks_then}
use Rattle.ordered_programs.proofs.marks.mark_two.Goals as goal

pub returns : goal.returns
returns c = λ e. marks_then c.args.limit c.args.marks.now.items c.mark.new.marks.items c.mark-2.new.marks.items _ _
    (c.mark.ensures c.if-not-mark.false) (c.mark-2.ensures e)
