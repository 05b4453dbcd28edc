use Rattle.ordered_programs.proofs.Marking.{marks_then}
use Rattle.ordered_programs.proofs.expressions.mark_three.Goals as goal

pub returns : goal.returns
returns c = λ e. marks_then c.args.limit c.args.marks.now.items c.mark.new.marks.items c.mark_two.new.marks.items _ _
    (c.mark.ensures c.if-not-mark.false) (c.mark_two.ensures e)
