use Rattle.ordered_programs.proofs.Marking.{marks_then}
use Rattle.ordered_programs.proofs.statements.mark_to.Goals as goal

pub returns : goal.returns
returns c = λ e. marks_then c.args.limit c.args.marks.now.items c.mark_all.new.marks.items c.mark.new.marks.items _ _
    (c.mark_all.ensures c.if-not-mark_all.false) (c.mark.ensures e)
