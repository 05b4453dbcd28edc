use Rattle.ordered_programs.proofs.Marking.{marks_then}
use Rattle.ordered_programs.proofs.statements.mark_maybes.Goals as goal

pub returns : goal.returns
returns c = λ e. marks_then c.args.limit c.args.marks.now.items c.mark_maybe.new.marks.items
    c.mark_maybe-2.new.marks.items _ _ (c.mark_maybe.ensures c.if-not-mark_maybe.false) (c.mark_maybe-2.ensures e)
