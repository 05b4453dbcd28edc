use Rattle.std.proofs.Common.{subst}
use Rattle.std.proofs.lemmas.List.{take_more, take_all}
use Rattle.ordered_programs.specs.Uses.{Marks}
use Rattle.ordered_programs.proofs.Marking.{marks_none, marks_then}
use Rattle.ordered_programs.proofs.marks.mark_all.Goals as goal

pub loop-k-init : goal.loop-k-init
loop-k-init c = marks_none c.args.limit c.args.marks.now.items

pub loop-k-preserved : goal.loop-k-preserved
loop-k-preserved c =
    rw (take_more c.args.ks.now c.loop-k.k-index 0 c.loop-k-test.true)
    (marks_then c.args.limit c.args.marks.now.items c.loop-k.marks.items c.mark.new.marks.items _ _
    c.loop-k.invariant (c.mark.ensures c.if-not-mark.false))

pub returns : goal.returns
returns c = λ e.
    subst (Marks c.args.limit c.args.marks.now.items c.loop-k.marks.items)
    (take_all c.loop-k.k-index c.args.ks.now c.loop-k-test.false) c.loop-k.invariant
