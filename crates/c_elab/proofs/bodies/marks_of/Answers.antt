use Rattle.std.proofs.Common.{get_or, sym, ap, ◌∙◌}
use Rattle.c_elab.proofs.Marks.{one_marked}
use Rattle.c_elab.proofs.bodies.marks_of.Goals as goal

pub loop-k-preserved : goal.loop-k-preserved
loop-k-preserved c =
    let ks = c.args.work.now.addressed.items in
    let js = c.as_slice-k-items.result.now in
    let i = c.loop-k.k-index in
    record {
      marks = one_marked ks i (get_or js i 0) 0 c.loop-k.marks.items c.mark.new.marks.items
          (rw c.as_slice-k-items.ensures.value at c.loop-k-test.true)
          (ap (λ xs. get_or xs i 0) (sym c.as_slice-k-items.ensures.value)) c.mark.ensures.marks
          c.loop-k.invariant.marks;
      count = c.mark.ensures.count ∙ c.loop-k.invariant.count;
    }
