use Rattle.std.proofs.Common.{◌<◌, length, Some, sym, ap, ◌∙◌, arith}
use Rattle.std.proofs.lemmas.Option.{slice_get-get_or}
use Rattle.mean_run.proofs.Counts.{listed_more}
use Rattle.mean_run.proofs.locals.Locals.new.Goals as goal

pub funs-preserved : goal.funs-preserved
funs-preserved c =
    let funs = c.args.p.now.funs in
    let d = c.f-item.result in
    let l : c.funs.f-index < length c.as_slice-f-items.result.now = omega arith in
    let below = rw c.as_slice-f-items.ensures at l in
    let e = rw c.as_slice-f-items.ensures at c.f-item.is in
    rw c.in_ok-push.ensures.items (listed_more funs c.funs.counts.items c.funs.f-index _ d c.funs.invariant
    (slice_get-get_or funs c.funs.f-index d below ∙ ap Some (sym e))
    (rw c.as_slice.ensures at c.in_ok-counts_of.ensures))
