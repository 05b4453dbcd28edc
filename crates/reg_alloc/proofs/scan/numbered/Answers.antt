use Rattle.std.proofs.Common.{◌∙◌, arith}
use Rattle.reg_alloc.proofs.Numbered.{entries_more}
use Rattle.reg_alloc.proofs.scan.numbered.Goals as goal

pub loop-index-preserved : goal.loop-index-preserved
loop-index-preserved c = c.in_ok-push.ensures.items
    ∙ entries_more c.args.live.now c.loop-index.index (record { first = 0; last = 0 }) _
    (omega arith) c.loop-index.invariant
