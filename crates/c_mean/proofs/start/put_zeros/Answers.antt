use Rattle.std.proofs.Common.{◌∙◌, arith}
use Rattle.c_mean.proofs.Started.{zero_more}
use Rattle.c_mean.proofs.start.put_zeros.Goals as goal

pub loop-at-preserved : goal.loop-at-preserved
loop-at-preserved g c =
    let same = c.loop-at.invariant.same in
    record {
      same = c.write.ensures.same ∙ same;
      left = c.loop-at.invariant.left
          ∙ zero_more (g.B.Operations.meaning c.args.m.now) _ _ c.args.object c.loop-at.at c.args.to (omega arith)
          (rw same at c.write.ensures.did);
    }
