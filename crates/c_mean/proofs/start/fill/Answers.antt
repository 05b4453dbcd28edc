use Rattle.c_mean.proofs.Started.{filled}
use Rattle.c_mean.proofs.start.fill.Goals as goal

pub returns-clause-did : goal.returns-clause-did
returns-clause-did g c =
    filled (g.B.Operations.meaning c.args.m.now) c.args.p.now c.args.g.now c.args.object _ _ _ _ _ _
    c.as_slice.ensures c.as_slice-2.ensures c.size_of.ensures.is c.put_bytes.ensures.did
    (rw c.put_bytes.ensures.same at c.put_zeros.ensures.did)
