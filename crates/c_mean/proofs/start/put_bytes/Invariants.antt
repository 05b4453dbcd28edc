use Rattle.std.proofs.Common.{◌≡◌, drop}
use Rattle.cheri_c_sem.specs.Calls.{with_bytes}
use Rattle.c_mean.proofs.start.put_bytes.Given as goal

abbrev pub invariant-loop-at : goal.invariant-loop-at
invariant-loop-at g l =
    let ops = g.B.Operations.meaning l.fn.m in
    record {
      same : g.B.Operations.meaning l.m ≡ ops;
      left : with_bytes ops (g.B.Operations.held l.fn.m) l.object 0 l.bytes
          ≡ with_bytes ops (g.B.Operations.held l.m) l.object l.at (drop l.at l.bytes);
    }
