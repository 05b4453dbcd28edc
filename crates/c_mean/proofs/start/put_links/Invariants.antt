use Rattle.std.proofs.Common.{◌≡◌, drop}
use Rattle.std.specs.Prelude.{map}
use Rattle.cheri_c_sem.specs.Calls.{with_links}
use Rattle.c_mean.specs.Starting.{starting}
use Rattle.c_mean.proofs.start.put_links.Given as goal

abbrev pub invariant-loop-link : goal.invariant-loop-link
invariant-loop-link g l =
    let ops = g.B.Operations.meaning l.fn.m in
    record {
      same : g.B.Operations.meaning l.m ≡ ops;
      left : with_links ops (g.B.Operations.held l.fn.m) l.object (map (starting l.p) l.links)
          ≡ with_links ops (g.B.Operations.held l.m) l.object (map (starting l.p) (drop l.link-index l.links));
    }
