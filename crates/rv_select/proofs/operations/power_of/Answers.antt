use Rattle.std.proofs.Common.{arith}
use Rattle.rv_select.proofs.Planned.{doubled}
use Rattle.rv_select.proofs.operations.power_of.Goals as goal

pub loop-k-preserved : goal.loop-k-preserved
loop-k-preserved c =
    let l = c.loop-k in
    record { power = doubled l.power l.k l.invariant.power (omega arith); few = omega arith }
