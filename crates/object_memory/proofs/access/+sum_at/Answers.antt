use Rattle.std.proofs.Common.{◌<◌, arith}
use Rattle.object_memory.proofs.Sums.{sum_below, sum_within}
use Rattle.object_memory.proofs.access.+sum_at.Goals as goal

pub summed-requires : goal.summed-requires
summed-requires m c =
    let some : 0 < c.args.n = omega (arith, c.if-n-eq0.false) in
    sum_within c.args.n c.sum_at-rest.result.number c.requires.few some c.sum_at-rest.ensures.below

pub returns-clause-below : goal.returns-clause-below
returns-clause-below m c =
    let some : 0 < c.args.n = omega (arith, c.if-n-eq0.false) in
    sum_below c.args.n c.sum_at-rest.result.number c.summed.result.number some c.sum_at-rest.ensures.below
    c.summed.ensures.below
