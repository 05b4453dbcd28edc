use Rattle.std.proofs.Common.{arith}
use Rattle.c_mean.proofs.Planned.{local_fits}
use Rattle.c_mean.proofs.held.local_base.Goals as goal

pub overflow_add-result : goal.overflow_add-result
overflow_add-result c =
    let below = local_fits c.args.mode c.in-Placed.map c.in-Placed.is c.requires.roomy c.args.f c.args.n c.args.frame
    c.requires.entered in
    omega (arith, c.local_offset.ensures)
