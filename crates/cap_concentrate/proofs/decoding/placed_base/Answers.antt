use Rattle.std.proofs.Common.{arith}
use Rattle.cap_concentrate.proofs.Sums.{placed_base_is}
use Rattle.cap_concentrate.proofs.decoding.placed_base.Goals as goal

pub returns : goal.returns
returns c =
    rw (c.from.ensures, c.from-2.ensures)
    (placed_base_is c.args.e c.args.address c.args.b (omega arith) (omega arith))
