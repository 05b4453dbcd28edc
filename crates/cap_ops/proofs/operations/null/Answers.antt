use Rattle.std.proofs.Common.{arith}
use Rattle.cap_ops.specs.Capability.{null_at}
use Rattle.cap_ops.proofs.NullBounds.{null_base, null_top}
use Rattle.cap_ops.proofs.operations.null.Goals as goal

pub returns-clause-base : goal.returns-clause-base
unfolding null_at
returns-clause-base c = rw (c.with_address.ensures, c.unpack.ensures.fields) (null_base c.args.address (omega arith))

pub returns-clause-top : goal.returns-clause-top
unfolding null_at
returns-clause-top c = rw (c.with_address.ensures, c.unpack.ensures.fields) (null_top c.args.address (omega arith))
