use Rattle.cap_ops.proofs.Inside.{with_mask_inside}
use Rattle.cap_ops.proofs.operations.and_perms.Goals as goal

pub returns-then-usable-clause-inside : goal.returns-then-usable-clause-inside
returns-then-usable-clause-inside c = rw c.with_mask.ensures (with_mask_inside c.args.c c.args.mask)
