use Rattle.cap_ops.proofs.Inside.{sentry_inside}
use Rattle.cap_ops.proofs.operations.seal_entry.Goals as goal

pub returns-then-may_execute-clause-inside : goal.returns-then-may_execute-clause-inside
returns-then-may_execute-clause-inside c = rw c.with_otype.ensures (sentry_inside c.args.c)
