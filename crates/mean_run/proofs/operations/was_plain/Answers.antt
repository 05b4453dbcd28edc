use Rattle.std.proofs.Common.{refl}
use Rattle.mean_run.proofs.operations.was_plain.Goals as goal

pub returns-then-is_plain : goal.returns-then-is_plain
returns-then-is_plain c = λ fit vars. rw (← c.if-is_plain.ensures vars) refl

pub returns-else-is_plain : goal.returns-else-is_plain
returns-else-is_plain c = λ fit vars. rw (← c.if-is_plain.ensures vars) (c.from_plain.ensures fit vars)
