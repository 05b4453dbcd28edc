use Rattle.std.proofs.Common.{◌∙◌}
use Rattle.c_plain_rules.proofs.Numbers.{one_number}
use Rattle.c_plain_rules.proofs.bodies.numbers_below.Goals as goal

pub loop-k-preserved : goal.loop-k-preserved
loop-k-preserved c = c.in_ok-push.ensures.items ∙ one_number c.loop-k.numbers.items c.loop-k.k c.loop-k.invariant
