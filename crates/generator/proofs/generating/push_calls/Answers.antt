use Rattle.generator.proofs.Grown.{no_calls, one_call}
use Rattle.generator.proofs.generating.push_calls.Goals as goal

pub loop-k-init : goal.loop-k-init
loop-k-init c = no_calls _

pub loop-k-preserved : goal.loop-k-preserved
loop-k-preserved c = one_call _ _ _ _ c.loop-k.invariant c.in_ok-push_call.ensures
