use Rattle.generator.proofs.Grown.{no_functions, one_function}
use Rattle.generator.proofs.generating.push_functions.Goals as goal

pub loop-k-init : goal.loop-k-init
loop-k-init c = no_functions _

pub loop-k-preserved : goal.loop-k-preserved
loop-k-preserved c = one_function _ _ _ _ c.loop-k.invariant c.in_ok-push_function.ensures
