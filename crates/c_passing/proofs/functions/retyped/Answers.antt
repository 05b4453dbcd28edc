use Rattle.c_passing.proofs.Standing.{local_run}
use Rattle.c_passing.proofs.functions.retyped.Goals as goal

pub returns : goal.returns
returns c = local_run c.args.whole.now c.args.v c.number-of.result c.number-of.ensures
