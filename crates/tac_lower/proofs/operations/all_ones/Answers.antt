use Rattle.tac_lower.proofs.Constants.{ones_short}
use Rattle.tac_lower.proofs.operations.all_ones.Goals as goal

pub returns-clause-short : goal.returns-clause-short
returns-clause-short c = λ e. ones_short e c.wrap.ensures.value
