use Rattle.select_runs.proofs.FarCalls.{far_first_is_entered_law}
use Rattle.select_runs.proofs.laws.far_first_is_entered.Goals as goal

pub returns : goal.returns
returns c = far_first_is_entered_law
