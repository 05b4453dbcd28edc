use Rattle.select_runs.proofs.Calling.{first_is_entered_law}
use Rattle.select_runs.proofs.laws.first_is_entered.Goals as goal

pub returns : goal.returns
returns c = first_is_entered_law
