use Rattle.select_runs.proofs.Entries.{parameters_come_law}
use Rattle.select_runs.proofs.laws.parameters_come.Goals as goal

pub returns : goal.returns
returns c = parameters_come_law
