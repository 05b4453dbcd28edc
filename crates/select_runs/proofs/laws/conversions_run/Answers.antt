use Rattle.select_runs.proofs.Conversions.{conversions_run_law}
use Rattle.select_runs.proofs.laws.conversions_run.Goals as goal

pub returns : goal.returns
returns c = conversions_run_law
