use Rattle.lower_runs.proofs.Functions.{functions_run}
use Rattle.lower_runs.proofs.laws.functions_run.Goals as goal

pub returns : goal.returns
returns c = functions_run
