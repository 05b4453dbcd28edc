use Rattle.select_runs.proofs.Through.{calls_through_values_run_law}
use Rattle.select_runs.proofs.laws.calls_through_values_run.Goals as goal

pub returns : goal.returns
returns c = calls_through_values_run_law
