use Rattle.select_runs.proofs.Calling.{calls_run_law}
use Rattle.select_runs.proofs.laws.calls_run.Goals as goal

pub returns : goal.returns
returns c = calls_run_law
