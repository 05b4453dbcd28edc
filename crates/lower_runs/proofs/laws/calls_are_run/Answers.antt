use Rattle.lower_runs.proofs.Called.{calls_are_run}
use Rattle.lower_runs.proofs.laws.calls_are_run.Goals as goal

pub returns : goal.returns
returns c = calls_are_run
