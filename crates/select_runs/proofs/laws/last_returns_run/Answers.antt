use Rattle.select_runs.proofs.Returning.{last_returns_run_law}
use Rattle.select_runs.proofs.laws.last_returns_run.Goals as goal

pub returns : goal.returns
returns c = last_returns_run_law
