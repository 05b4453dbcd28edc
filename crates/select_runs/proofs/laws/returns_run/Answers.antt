use Rattle.select_runs.proofs.Returning.{returns_run_law}
use Rattle.select_runs.proofs.laws.returns_run.Goals as goal

pub returns : goal.returns
returns c = returns_run_law
