use Rattle.select_runs.proofs.Pointing.{narrows_run_law}
use Rattle.select_runs.proofs.laws.narrows_run.Goals as goal

pub returns : goal.returns
returns c = narrows_run_law
