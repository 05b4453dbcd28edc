use Rattle.select_runs.proofs.Jumps.{branches_run_law}
use Rattle.select_runs.proofs.laws.branches_run.Goals as goal

pub returns : goal.returns
returns c = branches_run_law
