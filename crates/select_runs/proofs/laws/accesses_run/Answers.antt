use Rattle.select_runs.proofs.Accesses.{accesses_run_law}
use Rattle.select_runs.proofs.laws.accesses_run.Goals as goal

pub returns : goal.returns
returns c = accesses_run_law
