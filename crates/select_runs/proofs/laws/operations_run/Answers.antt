use Rattle.select_runs.proofs.Integers.{operations_run_law}
use Rattle.select_runs.proofs.laws.operations_run.Goals as goal

pub returns : goal.returns
returns c = operations_run_law
