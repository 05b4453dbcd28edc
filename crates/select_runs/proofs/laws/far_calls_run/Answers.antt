use Rattle.select_runs.proofs.FarCalls.{far_calls_run_law}
use Rattle.select_runs.proofs.laws.far_calls_run.Goals as goal

pub returns : goal.returns
returns c = far_calls_run_law
