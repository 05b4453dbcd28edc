use Rattle.select_runs.proofs.Simple.{constants_run_law}
use Rattle.select_runs.proofs.laws.constants_run.Goals as goal

pub returns : goal.returns
returns c = constants_run_law
