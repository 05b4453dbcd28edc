use Rattle.select_runs.proofs.Services.{takes_run_law}
use Rattle.select_runs.proofs.laws.takes_run.Goals as goal

pub returns : goal.returns
returns c = takes_run_law
