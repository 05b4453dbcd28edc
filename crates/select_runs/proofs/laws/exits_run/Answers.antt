use Rattle.select_runs.proofs.Services.{exits_run_law}
use Rattle.select_runs.proofs.laws.exits_run.Goals as goal

pub returns : goal.returns
returns c = exits_run_law
