use Rattle.select_runs.proofs.Services.{puts_run_law}
use Rattle.select_runs.proofs.laws.puts_run.Goals as goal

pub returns : goal.returns
returns c = puts_run_law
