use Rattle.select_runs.proofs.Zeroing.{zeroes_run_law}
use Rattle.select_runs.proofs.laws.zeroes_run.Goals as goal

pub returns : goal.returns
returns c = zeroes_run_law
