use Rattle.select_runs.proofs.Jumps.{jumps_run_law}
use Rattle.select_runs.proofs.laws.jumps_run.Goals as goal

pub returns : goal.returns
returns c = jumps_run_law
