use Rattle.select_runs.proofs.Pointing.{offsets_run_law}
use Rattle.select_runs.proofs.laws.offsets_run.Goals as goal

pub returns : goal.returns
returns c = offsets_run_law
