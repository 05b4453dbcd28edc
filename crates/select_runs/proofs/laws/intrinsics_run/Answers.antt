use Rattle.select_runs.proofs.Intrinsics.{intrinsics_run_law}
use Rattle.select_runs.proofs.laws.intrinsics_run.Goals as goal

pub returns : goal.returns
returns c = intrinsics_run_law
