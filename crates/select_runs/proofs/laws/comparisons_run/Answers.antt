use Rattle.select_runs.proofs.Comparisons.{comparisons_run_law}
use Rattle.select_runs.proofs.laws.comparisons_run.Goals as goal

pub returns : goal.returns
returns c = comparisons_run_law
