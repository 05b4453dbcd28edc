use Rattle.select_runs.proofs.Pointers.{pointers_run_law}
use Rattle.select_runs.proofs.laws.pointers_run.Goals as goal

pub returns : goal.returns
returns c = pointers_run_law
