use Rattle.select_runs.proofs.Simple.{copies_run_law}
use Rattle.select_runs.proofs.laws.copies_run.Goals as goal

pub returns : goal.returns
returns c = copies_run_law
