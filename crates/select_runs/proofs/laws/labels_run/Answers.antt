use Rattle.select_runs.proofs.Simple.{labels_run_law}
use Rattle.select_runs.proofs.laws.labels_run.Goals as goal

pub returns : goal.returns
returns c = labels_run_law
