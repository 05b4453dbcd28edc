use Rattle.image_runs.proofs.Running.{made_code_runs_law}
use Rattle.image_runs.proofs.laws.made_code_runs.Goals as goal

pub returns : goal.returns
returns c = made_code_runs_law
