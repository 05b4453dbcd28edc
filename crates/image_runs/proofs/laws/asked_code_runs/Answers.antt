use Rattle.image_runs.proofs.Meant.{asked_code_runs_law}
use Rattle.image_runs.proofs.laws.asked_code_runs.Goals as goal

pub returns : goal.returns
returns c = asked_code_runs_law
