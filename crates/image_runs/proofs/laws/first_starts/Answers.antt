use Rattle.image_runs.proofs.Starting.{first_starts_law}
use Rattle.image_runs.proofs.laws.first_starts.Goals as goal

pub returns : goal.returns
returns c = first_starts_law
