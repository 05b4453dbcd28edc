use Rattle.image_runs.proofs.Lowered.{lowered_code}
use Rattle.image_runs.proofs.laws.lowered_code.Goals as goal

pub returns : goal.returns
returns c = lowered_code
