use Rattle.image_runs.proofs.Counts.{counted_code_law}
use Rattle.image_runs.proofs.laws.counted_code.Goals as goal

pub returns : goal.returns
returns c = counted_code_law
