use Rattle.image_runs.proofs.Made.{selected_functions_law}
use Rattle.image_runs.proofs.laws.selected_functions.Goals as goal

pub returns : goal.returns
returns c = selected_functions_law
