use Rattle.select_runs.proofs.Passing.{arguments_pass_law}
use Rattle.select_runs.proofs.laws.arguments_pass.Goals as goal

pub returns : goal.returns
returns c = arguments_pass_law
