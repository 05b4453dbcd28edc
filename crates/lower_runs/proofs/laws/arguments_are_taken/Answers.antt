use Rattle.lower_runs.proofs.Entries.{arguments_taken}
use Rattle.lower_runs.proofs.laws.arguments_are_taken.Goals as goal

pub returns : goal.returns
returns c = arguments_taken
