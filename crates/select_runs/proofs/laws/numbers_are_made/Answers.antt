use Rattle.select_runs.proofs.Numbers.{numbers_are_made_law}
use Rattle.select_runs.proofs.laws.numbers_are_made.Goals as goal

pub returns : goal.returns
returns c = numbers_are_made_law
