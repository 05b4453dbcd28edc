use Rattle.select_whole.proofs.Chosen.{chosen_code_matches_law}
use Rattle.select_whole.proofs.laws.chosen_code_matches.Goals as goal

pub returns : goal.returns
returns c = chosen_code_matches_law
