use Rattle.select_runs.proofs.Results.{results_go_home_law}
use Rattle.select_runs.proofs.laws.results_go_home.Goals as goal

pub returns : goal.returns
returns c = results_go_home_law
