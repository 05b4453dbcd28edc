use Rattle.place_inject.proofs.Results.{results_fit_law}
use Rattle.place_inject.proofs.laws.results_fit.Goals as goal

pub returns : goal.returns
returns c = results_fit_law
