use Rattle.place_inject.proofs.Entering.{first_enters_fit_law}
use Rattle.place_inject.proofs.laws.first_enters_fit.Goals as goal

pub returns : goal.returns
returns c = first_enters_fit_law
