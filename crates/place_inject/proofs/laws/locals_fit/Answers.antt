use Rattle.place_inject.proofs.Growing.{locals_fit_law}
use Rattle.place_inject.proofs.laws.locals_fit.Goals as goal

pub returns : goal.returns
returns c = locals_fit_law
