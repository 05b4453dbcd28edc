use Rattle.place_inject.proofs.Spilling.{spills_fit_law}
use Rattle.place_inject.proofs.laws.spills_fit.Goals as goal

pub returns : goal.returns
returns c = spills_fit_law
