use Rattle.place_inject.proofs.Entering.{enters_fit_law}
use Rattle.place_inject.proofs.laws.enters_fit.Goals as goal

pub returns : goal.returns
returns c = enters_fit_law
