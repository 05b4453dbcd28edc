use Rattle.place_inject.proofs.Leaving.{leaves_fit_law}
use Rattle.place_inject.proofs.laws.leaves_fit.Goals as goal

pub returns : goal.returns
returns c = leaves_fit_law
