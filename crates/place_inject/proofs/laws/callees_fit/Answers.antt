use Rattle.place_inject.proofs.Calling.{callees_fit_law}
use Rattle.place_inject.proofs.laws.callees_fit.Goals as goal

pub returns : goal.returns
returns c = callees_fit_law
