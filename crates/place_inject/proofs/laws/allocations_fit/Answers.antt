use Rattle.place_inject.proofs.Growing.{allocations_fit_law}
use Rattle.place_inject.proofs.laws.allocations_fit.Goals as goal

pub returns : goal.returns
returns c = allocations_fit_law
