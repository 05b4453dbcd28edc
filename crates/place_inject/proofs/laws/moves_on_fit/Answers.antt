use Rattle.place_inject.proofs.Results.{moves_on_law}
use Rattle.place_inject.proofs.laws.moves_on_fit.Goals as goal

pub returns : goal.returns
returns c = moves_on_law
