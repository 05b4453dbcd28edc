use Rattle.place_inject.proofs.Granules.{granules_are_zeroed_law}
use Rattle.place_inject.proofs.laws.granules_are_zeroed.Goals as goal

pub returns : goal.returns
returns c = granules_are_zeroed_law
