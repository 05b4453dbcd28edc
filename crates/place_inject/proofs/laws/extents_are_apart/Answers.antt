use Rattle.place_inject.proofs.Extents.{extents_apart_law}
use Rattle.place_inject.proofs.laws.extents_are_apart.Goals as goal

pub returns : goal.returns
returns c = extents_apart_law
