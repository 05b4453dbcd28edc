use Rattle.placed_objects.proofs.Stays.{extents_stay_apart_law}
use Rattle.placed_objects.proofs.laws.extents_stay_apart.Goals as goal

pub returns : goal.returns
returns c = extents_stay_apart_law
