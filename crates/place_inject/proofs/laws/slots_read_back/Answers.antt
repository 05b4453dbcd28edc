use Rattle.place_inject.proofs.ReadBack.{slots_read_back_law}
use Rattle.place_inject.proofs.laws.slots_read_back.Goals as goal

pub returns : goal.returns
returns c = slots_read_back_law
