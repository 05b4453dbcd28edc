use Rattle.place_inject.proofs.StoresKeep.{scratch_keeps_law}
use Rattle.place_inject.proofs.laws.scratch_keeps_fits.Goals as goal

pub returns : goal.returns
returns c = scratch_keeps_law
