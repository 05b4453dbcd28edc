use Rattle.place_inject.proofs.Registers.{done_keeps_fits_law}
use Rattle.place_inject.proofs.laws.done_keeps_fits.Goals as goal

pub returns : goal.returns
returns c = done_keeps_fits_law
