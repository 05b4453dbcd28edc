use Rattle.place_inject.proofs.Zeroing.{zero_keeps_fits_law}
use Rattle.place_inject.proofs.laws.zero_keeps_fits.Goals as goal

pub returns : goal.returns
returns c = zero_keeps_fits_law
