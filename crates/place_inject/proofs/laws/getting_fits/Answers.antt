use Rattle.place_inject.proofs.Getting.{getting_fits_law}
use Rattle.place_inject.proofs.laws.getting_fits.Goals as goal

pub returns : goal.returns
returns c = getting_fits_law
