use Rattle.place_inject.proofs.Starts.{start_fits_law}
use Rattle.place_inject.proofs.laws.start_fits.Goals as goal

pub returns : goal.returns
returns c = start_fits_law
