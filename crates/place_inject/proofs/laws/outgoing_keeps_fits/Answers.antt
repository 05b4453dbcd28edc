use Rattle.place_inject.proofs.Outgoing.{outgoing_keeps_fits_law}
use Rattle.place_inject.proofs.laws.outgoing_keeps_fits.Goals as goal

pub returns : goal.returns
returns c = outgoing_keeps_fits_law
