use Rattle.place_inject.proofs.Registers.{registers_keep_fits_law}
use Rattle.place_inject.proofs.laws.registers_keep_fits.Goals as goal

pub returns : goal.returns
returns c = registers_keep_fits_law
