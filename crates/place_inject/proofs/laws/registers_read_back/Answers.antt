use Rattle.place_inject.proofs.Results.{registers_read_back_law}
use Rattle.place_inject.proofs.laws.registers_read_back.Goals as goal

pub returns : goal.returns
returns c = registers_read_back_law
