use Rattle.place_inject.proofs.Results.{numbers_read_back_law}
use Rattle.place_inject.proofs.laws.numbers_read_back.Goals as goal

pub returns : goal.returns
returns c = numbers_read_back_law
