use Rattle.place_inject.proofs.Results.{numbers_fit_law}
use Rattle.place_inject.proofs.laws.numbers_fit.Goals as goal

pub returns : goal.returns
returns c = numbers_fit_law
