use Rattle.place_inject.proofs.Pointing.{pointers_fit_law}
use Rattle.place_inject.proofs.laws.pointers_fit.Goals as goal

pub returns : goal.returns
returns c = pointers_fit_law
