use Rattle.place_inject.proofs.Wholes.{whole_pointers_fit_law}
use Rattle.place_inject.proofs.laws.whole_pointers_fit.Goals as goal

pub returns : goal.returns
returns c = whole_pointers_fit_law
