use Rattle.place_inject.proofs.Returning.{returns_clear_law}
use Rattle.place_inject.proofs.laws.returns_clear.Goals as goal

pub returns : goal.returns
returns c = returns_clear_law
