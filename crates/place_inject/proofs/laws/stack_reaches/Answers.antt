use Rattle.place_inject.proofs.Reaching.{stack_reaches_law}
use Rattle.place_inject.proofs.laws.stack_reaches.Goals as goal

pub returns : goal.returns
returns c = stack_reaches_law
