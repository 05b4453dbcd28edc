use Rattle.place_inject.proofs.Reaching.{table_reaches_law}
use Rattle.place_inject.proofs.laws.table_reaches.Goals as goal

pub returns : goal.returns
returns c = table_reaches_law
