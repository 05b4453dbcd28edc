use Rattle.typing_laws.proofs.values.Whole.{valued}
use Rattle.typing_laws.proofs.values.values_stand_where_asked.Goals as goal

pub returns : goal.returns
returns c = record { valued = valued }
