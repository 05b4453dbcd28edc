use Rattle.typing_laws.proofs.values.Whole.{parameters_fit}
use Rattle.typing_laws.proofs.values.parameters_are_adjusted.Goals as goal

pub returns : goal.returns
returns c = record { adjusted = parameters_fit }
