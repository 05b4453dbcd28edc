use Rattle.lower_forms.proofs.Parameters.{parameters_are_taken}
use Rattle.lower_forms.proofs.laws.parameters_are_taken.Goals as goal

pub returns : goal.returns
returns c = record { taken = parameters_are_taken }
