use Rattle.lower_forms.proofs.Running.{code_is_made}
use Rattle.lower_forms.proofs.laws.code_is_made.Goals as goal

pub returns : goal.returns
returns c = record { made = code_is_made }
