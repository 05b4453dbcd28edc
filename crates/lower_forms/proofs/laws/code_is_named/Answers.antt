use Rattle.lower_forms.proofs.Naming.{code_is_named}
use Rattle.lower_forms.proofs.laws.code_is_named.Goals as goal

pub returns : goal.returns
returns c = record { named = code_is_named }
