use Rattle.lower_forms.proofs.Running.{code_has_form}
use Rattle.lower_forms.proofs.laws.code_has_form.Goals as goal

pub returns : goal.returns
returns c = record { form = code_has_form }
