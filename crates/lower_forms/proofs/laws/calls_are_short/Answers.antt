use Rattle.lower_forms.proofs.Calling.{calls_are_short}
use Rattle.lower_forms.proofs.laws.calls_are_short.Goals as goal

pub returns : goal.returns
returns c = record { short = calls_are_short }
