use Rattle.lower_forms.proofs.Running.{copies_are_counted}
use Rattle.lower_forms.proofs.laws.copies_are_counted.Goals as goal

pub returns : goal.returns
returns c = record { counted = copies_are_counted }
