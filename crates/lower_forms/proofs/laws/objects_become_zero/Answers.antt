use Rattle.lower_forms.proofs.Declaring.{objects_become_zero}
use Rattle.lower_forms.proofs.laws.objects_become_zero.Goals as goal

pub returns : goal.returns
returns c = record { zero = objects_become_zero }
