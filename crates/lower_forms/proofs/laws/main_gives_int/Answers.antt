use Rattle.lower_forms.proofs.Parameters.{main_gives_int}
use Rattle.lower_forms.proofs.laws.main_gives_int.Goals as goal

pub returns : goal.returns
returns c = record { gives = main_gives_int }
