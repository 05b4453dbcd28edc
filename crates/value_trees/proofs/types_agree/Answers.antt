use Rattle.value_trees.proofs.Records.{types_agree}
use Rattle.value_trees.proofs.types_agree.Goals as goal

pub returns : goal.returns
returns c = record { agree = types_agree }
