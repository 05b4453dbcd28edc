use Rattle.tac_lower.proofs.Finished.{ends_whole, function_is}
use Rattle.tac_lower.proofs.laws.finished_code_is_well_formed.Goals as goal

pub returns : goal.returns
returns c = record { ends = λ p d a b v w closed h fits. ends_whole p d a b v closed h w fits; function = function_is }
