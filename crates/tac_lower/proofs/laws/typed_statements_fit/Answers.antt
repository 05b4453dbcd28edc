use Rattle.tac_lower.proofs.Parts.{part_fits}
use Rattle.tac_lower.proofs.laws.typed_statements_fit.Goals as goal

pub returns : goal.returns
returns c = λ f i k s o w there. part_fits f o i k s there w
