use Rattle.plain_functions.proofs.Stretched.{plain_functions_keep}
use Rattle.plain_functions.proofs.laws.plain_functions_keep_to_registers.Goals as goal

pub returns : goal.returns
returns c = plain_functions_keep
