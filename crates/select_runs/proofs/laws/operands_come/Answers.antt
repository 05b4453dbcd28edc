use Rattle.select_runs.proofs.Operands.{operands_come_law}
use Rattle.select_runs.proofs.laws.operands_come.Goals as goal

pub returns : goal.returns
returns c = operands_come_law
