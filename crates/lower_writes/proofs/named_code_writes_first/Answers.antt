use Rattle.lower_writes.proofs.Functions.{named_code_writes}
use Rattle.lower_writes.proofs.named_code_writes_first.Goals as goal

pub returns : goal.returns
returns c = record { written = named_code_writes }
