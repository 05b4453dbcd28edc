use Rattle.lower_writes.proofs.Functions.{named_code_writes}
use Rattle.lower_writes.proofs.Scopes.{bodies_name}
use Rattle.lower_writes.proofs.code_writes_first.Goals as goal

pub returns : goal.returns
returns c = record { written = λ p h. named_code_writes p (bodies_name p h) }
