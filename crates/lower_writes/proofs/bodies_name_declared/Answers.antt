use Rattle.lower_writes.proofs.Scopes.{bodies_name}
use Rattle.lower_writes.proofs.bodies_name_declared.Goals as goal

pub returns : goal.returns
returns c = record { named = bodies_name }
