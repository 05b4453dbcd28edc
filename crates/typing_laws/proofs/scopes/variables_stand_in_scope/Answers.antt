use Rattle.typing_laws.proofs.scopes.Whole.{scoped}
use Rattle.typing_laws.proofs.scopes.variables_stand_in_scope.Goals as goal

pub returns : goal.returns
returns c = record { scoped = scoped }
