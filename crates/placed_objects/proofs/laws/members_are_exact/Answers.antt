use Rattle.placed_objects.proofs.Members.{members_are_exact_law}
use Rattle.placed_objects.proofs.laws.members_are_exact.Goals as goal

pub returns : goal.returns
returns c = members_are_exact_law
