use Rattle.c_passing.proofs.Numbering.{given_past}
use Rattle.c_passing.proofs.types.given_by_pointer.Goals as goal

pub returns-in-None : goal.returns-in-None
returns-in-None c = given_past c.args.types.now c.args.k c.in-None.ensures.past
