use Rattle.passing_nodes.proofs.types.bare.Goals as goal
use Rattle.passing_nodes.proofs.Tagging.{bare_past}

pub returns-in-None : goal.returns-in-None
returns-in-None c = bare_past c.args.types.now c.args.k c.in-None.ensures.past

pub returns-in-Some : goal.returns-in-Some
returns-in-Some c = c.bare_at.ensures c.args.types.now c.in-Some.ensures.there
