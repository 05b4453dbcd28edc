use Rattle.std.proofs.Common.{◌∙◌}
use Rattle.passing_nodes.proofs.types.is_tagged.Goals as goal
use Rattle.passing_nodes.proofs.Tagging.{tagged_there, tagged_past}

pub returns-in-None : goal.returns-in-None
returns-in-None c = tagged_past c.args.types.now c.args.k c.in-None.ensures.past

pub returns-in-Some : goal.returns-in-Some
returns-in-Some c = c.is_record.ensures ∙ tagged_there c.args.types.now c.args.k c.in-Some.c.now c.in-Some.ensures.there
