use Rattle.std.proofs.Common.{ap, ◌∙◌}
use Rattle.tac_lower.specs.Nodes.{or_int}
use Rattle.tac_lower.proofs.Typings.{kept_is}
use Rattle.tac_lower.proofs.functions.Program.kind_of_type.Goals as goal

pub returns : goal.returns
returns c = λ r. c.or_int.ensures ∙ ap or_int ((c.facts_at.ensures _ r.table).kept ∙ kept_is _ r.ordered _)
