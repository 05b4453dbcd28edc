use Rattle.std.proofs.Common.{ap, ◌∙◌}
use Rattle.tac_lower.specs.Nodes.{or_int}
use Rattle.tac_lower.proofs.context.Context.kind.Goals as goal

pub returns : goal.returns
returns c = λ r. c.or_int.ensures ∙ ap or_int (c.scalar.ensures r)
