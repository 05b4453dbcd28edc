use Rattle.tac_lower.proofs.context.Context.scalar.Goals as goal

pub returns : goal.returns
returns c = λ r. c.facts.ensures.kept r
