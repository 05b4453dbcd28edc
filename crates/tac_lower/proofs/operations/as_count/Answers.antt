use Rattle.std.proofs.Common.{sym, ◌∙◌}
use Rattle.tac_lower.proofs.operations.as_count.Goals as goal

pub returns-then-is_capability-clause-spent : goal.returns-then-is_capability-clause-spent
returns-then-is_capability-clause-spent c =
    c.fresh_conversion.ensures.address (sym c.is_capability.ensures ∙ c.if-is_capability.true) tt
