use Rattle.std.proofs.Common.{ap, ◌∙◌, sym}
use Rattle.std.specs.Option.{is_some}
use Rattle.tac_lower.proofs.Keeping.{asked_some}
use Rattle.tac_lower.proofs.expressions.asked.Goals as goal

pub returns-then-is_some-clause-fits : goal.returns-then-is_some-clause-fits
returns-then-is_some-clause-fits c = λ e h. asked_some e c.args.to _
    (sym (ap is_some (c.scalar.ensures c.requires.ready)) ∙ sym c.is_some.ensures ∙ c.if-is_some.true) h
