use Rattle.std.proofs.Common.{sym, ◌∙◌}
use Rattle.std.proofs.lemmas.Option.{IfSome_then}
use Rattle.tac_lower.proofs.Standing.{spared}
use Rattle.tac_lower.proofs.expressions.spared_variable.Goals as goal

pub returns-in-Some : goal.returns-in-Some
returns-in-Some c =
    record {
      stands = IfSome_then c.variable.result c.variable.ensures.stands
          (λ t v. spared _ _ c.in-Some.ensures (sym c.spares.ensures ∙ c.if-spares.true) v);
      has = (λ e h. c.variable.ensures.has e c.requires.ready c.requires.typed h);
    }
