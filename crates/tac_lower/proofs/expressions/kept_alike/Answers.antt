use Rattle.std.proofs.Common.{Some, ap, ◌∙◌, sym}
use Rattle.tac_lower.proofs.Constants.{kinds_agree}
use Rattle.tac_lower.proofs.expressions.kept_alike.Goals as goal

pub returns-in-Some-Some : goal.returns-in-Some-Some
returns-in-Some-Some c = λ h.
    sym (c.scalar-2.ensures c.requires.ready) ∙ c.in-Some-Some.is-1
    ∙ ap Some (kinds_agree _ _ (sym c.same_kind.ensures ∙ h)) ∙ sym c.in-Some-Some.is-0
    ∙ c.scalar.ensures c.requires.ready
