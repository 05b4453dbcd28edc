use Rattle.std.proofs.Common.{◌≡◌, IfSome, subst}
use Rattle.tac_emit.proofs.emitter.Emitter.give.Goals as goal

pub returns-in-Some-clause-there : goal.returns-in-Some-clause-there
returns-in-Some-clause-there c =
    λ h. c.transfer.ensures.there (subst (λ z. IfSome z (λ u. u ≡ c.args.from)) c.in-Some.is h)
