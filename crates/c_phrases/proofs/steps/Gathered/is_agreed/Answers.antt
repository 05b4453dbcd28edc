use Rattle.std.proofs.Common.{ap, sym, ◌∙◌}
use Rattle.std.specs.Prelude.{not, ◌||◌, ◌==◌}
use Rattle.c_phrases.proofs.Specifying.{agreed_is}
use Rattle.c_phrases.proofs.steps.Gathered.is_agreed.Goals as goal

pub returns-then-not-self : goal.returns-then-not-self
returns-then-not-self c =
    λ xs at. ap not c.if-not-self.true ∙ ap (λ v. not v || c.args.self.now.type_names == 1) (sym c.if-not-self.true)
    ∙ agreed_is at

pub returns-else-not-self : goal.returns-else-not-self
returns-else-not-self c =
    λ xs at. ap (λ v. not v || c.args.self.now.type_names == 1) (sym c.if-not-self.false) ∙ agreed_is at
