use Rattle.std.proofs.Common.{◌<◌, subst}
use Rattle.std.specs.Prelude.{All}
use Rattle.typed_build.proofs.image.image_of.Goals as goal

pub returns-clause-small : goal.returns-clause-small
returns-clause-small c = subst (All (λ b. b < 256)) c.below.ensures.value c.below.ensures.small
