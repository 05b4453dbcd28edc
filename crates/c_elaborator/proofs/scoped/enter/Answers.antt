use Rattle.std.proofs.Common.{◌∷◌, []}
use Rattle.c_elaborator.proofs.Scoping.{changes_scopes}
use Rattle.c_elaborator.proofs.scoped.enter.Goals as goal

pub returns : goal.returns
returns c = changes_scopes c.args.work.now _
    (λ cs. record { names = []; tags = [] } ∷ cs) c.requires.whole c.enter.ensures.file c.in_ok-enter.ensures.ok
