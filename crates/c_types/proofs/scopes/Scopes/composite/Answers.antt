use Rattle.c_types.proofs.Extending.{extends_types}
use Rattle.c_types.proofs.Growth.{stands_more, stands_numbers}
use Rattle.c_types.proofs.scopes.Scopes.composite.Goals as goal

pub returns-clause-keeps : goal.returns-clause-keeps
returns-clause-keeps c s h =
    stands_numbers c.args.self.now _ _ s (stands_more c.args.self.now c.args.p.now _ s c.composite.ensures.adds h)

pub returns-clause-extends : goal.returns-clause-extends
returns-clause-extends c = extends_types c.args.p.now _ c.composite.ensures.adds
