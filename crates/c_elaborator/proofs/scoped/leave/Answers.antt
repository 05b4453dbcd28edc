use Rattle.c_tree.specs.Scopes.{outer_scopes}
use Rattle.c_elaborator.proofs.Scoping.{changes_scopes}
use Rattle.c_elaborator.proofs.scoped.leave.Goals as goal

pub returns : goal.returns
returns c = changes_scopes c.args.work.now _ outer_scopes c.requires.whole c.leave.ensures.file c.leave.ensures.is
