use Rattle.c_types.proofs.Added.{local_added}
use Rattle.c_types.proofs.scopes.Scopes.add_parameter.Goals as goal

pub returns-clause-ok : goal.returns-clause-ok
returns-clause-ok c p s y h e = local_added c.args.self.now _ p s c.args.parameter y h c.in_ok-push.ensures.items e
