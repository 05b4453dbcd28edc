use Rattle.c_types.proofs.Routines.{body_stands}
use Rattle.c_types.proofs.scopes.Scopes.fill_function.Goals as goal

pub returns-clause-stands : goal.returns-clause-stands
returns-clause-stands c s b h =
    body_stands c.args.self.now c.args.p.now _ s c.args.k c.args.params.items c.args.vars.items c.args.body b h
    c.set_body.ensures
