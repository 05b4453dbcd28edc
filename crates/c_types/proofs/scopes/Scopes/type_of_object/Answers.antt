use Rattle.c_types.proofs.Looking.{there_at}
use Rattle.c_types.proofs.Seeing.{static_at}
use Rattle.c_types.proofs.scopes.Scopes.type_of_object.Goals as goal

pub returns-in-Some : goal.returns-in-Some
returns-in-Some c s h =
    static_at c.args.self.now c.args.p.now s c.args.k c.in-Some.global.now h
    (there_at c.args.p.now.globals _ c.args.k c.in-Some.global.now c.as_slice.ensures c.in-Some.ensures.lookup.0
    c.in-Some.ensures.lookup.1)
