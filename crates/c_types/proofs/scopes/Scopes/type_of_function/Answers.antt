use Rattle.c_types.proofs.Looking.{there_at}
use Rattle.c_types.proofs.Seeing.{routine_at}
use Rattle.c_types.proofs.scopes.Scopes.type_of_function.Goals as goal

pub returns-in-Some : goal.returns-in-Some
returns-in-Some c s h =
    routine_at c.args.self.now c.args.p.now s c.args.k c.in-Some.function.now h
    (there_at c.args.p.now.funs _ c.args.k c.in-Some.function.now c.as_slice.ensures c.in-Some.ensures.lookup.0
    c.in-Some.ensures.lookup.1)
