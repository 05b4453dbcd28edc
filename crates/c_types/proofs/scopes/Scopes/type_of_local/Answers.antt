use Rattle.c_types.proofs.Looking.{there_at}
use Rattle.c_types.proofs.Seeing.{local_seen_at}
use Rattle.c_types.proofs.scopes.Scopes.type_of_local.Goals as goal

pub returns-in-Some : goal.returns-in-Some
returns-in-Some c p s h =
    local_seen_at c.args.self.now p s c.args.k c.in-Some.local.now h
    (there_at c.args.self.now.locals.items _ c.args.k c.in-Some.local.now c.deref.ensures.value
    c.in-Some.ensures.lookup.0 c.in-Some.ensures.lookup.1)
