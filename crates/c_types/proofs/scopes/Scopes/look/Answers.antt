use Rattle.c_types.proofs.Looking.{names_seen}
use Rattle.c_types.proofs.scopes.Scopes.look.Goals as goal

pub returns : goal.returns
returns c p s h = rw (c.name_of.ensures, c.as_slice.ensures.value) (names_seen _ _ _ s.scopes c.args.name.now h.scopes)
