use Rattle.c_types.proofs.Looking.{tags_seen}
use Rattle.c_types.proofs.scopes.Scopes.look_tag.Goals as goal

pub returns : goal.returns
returns c p s h = rw (c.tag_of.ensures, c.as_slice.ensures.value) (tags_seen _ _ _ s.scopes c.args.name.now h.scopes)
