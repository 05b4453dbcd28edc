use Rattle.std.proofs.Common.{ap}
use Rattle.c_types.specs.Stands.{tagging_of}
use Rattle.c_types.proofs.Looking.{type_is, record_tag, there_at}
use Rattle.c_types.proofs.scopes.Scopes.tag_entry.Goals as goal

pub returns-in-Enumerated : goal.returns-in-Enumerated
returns-in-Enumerated c p s h t = (ap tagging_of c.in-Enumerated.is, type_is p _ _ h.int)

pub returns-in-Some : goal.returns-in-Some
returns-in-Some c p s h t =
    rw (c.in-Recorded.is, c.tag_kind.ensures)
    (record_tag c.args.self.now p s c.in-Recorded.n c.in-Some.tag.now h
    (there_at c.args.self.now.tags.items _ c.in-Recorded.n c.in-Some.tag.now c.deref.ensures.value
    c.in-Some.ensures.lookup.0 c.in-Some.ensures.lookup.1))
