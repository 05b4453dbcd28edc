use Rattle.c_types.proofs.Looking.{found_tag}
use Rattle.c_types.proofs.scopes.Scopes.find_tag.Goals as goal

pub returns-in-Some : goal.returns-in-Some
returns-in-Some c p s h =
    found_tag c.args.self.now p s c.args.name.now c.look_tag.result c.in-Some.found c.tag_entry.result h
    (c.look_tag.ensures p s h) c.in-Some.is (c.tag_entry.ensures p s h)
