use Rattle.std.proofs.Common.{◌∙◌}
use Rattle.c_types.proofs.Seeing.{tags_length}
use Rattle.c_types.proofs.scopes.Scopes.tag_count.Goals as goal

pub returns : goal.returns
returns c p s h = c.len.ensures ∙ c.args.self.now.tags.ok.0 ∙ tags_length c.args.self.now p s h
