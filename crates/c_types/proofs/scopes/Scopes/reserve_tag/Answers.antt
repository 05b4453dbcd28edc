use Rattle.std.proofs.Common.{refl, ◌∙◌}
use Rattle.c_types.proofs.Binding.{alike_stands}
use Rattle.c_types.proofs.scopes.Scopes.reserve_tag.Goals as goal

pub returns-in_err-reserve_tag-clause-keeps : goal.returns-in_err-reserve_tag-clause-keeps
returns-in_err-reserve_tag-clause-keeps c p s h =
    alike_stands c.args.self.now _ p s c.len-count.result c.index_mut.result.now c.reserve_tag.new.self h
    c.if-count-gt0.true
    (c.len-count.ensures ∙ c.args.self.now.scopes.ok.0) c.index_mut.ensures.value refl c.reserve_tag.ensures.names
    c.reserve_tag.ensures.tags

pub returns-in_ok-reserve_tag-clause-keeps : goal.returns-in_ok-reserve_tag-clause-keeps
returns-in_ok-reserve_tag-clause-keeps c p s h =
    alike_stands c.args.self.now _ p s c.len-count.result c.index_mut.result.now c.reserve_tag.new.self h
    c.if-count-gt0.true
    (c.len-count.ensures ∙ c.args.self.now.scopes.ok.0) c.index_mut.ensures.value refl c.reserve_tag.ensures.names
    c.reserve_tag.ensures.tags
