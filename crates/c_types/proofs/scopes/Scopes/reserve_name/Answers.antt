use Rattle.std.proofs.Common.{refl, ◌∙◌}
use Rattle.c_types.proofs.Binding.{alike_stands}
use Rattle.c_types.proofs.scopes.Scopes.reserve_name.Goals as goal

pub returns-in_err-reserve_name-clause-keeps : goal.returns-in_err-reserve_name-clause-keeps
returns-in_err-reserve_name-clause-keeps c p s h =
    alike_stands c.args.self.now _ p s c.len-count.result c.index_mut.result.now c.reserve_name.new.self h
    c.if-count-gt0.true
    (c.len-count.ensures ∙ c.args.self.now.scopes.ok.0) c.index_mut.ensures.value refl c.reserve_name.ensures.names
    c.reserve_name.ensures.tags

pub returns-in_ok-reserve_name-clause-keeps : goal.returns-in_ok-reserve_name-clause-keeps
returns-in_ok-reserve_name-clause-keeps c p s h =
    alike_stands c.args.self.now _ p s c.len-count.result c.index_mut.result.now c.reserve_name.new.self h
    c.if-count-gt0.true
    (c.len-count.ensures ∙ c.args.self.now.scopes.ok.0) c.index_mut.ensures.value refl c.reserve_name.ensures.names
    c.reserve_name.ensures.tags
