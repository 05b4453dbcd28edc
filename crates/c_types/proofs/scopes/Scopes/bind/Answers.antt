use Rattle.std.proofs.Common.{refl, ◌∙◌}
use Rattle.c_types.proofs.Looking.{on_err}
use Rattle.c_types.proofs.Binding.{bound_stands, alike_stands}
use Rattle.c_types.proofs.scopes.Scopes.bind.Goals as goal

pub returns-in_ok-bind-clause-ok : goal.returns-in_ok-bind-clause-ok
returns-in_ok-bind-clause-ok c p s x h e =
    bound_stands c.args.self.now _ p s c.len-count.result c.index_mut.result.now c.bind.new.self c.args.name.now
    c.args.entity x h c.if-count-gt0.true
    (c.len-count.ensures ∙ c.args.self.now.scopes.ok.0) c.index_mut.ensures.value refl c.in_ok-bind.ensures.names
    c.bind.ensures.tags e

pub returns-in_err-bind-clause-err : goal.returns-in_err-bind-clause-err
returns-in_err-bind-clause-err c =
    on_err c.from_residual.result (λ p s h. alike_stands c.args.self.now _ p s c.len-count.result c.index_mut.result.now
    c.bind.new.self h c.if-count-gt0.true
    (c.len-count.ensures ∙ c.args.self.now.scopes.ok.0) c.index_mut.ensures.value refl c.in_err-bind.ensures.err
    c.bind.ensures.tags)
