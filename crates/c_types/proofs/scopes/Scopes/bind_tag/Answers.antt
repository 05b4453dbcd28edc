use Rattle.std.proofs.Common.{refl, ◌∙◌, sym, subst}
use Rattle.c_tree.specs.Views.{types_of}
use Rattle.c_types.specs.Looks.{Numbered}
use Rattle.c_types.specs.Stands.{tag_kept, tag_seen, tagging_of}
use Rattle.c_types.proofs.Looking.{on_err, seen_length}
use Rattle.c_types.proofs.Binding.{tagged_stands, alike_stands}
use Rattle.c_types.proofs.scopes.Scopes.bind_tag.Goals as goal

pub returns-in_ok-bind_tag-clause-ok : goal.returns-in_ok-bind_tag-clause-ok
returns-in_ok-bind_tag-clause-ok c p s h t =
    tagged_stands c.args.self.now _ p s c.len-count.result c.index_mut.result.now c.bind_tag.new.self c.args.name.now
    c.args.tagging h c.if-count-gt0.true
    (c.len-count.ensures ∙ c.args.self.now.scopes.ok.0) c.index_mut.ensures.value refl c.in_ok-bind_tag.ensures.tags
    c.bind_tag.ensures.names
    (subst (λ n. Numbered n (tagging_of c.args.tagging))
    (sym (seen_length (tag_kept p.types (types_of p.types)) tag_seen c.args.self.now.tags.items s.tags h.tags)) t)

pub returns-in_err-bind_tag-clause-err : goal.returns-in_err-bind_tag-clause-err
returns-in_err-bind_tag-clause-err c =
    on_err c.from_residual.result (λ p s h. alike_stands c.args.self.now _ p s c.len-count.result c.index_mut.result.now
    c.bind_tag.new.self h c.if-count-gt0.true
    (c.len-count.ensures ∙ c.args.self.now.scopes.ok.0) c.index_mut.ensures.value refl c.bind_tag.ensures.names
    c.in_err-bind_tag.ensures.err)
