use Rattle.std.proofs.Common.{refl, sym, subst, ◌∙◌, ◌<◌}
use Rattle.std.proofs.lemmas.Option.{slice_get_within}
use Rattle.c_types.proofs.Records.{begun_nothing, begun_now, tag_begun}
use Rattle.c_types.proofs.scopes.Scopes.open_tag.Goals as goal

pub returns-in-None-clause-is : goal.returns-in-None-clause-is
returns-in-None-clause-is c p s place h e = begun_nothing c.args.self.now p s c.args.tag place h (sym c.in-None.ensures)

pub returns-in-Some-clause-is : goal.returns-in-Some-clause-is
returns-in-Some-clause-is c p s place h e =
    begun_now c.args.self.now p s c.args.tag c.in-Some.info place _ h (sym c.in-Some.ensures)
    (sym (tag_begun c.args.self.now p s c.args.tag c.in-Some.info h (sym c.in-Some.ensures)) ∙ e) refl

pub index_mut-requires : goal.index_mut-requires
index_mut-requires c = subst (λ n. c.args.tag < n) (sym c.args.self.now.tags.ok.0)
    (slice_get_within c.args.self.now.tags.items c.args.tag c.in-Some.info (sym c.in-Some.ensures))
