use Rattle.std.proofs.Common.{Option, map, sym, ap, ◌∙◌}
use Rattle.std.specs.Prelude.{option_map}
use Rattle.c_tree.specs.Scopes.{TagState}
use Rattle.c_tree.specs.Views.{types_of}
use Rattle.c_types.specs.Members.{now, parts_of}
use Rattle.c_types.specs.Stands.{part_seen, member_kept}
use Rattle.c_plain_parts.proofs.RecordLaws.{kept-placed, none-placed}
use Rattle.c_plain_parts.proofs.members.members_of.Goals as goal

pub returns-in-None : goal.returns-in-None
returns-in-None c = λ s h t e.
    let w = c.args.work.now in
    let f = c.members.ensures s h.stands in
    none-placed w s c.args.tag t e (ap (option_map (λ x. map (member_kept (types_of w.nodes.p.types)) (now x)))
    (sym c.in-None.is) ∙ f ∙ ap (λ (o : Option TagState). option_map (map part_seen) (parts_of o)) e)

pub returns-in-Some : goal.returns-in-Some
returns-in-Some c = λ s h t e.
    let w = c.args.work.now in
    let f = c.members.ensures s h.stands in
    kept-placed w s c.args.tag t c.in-Some.members.now e
    (ap (option_map (λ x. map (member_kept (types_of w.nodes.p.types)) (now x))) (sym c.in-Some.is) ∙ f
    ∙ ap (λ (o : Option TagState). option_map (map part_seen) (parts_of o)) e)
