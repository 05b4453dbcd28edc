use Rattle.std.proofs.Common.{ap, sym, ◌∙◌}
use Rattle.c_tree.specs.Views.{types_of}
use Rattle.c_types.specs.Stands.{members_kept}
use Rattle.c_types.proofs.Looking.{there_at, none_at}
use Rattle.c_types.proofs.Seeing.{members_at}
use Rattle.c_types.proofs.scopes.Scopes.members.Goals as goal

pub returns-in-None-get : goal.returns-in-None-get
returns-in-None-get c s h =
    let p = c.args.p.now in
    ap (members_kept (types_of p.types)) (sym
    (none_at p.types _ c.in-Some.info.of c.as_slice.ensures c.in-None-get.ensures.lookup.0))
    ∙ members_at c.args.self.now p s c.args.tag c.in-Some.info h (sym c.in-Some.ensures)

pub returns-in-Some-get : goal.returns-in-Some-get
returns-in-Some-get c s h =
    let p = c.args.p.now in
    c.members_of.ensures (types_of p.types)
    ∙ ap (members_kept (types_of p.types)) (sym
    (there_at p.types _ c.in-Some.info.of c.in-Some-get.c.now c.as_slice.ensures c.in-Some-get.ensures.lookup.0
    c.in-Some-get.ensures.lookup.1))
    ∙ members_at c.args.self.now p s c.args.tag c.in-Some.info h (sym c.in-Some.ensures)
