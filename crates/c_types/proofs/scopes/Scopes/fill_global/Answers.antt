use Rattle.std.proofs.Common.{subst, sym}
use Rattle.c_tree.specs.Scopes.{StaticState, change_static}
use Rattle.std.proofs.Common.{Some}
use Rattle.c_tree.specs.declared.typed.Typed.{Typed}
use Rattle.c_types.specs.declared.scopes.Scopes.{Scopes}
use Rattle.c_types.specs.Stands.{Stands}
use Rattle.c_types.proofs.Objects.{filled_stands}
use Rattle.c_types.proofs.scopes.Scopes.fill_global.Goals as goal

pub returns-clause-stands : goal.returns-clause-stands
returns-clause-stands c s i h =
    let q : Typed = record c.args.p.now { globals = c.set_contents.new.globals } in
    subst (λ (z : Scopes). Stands z q (change_static c.args.k (λ (g : StaticState). record g { initial = Some i }) s))
    (sym c.note_given.ensures.others)
    (filled_stands c.args.self.now c.note_given.new.self.objects c.args.p.now _ s c.args.k c.args.bytes.items
    c.args.links.items i h c.note_given.ensures.objects c.set_contents.ensures)
