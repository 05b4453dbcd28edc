use Rattle.std.proofs.Common.{sym}
use Rattle.c_tree.specs.Views.{types_of}
use Rattle.c_expressions.proofs.Keeping.{keeps_same}
use Rattle.c_expressions.specs.Nodes.{type_in}
use Rattle.c_elaborator.specs.declared.work.Work.{Work}
use Rattle.c_declarators.proofs.Denoting.{no_alias, alias_there}
use Rattle.c_declarators.proofs.Quietly.{given_quietly}
use Rattle.c_declarators.proofs.naming.typedef_name.Goals as goal

pub returns-in-None : goal.returns-in-None
returns-in-None c = λ s h.
    let w : Work = c.args.work.now in
    no_alias (types_of w.nodes.p.types) c.look-found.result _ c.args.name.pos s
    (rw c.text_of.ensures at (c.look-found.ensures w.nodes.p s h.stands)) (rw c.in-None.is at c.alias_of.ensures)

pub returns-in-Some : goal.returns-in-Some
returns-in-Some c =
    let w : Work = c.args.work.now in
    given_quietly w w.nodes _ _ _ (λ s. type_in w.nodes c.in-Some.of) (keeps_same w.nodes c.requires)
    c.there.ensures.there
    (λ s h. alias_there w.nodes.p c.look-found.result _ c.in-Some.of c.args.name.pos s
    (rw c.text_of.ensures at (c.look-found.ensures w.nodes.p s h.stands)) (rw c.in-Some.is at c.alias_of.ensures))
    (λ s h. sym c.there.ensures.is)
