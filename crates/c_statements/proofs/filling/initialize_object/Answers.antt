use Rattle.std.proofs.Common.{Option, subst}
use Rattle.c_elaborator.specs.Parts.{token_of}
use Rattle.c_elaborator.specs.declared.work.Work.{Work}
use Rattle.c_statements.specs.declared.declarations.Behind.{Behind}
use Rattle.c_statements.specs.Declaring.{IsBehind}
use Rattle.c_statements.proofs.Initializing.{object_alone, object_given}
use Rattle.c_statements.proofs.filling.initialize_object.Goals as goal

pub returns-in-None : goal.returns-in-None
returns-in-None c = λ b h.
    let u : Work = c.args.work.now in
    object_alone u c.args.k (token_of u c.args.name) c.no_items.result b
    (subst (λ (o : Option Behind). IsBehind u o b) c.in-None.is h) c.requires.whole c.no_items.ensures.vars
    c.no_items.ensures.actions

pub returns-in-Some : goal.returns-in-Some
returns-in-Some c = λ b h.
    let u : Work = c.args.work.now in
    object_given u c.initialize_static.new.work c.args.k
    (token_of u c.args.name) c.in-Some.b b c.initialize_static.result
    (subst (λ (o : Option Behind). IsBehind u o b) c.in-Some.is h) c.initialize_static.ensures
