use Rattle.std.proofs.Common.{Option, subst}
use Rattle.c_expressions.specs.Nodes.{type_in}
use Rattle.c_elaborator.specs.Parts.{token_of}
use Rattle.c_elaborator.specs.declared.work.Work.{Work}
use Rattle.c_statements.specs.declared.declarations.Behind.{Behind}
use Rattle.c_statements.specs.Declaring.{IsBehind}
use Rattle.c_statements.proofs.Initializing.{variable_alone, variable_given}
use Rattle.c_statements.proofs.filling.initialize_variable.Goals as goal

pub returns-in-None : goal.returns-in-None
returns-in-None c = λ b h.
    let u : Work = c.args.work.now in
    variable_alone u c.declare_variable.new.work c.args.k (token_of u c.args.name)
    (type_in u.nodes c.args.of) b c.declare_variable.result
    (subst (λ (o : Option Behind). IsBehind u o b) c.in-None.is h) c.declare_variable.ensures

pub returns-in-Some : goal.returns-in-Some
returns-in-Some c = λ b h.
    let u : Work = c.args.work.now in
    variable_given u c.initialize_local.new.work c.args.k (token_of u c.args.name)
    (type_in u.nodes c.args.of) c.in-Some.b b c.initialize_local.result
    (subst (λ (o : Option Behind). IsBehind u o b) c.in-Some.is h) c.initialize_local.ensures
