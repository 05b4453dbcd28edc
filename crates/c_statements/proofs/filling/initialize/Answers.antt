use Rattle.std.proofs.Common.{◌≡◌, refl, sym, ap, subst}
use Rattle.c_types.specs.declared.entries.Entry.{Entry}
use Rattle.c_expressions.specs.Nodes.{type_in}
use Rattle.c_elaborator.specs.Answers.{Answers, freely}
use Rattle.c_elaborator.specs.Parts.{token_of}
use Rattle.c_elaborator.specs.declared.work.Work.{Work}
use Rattle.c_elaborator.specs.Items.{ItemsThere, IsItems}
use Rattle.c_statements.specs.Declaring.{initializes}
use Rattle.c_statements.proofs.Initializing.{nothing_given}
use Rattle.c_statements.proofs.filling.initialize.Goals as goal

pub returns-in-Var : goal.returns-in-Var
returns-in-Var c = λ b h.
    let u : Work = c.args.work.now in
    subst (λ (e : Entry). Answers freely u c.initialize_variable.new.work
    (initializes e (token_of u c.args.name) (type_in u.nodes c.args.of) b) ItemsThere IsItems
    c.initialize_variable.result) (sym c.in-Var.is) (c.initialize_variable.ensures b h)

pub returns-in-Global : goal.returns-in-Global
returns-in-Global c = λ b h.
    let u : Work = c.args.work.now in
    subst (λ (e : Entry). Answers freely u c.initialize_object.new.work
    (initializes e (token_of u c.args.name) (type_in u.nodes c.args.of) b) ItemsThere IsItems
    c.initialize_object.result) (sym c.in-Global.is) (c.initialize_object.ensures b h)
