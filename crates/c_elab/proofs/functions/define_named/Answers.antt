use Rattle.std.proofs.Common.{ap, ◌∙◌}
use Rattle.c_tree.specs.Scopes.{Doing, refuse}
use Rattle.c_tree.specs.Programs.{reading, define_named}
use Rattle.c_elaborator.specs.declared.work.Work.{Work}
use Rattle.c_elaborator.specs.Answers.{NothingThere, IsNothing}
use Rattle.c_declarators.specs.Parts.{ShowsDerived, name_token}
use Rattle.c_elab.specs.Functions.{IsDeclarator}
use Rattle.c_elab.proofs.Defining.{for_fewer}
use Rattle.c_elab.proofs.functions.define_named.Goals as goal

pub returns-in-None : goal.returns-in-None
returns-in-None c = λ y z hy hz s h e i.
    ap (λ o. define_named y e o z (reading z) s) (i.name ∙ ap (name_token c.args.work.now) c.in-None.is)
    ∙ ap (λ p. (let d : Doing Unit = refuse 120 p in d) s) hy.first

pub returns-in-Some : goal.returns-in-Some
returns-in-Some c = λ y z hy hz.
    let u : Work = c.args.work.now in
    for_fewer u c.define_so.new.work (IsDeclarator u c.in-Some.name c.args.d.wraps.items) (ShowsDerived u c.args.d)
    (λ e. define_named y e e.name z (reading z)) NothingThere IsNothing c.define_so.result
    (λ s e i. (i.name ∙ ap (name_token u) c.in-Some.is, i.wraps)) (c.define_so.ensures y z hy hz)
