use Rattle.std.proofs.Common.{◌≡◌, sym, subst}
use Rattle.std.proofs.lemmas.Result.{err_from_is_err_and}
use Rattle.c_expressions.specs.declared.nodes.Nodes.{Nodes}
use Rattle.c_elaborator.specs.declared.work.Work.{Work}
use Rattle.c_elaborator.specs.Answers.{freely, Done}
use Rattle.c_statements.specs.Declaring.{begins, IsFunction}
use Rattle.c_statements.proofs.Lifting.{definition_done, definition_failed}
use Rattle.c_statements.proofs.declaring.declare_definition.Goals as goal

pub returns : goal.returns
returns c =
    let w : Work = c.args.work.now in
    let n : Nodes = c.define_in.new.nodes in
    let ks = c.clear.new.self in
    subst (λ (m : Nodes). Done freely w (record w { nodes = m; addressed = ks }) (begins w c.args.d) (Unit {0})
    (IsFunction (record w { nodes = m; addressed = ks }) c.in_ok-k.k)) (sym c.in_ok-k.ensures.others)
    (definition_done w n.scopes n.p ks c.args.d c.in_ok-k.k c.requires.whole c.in_ok-k.ensures.extends
    c.in_ok-k.ensures.file c.clear.ensures.items (c.in_ok-k.ensures.answers c.requires.there))

pub returns-in_err-k : goal.returns-in_err-k
returns-in_err-k c =
    let w : Work = c.args.work.now in
    let p = err_from_is_err_and c.from_residual.result c.from_residual.ensures.1 in
    rw (p.1, p.2) (definition_failed w w c.define_in.new.nodes c.args.d _ c.requires.there c.in_err-k.ensures.answers)
