use Rattle.std.proofs.Common.{◌+◌, sym, ap, ◌∙◌, arith}
use Rattle.cheri_c_sem.specs.Types.{objects_before}
use Rattle.mean_run.specs.Views.{vars_at}
use Rattle.mean_run.proofs.Scopes.{object_leaves, variable_leaves}
use Rattle.mean_run.proofs.Counts.{few}
use Rattle.mean_run.proofs.blocks.leave_one.Goals as goal

pub returns-then-is_object-clause-did : goal.returns-then-is_object-clause-did
returns-then-is_object-clause-did g c =
    let p = c.args.s.now.p.now in
    let vars = vars_at p c.args.f in
    let few_before = few vars c.args.x in
    let before = c.before-then-is_object.ensures p c.requires.locals in
    let object = c.object.ensures (omega arith) ∙ ap (λ n. c.args.state.now.call.first + n) before in
    object_leaves (g.B.Operations.meaning c.args.m.now) p (g.B.Operations.held c.args.m.now) _ c.args.state.now
    c.args.state.now _ c.args.x (objects_before vars c.args.x) c.object.result
    (sym c.is_object.ensures ∙ c.if-is_object.true) object c.leave.ensures.changes

pub returns-else-is_object-clause-did : goal.returns-else-is_object-clause-did
returns-else-is_object-clause-did g c =
    variable_leaves (g.B.Operations.meaning c.args.m.now) c.args.s.now.p.now (g.B.Operations.held c.args.m.now)
    (g.B.Operations.held c.args.m.now) c.args.state.now c.args.state.now _ c.args.x _
    (sym c.is_object.ensures ∙ c.if-is_object.false)
