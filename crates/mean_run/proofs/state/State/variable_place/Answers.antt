use Rattle.std.proofs.Common.{◌+◌, sym, ap, ◌∙◌, arith}
use Rattle.std.proofs.lemmas.Result.{on_ok_weaker}
use Rattle.cap_ops.specs.Permissions.{data_permissions}
use Rattle.cheri_c_sem.specs.Types.{objects_before}
use Rattle.mean_run.specs.Views.{vars_at}
use Rattle.mean_run.proofs.Counts.{few}
use Rattle.mean_run.proofs.Designates.{object_place}
use Rattle.mean_run.proofs.state.State.variable_place.Goals as goal

pub returns-then-is_object : goal.returns-then-is_object
returns-then-is_object g c =
    let ops = g.B.Operations.meaning c.args.m.now in
    let held = g.B.Operations.held c.args.m.now in
    let p = c.args.s.now.p.now in
    let vars = vars_at p c.args.f in
    let few_before = few vars c.args.x in
    let before = c.before-then-is_object.ensures p c.requires.locals in
    let object = c.object-object.ensures (omega arith) ∙ ap (λ n. c.args.self.now.call.first + n) before in
    on_ok_weaker c.designate.result
    (object_place ops held p c.args.f c.args.f c.args.self.now _ c.args.pos c.args.x (objects_before vars c.args.x)
    c.whole.result c.designate.new.self (sym c.is_object.ensures ∙ c.if-is_object.true)
    (c.whole.ensures ∙ ap (λ i. ops.whole held i data_permissions) object)) c.designate.ensures
