use Rattle.std.proofs.Common.{ap, ◌∙◌}
use Rattle.std.proofs.lemmas.Result.{on_ok_weaker}
use Rattle.mean_run.proofs.Designates.{global_is}
use Rattle.mean_run.proofs.state.State.global_place.Goals as goal

pub returns : goal.returns
returns g c =
    let ops = g.B.Operations.meaning c.args.m.now in
    let held = g.B.Operations.held c.args.m.now in
    on_ok_weaker c.designate.result (λ q vars.
    global_is ops held c.args.s.now.p.now c.args.g c.args.g c.args.self.now c.args.pos c.args.g _ c.whole.result
    c.designate.new.self (c.whole.ensures ∙ (ap (λ i. ops.whole held i c.global_permissions-permissions.result)
    c.from.ensures ∙ ap (ops.whole held c.args.g) (c.global_permissions-permissions.ensures vars))) q)
    c.designate.ensures
