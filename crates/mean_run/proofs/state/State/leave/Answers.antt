use Rattle.std.proofs.Common.{sym, ap, ◌∙◌, refl}
use Rattle.std.specs.Prelude.{map}
use Rattle.cheri_c_sem.specs.Programs.{declared}
use Rattle.mean_steps.specs.Parts.{leave}
use Rattle.mean_run.specs.Views.{now_of, vars_at}
use Rattle.mean_run.proofs.Nodes.{no_statement, statement_at}
use Rattle.mean_run.proofs.Scopes.{declared_are}
use Rattle.mean_run.proofs.state.State.leave.Goals as goal

pub returns-in-None-clause-did : goal.returns-in-None-clause-did
returns-in-None-clause-did g c = λ order.
    let p = c.args.s.now.p.now in
    rw (no_statement p (vars_at p c.args.f) c.args.k (sym c.in-None.ensures)) refl

pub returns-in-Some-clause-did : goal.returns-in-Some-clause-did
returns-in-Some-clause-did g c = λ order.
    let p = c.args.s.now.p.now in
    let vars = vars_at p c.args.f in
    let ops = g.B.Operations.meaning c.args.m.now in
    let a = c.in-Some.a.now in
    let node = statement_at p c.args.k a order (sym c.in-Some.ensures) vars in
    ap (λ ds. leave ops ds (now_of c.args.self.now (g.B.Operations.held c.args.m.now)))
    (declared_are p c.args.f c.args.k a.pos a.kind node ∙ ap (map (declared p vars)) (sym c.declared_in.ensures))
    ∙ c.leave_block.ensures.did
