use Rattle.std.proofs.Common.{refl, sym}
use Rattle.cheri_c_sem.specs.Tree.{Empty}
use Rattle.mean_run.specs.Views.{vars_at}
use Rattle.mean_run.proofs.Nodes.{no_statement, statement_at}
use Rattle.mean_run.proofs.Stating.{both_same, lost, switches_by}
use Rattle.mean_run.proofs.state.State.switch.Goals as goal

pub returns-in-None-clause-does : goal.returns-in-None-clause-does
returns-in-None-clause-does g c = λ order.
    let p = c.args.s.now.p.now in
    rw (no_statement p (vars_at p c.args.f) c.args.k (sym c.in-None.ensures))
    (lost (g.B.Operations.meaning c.args.m.now) p c.args.f c.args.k
    (record { line = 0; col = 0 }) (g.B.Operations.held c.args.m.now) (g.B.Operations.held c.args.m.now) c.args.self.now
    c.lose.new.self c.lose.result Empty refl (both_same _ _ c.lose.result c.lose.ensures))

pub returns-in-Some-clause-does : goal.returns-in-Some-clause-does
returns-in-Some-clause-does g c = λ order.
    let p = c.args.s.now.p.now in
    let a = c.in-Some.a.now in
    switches_by (g.B.Operations.meaning c.args.m.now) p c.args.f c.args.k a.pos (g.B.Operations.held c.args.m.now)
    (g.B.Operations.held c.switch_of.new.m) c.args.self.now c.switch_of.new.self c.switch_of.result a.kind
    (statement_at p c.args.k a order (sym c.in-Some.ensures) (vars_at p c.args.f)) c.switch_of.ensures.does
