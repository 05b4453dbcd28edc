use Rattle.std.proofs.Common.{refl, sym}
use Rattle.mean_run.specs.Views.{vars_at}
use Rattle.mean_run.proofs.Nodes.{no_statement, statement_at}
use Rattle.mean_run.proofs.Stating.{initializes_by}
use Rattle.mean_run.proofs.state.State.initialize.Goals as goal

pub returns-in-None-clause-does : goal.returns-in-None-clause-does
returns-in-None-clause-does g c = λ order.
    let p = c.args.s.now.p.now in
    rw (no_statement p (vars_at p c.args.f) c.args.k (sym c.in-None.ensures)) refl

pub returns-in-Some-clause-does : goal.returns-in-Some-clause-does
returns-in-Some-clause-does g c = λ fit.
    let p = c.args.s.now.p.now in
    let a = c.in-Some.a.now in
    initializes_by (g.B.Operations.meaning c.args.m.now) p c.args.f c.args.k a.pos (g.B.Operations.held c.args.m.now)
    (g.B.Operations.held c.initialize_of.new.m) c.args.self.now c.initialize_of.new.self c.initialize_of.result a.kind
    (statement_at p c.args.k a fit.order (sym c.in-Some.ensures) (vars_at p c.args.f))
    (fit.initials c.args.k a (sym c.in-Some.ensures)) (c.initialize_of.ensures.does fit)
