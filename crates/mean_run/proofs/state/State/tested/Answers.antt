use Rattle.std.proofs.Common.{sym}
use Rattle.mean_run.proofs.Branching.{tests, tests_none}
use Rattle.mean_run.proofs.Nodes.{statement_at}
use Rattle.mean_run.proofs.state.State.tested.Goals as goal

pub returns-in-None : goal.returns-in-None
returns-in-None g c = λ order.
    tests_none (g.B.Operations.meaning c.args.m.now) (g.B.Operations.held c.args.m.now) c.args.s.now.p.now c.args.f
    c.args.k _ _ _ (sym c.in-None.ensures) c.untested.ensures

pub returns-in-Some : goal.returns-in-Some
returns-in-Some g c = λ order.
    tests (g.B.Operations.meaning c.args.m.now) (g.B.Operations.held c.args.m.now) c.args.s.now.p.now c.args.f c.args.k
    _ _ _ c.in-Some.a.now (statement_at c.args.s.now.p.now c.args.k c.in-Some.a.now order (sym c.in-Some.ensures))
    c.tested_of.ensures
