use Rattle.mean_run.proofs.Finishes.{finishes}
use Rattle.mean_run.proofs.state.State.finish_of.Goals as goal

pub returns-clause-does : goal.returns-clause-does
returns-clause-does g c = λ fit node peeled sized.
    finishes (g.B.Operations.meaning c.args.m.now) c.args.s.now.p.now c.args.f c.args.k
    (g.B.Operations.held c.args.m.now) (g.B.Operations.held c.finish_by.new.m) c.args.self.now c.finish_by.new.self
    c.finish_by.result c.args.e.now node peeled sized c.requires.no_call (c.finish_by.ensures.does fit)
