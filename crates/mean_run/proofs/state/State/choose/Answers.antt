use Rattle.mean_run.specs.Views.{vars_at}
use Rattle.mean_run.proofs.Chooses.{chooses, chooses_none}
use Rattle.mean_run.proofs.Nodes.{node_at, there}
use Rattle.mean_run.proofs.state.State.choose.Goals as goal

pub returns-in-None : goal.returns-in-None
returns-in-None g c = λ fit.
    let l = rw c.as_slice.ensures at c.in-None.ensures.lookup in
    chooses_none (g.B.Operations.meaning c.args.m.now) c.args.s.now.p.now c.args.f c.args.k
    (g.B.Operations.held c.args.m.now) _ _ _ l.0 c.no_choice.ensures

pub returns-in-Some : goal.returns-in-Some
returns-in-Some g c = λ fit.
    let p = c.args.s.now.p.now in
    let e = c.in-Some.e.now in
    let l = rw c.as_slice.ensures at c.in-Some.ensures.lookup in
    chooses (g.B.Operations.meaning c.args.m.now) p c.args.f c.args.k (g.B.Operations.held c.args.m.now) _ _ _ e
    (node_at p c.args.k e fit.order l.0 l.1)
    (fit.peeled (vars_at p c.args.f) c.args.k e (there p.exprs c.args.k e l.0 l.1)) c.choose_of.ensures
