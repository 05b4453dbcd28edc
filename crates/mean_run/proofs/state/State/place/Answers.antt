use Rattle.std.proofs.lemmas.Result.{on_ok_weaker}
use Rattle.mean_run.specs.Views.{vars_at}
use Rattle.mean_run.proofs.Designates.{places, places_none}
use Rattle.mean_run.proofs.Nodes.{node_at, there}
use Rattle.mean_run.proofs.state.State.place.Goals as goal

pub returns-in-None : goal.returns-in-None
returns-in-None g c = λ fit.
    let l = rw c.as_slice.ensures at c.in-None.ensures.lookup in
    on_ok_weaker c.designate.result (places_none (g.B.Operations.meaning c.args.m.now)
    (g.B.Operations.held c.args.m.now) c.args.s.now.p.now c.args.f c.args.k _ _ l.0) c.designate.ensures

pub returns-in-Some : goal.returns-in-Some
returns-in-Some g c = λ fit.
    let p = c.args.s.now.p.now in
    let e = c.in-Some.e.now in
    let l = rw c.as_slice.ensures at c.in-Some.ensures.lookup in
    on_ok_weaker c.place_of.result (places (g.B.Operations.meaning c.args.m.now) (g.B.Operations.held c.args.m.now) p
    c.args.f c.args.k c.args.self.now fit.globals e _ (node_at p c.args.k e fit.order l.0 l.1)
    (fit.peeled (vars_at p c.args.f) c.args.k e (there p.exprs c.args.k e l.0 l.1))) c.place_of.ensures
