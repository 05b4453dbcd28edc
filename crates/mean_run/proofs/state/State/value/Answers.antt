use Rattle.std.proofs.lemmas.Result.{on_ok_weaker}
use Rattle.mean_run.specs.Views.{vars_at}
use Rattle.mean_run.proofs.Begins.{begins, begins_none}
use Rattle.mean_run.proofs.Nodes.{node_at, there}
use Rattle.mean_run.proofs.state.State.value.Goals as goal

pub returns-in-None : goal.returns-in-None
returns-in-None c = λ fit.
    let l = rw c.as_slice.ensures at c.in-None.ensures.lookup in
    on_ok_weaker c.give.result (begins_none c.args.s.now.p.now c.args.f c.args.k _ _ l.0) c.give.ensures

pub returns-in-Some : goal.returns-in-Some
returns-in-Some c = λ fit.
    let p = c.args.s.now.p.now in
    let e = c.in-Some.e.now in
    let l = rw c.as_slice.ensures at c.in-Some.ensures.lookup in
    on_ok_weaker c.value_of.result (begins p c.args.f c.args.k e _ _ (node_at p c.args.k e fit.order l.0 l.1)
    (fit.peeled (vars_at p c.args.f) c.args.k e (there p.exprs c.args.k e l.0 l.1))) c.value_of.ensures
