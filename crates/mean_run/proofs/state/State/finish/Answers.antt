use Rattle.mean_run.specs.Views.{vars_at}
use Rattle.mean_run.proofs.Finishes.{finishes_none}
use Rattle.mean_run.proofs.Nodes.{node_at, there}
use Rattle.mean_run.proofs.Serving.{does_stepped}
use Rattle.mean_run.proofs.Stating.{both_same}
use Rattle.mean_run.proofs.state.State.finish.Goals as goal

pub returns-in-None-clause-does : goal.returns-in-None-clause-does
returns-in-None-clause-does g c = λ fit before.
    let ops = g.B.Operations.meaning c.args.m.now in
    let held = g.B.Operations.held c.args.m.now in
    let l = rw c.as_slice.ensures at c.in-None.ensures.lookup in
    does_stepped _ _ before _ c.give_nothing.result (finishes_none ops c.args.s.now.p.now c.args.f c.args.k held held
    c.args.self.now c.give_nothing.new.self c.give_nothing.result l.0
    (both_same _ _ c.give_nothing.result c.give_nothing.ensures))

pub returns-in-Some-clause-does : goal.returns-in-Some-clause-does
returns-in-Some-clause-does g c = λ fit before.
    let p = c.args.s.now.p.now in
    let e = c.in-Some.e.now in
    let l = rw c.as_slice.ensures at c.in-Some.ensures.lookup in
    let at = there p.exprs c.args.k e l.0 l.1 in
    c.finish_at.ensures.does fit (node_at p c.args.k e fit.order l.0 l.1)
    (fit.peeled (vars_at p c.args.f) c.args.k e at)
    (fit.sizes c.args.k e at) before
