use Rattle.mean_run.specs.Views.{vars_at}
use Rattle.mean_run.proofs.Nodes.{node_at, there}
use Rattle.mean_run.proofs.Placing.{place_finishes, place_none}
use Rattle.mean_run.proofs.Stating.{both_same}
use Rattle.mean_run.proofs.state.State.finish_place.Goals as goal

pub returns-in-None-clause-does : goal.returns-in-None-clause-does
returns-in-None-clause-does g c = λ fit.
    let ops = g.B.Operations.meaning c.args.m.now in
    let held = g.B.Operations.held c.args.m.now in
    let l = rw c.as_slice.ensures at c.in-None.ensures.lookup in
    place_none ops c.args.s.now.p.now c.args.f c.args.k held held c.args.self.now c.nowhere.new.self
    c.nowhere.result l.0
    (both_same _ _ c.nowhere.result c.nowhere.ensures)

pub returns-in-Some-clause-does : goal.returns-in-Some-clause-does
returns-in-Some-clause-does g c = λ fit.
    let ops = g.B.Operations.meaning c.args.m.now in
    let held = g.B.Operations.held c.args.m.now in
    let p = c.args.s.now.p.now in
    let left = g.B.Operations.held c.finish_place_of.new.m in
    let e = c.in-Some.e.now in
    let l = rw c.as_slice.ensures at c.in-Some.ensures.lookup in
    let at = there p.exprs c.args.k e l.0 l.1 in
    place_finishes ops p c.args.f c.args.k held left c.args.self.now c.finish_place_of.new.self
    c.finish_place_of.result e
    (node_at p c.args.k e fit.order l.0 l.1) (fit.peeled (vars_at p c.args.f) c.args.k e at)
    (λ a n h. fit.members c.args.k a n e at h) (fit.sizes c.args.k e at) (c.finish_place_of.ensures.does fit)
