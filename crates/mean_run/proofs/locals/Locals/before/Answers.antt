use Rattle.mean_run.proofs.Counts.{before_found, before_last}
use Rattle.mean_run.proofs.Nodes.{past, there}
use Rattle.mean_run.proofs.locals.Locals.before.Goals as goal

pub returns-in-Some-get : goal.returns-in-Some-get
returns-in-Some-get c = λ p known.
    let l = rw (c.deref.ensures.value, c.self.view_is) at c.in-Some.ensures.lookup in
    let m = rw c.as_slice.ensures at c.in-Some-get.ensures.lookup in
    before_found p.funs c.args.self.now known c.args.f c.in-Some.counts.now c.args.x _
    (there c.args.self.now c.args.f _ l.0 l.1) (there c.in-Some.counts.now c.args.x _ m.0 m.1)

pub returns-in-None-get : goal.returns-in-None-get
returns-in-None-get c = λ p known.
    let l = rw (c.deref.ensures.value, c.self.view_is) at c.in-Some.ensures.lookup in
    let n = rw c.as_slice.ensures at c.in-None-get.ensures.lookup in
    before_last p.funs c.args.self.now known c.args.f c.in-Some.counts.now c.args.x _
    (there c.args.self.now c.args.f _ l.0 l.1)
    (past c.in-Some.counts.now c.args.x n.0)
    (rw c.as_slice-in-None-get.ensures at c.last_of.ensures)
