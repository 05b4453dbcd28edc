use Rattle.std.proofs.Common.{sym}
use Rattle.mean_run.proofs.Branching.{agains, agains_none}
use Rattle.mean_run.proofs.Nodes.{statement_at}
use Rattle.mean_run.proofs.state.State.again.Goals as goal

pub returns-in-None : goal.returns-in-None
returns-in-None c = λ order ops held.
    agains_none ops held c.args.p.now c.args.f c.args.k c.args.self.now c.turned.new.self _ (sym c.in-None.ensures)
    c.turned.ensures

pub returns-in-Some : goal.returns-in-Some
returns-in-Some c = λ order ops held.
    let p = c.args.p.now in
    agains ops held p c.args.f c.args.k c.args.self.now c.again_of.new.self _ c.in-Some.a.now
    (statement_at p c.args.k c.in-Some.a.now order (sym c.in-Some.ensures)) c.again_of.ensures
