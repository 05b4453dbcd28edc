use Rattle.std.proofs.Common.{sym}
use Rattle.std.proofs.lemmas.Result.{on_ok_weaker}
use Rattle.mean_run.proofs.Executes.{proceeds_in, proceeds_none}
use Rattle.mean_run.proofs.Nodes.{statement_at}
use Rattle.mean_run.proofs.state.State.rest.Goals as goal

pub returns-in-None : goal.returns-in-None
returns-in-None c = λ order.
    proceeds_none c.args.p.now c.args.f c.args.k c.args.n c.args.self.now (sym c.in-None.ensures)

pub returns-in-Some : goal.returns-in-Some
returns-in-Some c = λ order.
    on_ok_weaker c.rest_of.result (proceeds_in c.args.p.now c.args.f c.args.k c.args.n c.in-Some.a.now _ _
    (statement_at c.args.p.now c.args.k c.in-Some.a.now order (sym c.in-Some.ensures))) c.rest_of.ensures
