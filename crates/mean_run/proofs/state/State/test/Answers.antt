use Rattle.std.proofs.Common.{sym}
use Rattle.std.proofs.lemmas.Result.{on_ok_weaker}
use Rattle.mean_run.proofs.Executes.{comes_none, comes_to_test}
use Rattle.mean_run.proofs.Nodes.{statement_at}
use Rattle.mean_run.proofs.state.State.test.Goals as goal

pub returns-in-None : goal.returns-in-None
returns-in-None c = λ order.
    on_ok_weaker c.then.result
    (comes_none c.args.p.now c.args.f c.args.k _ _ (sym c.in-None.ensures)) c.then.ensures

pub returns-in-Some : goal.returns-in-Some
returns-in-Some c = λ order.
    on_ok_weaker c.test_of.result (comes_to_test c.args.p.now c.args.f c.args.k c.in-Some.a.now _ _
    (statement_at c.args.p.now c.args.k c.in-Some.a.now order (sym c.in-Some.ensures))) c.test_of.ensures
