use Rattle.std.proofs.Common.{sym, arith}
use Rattle.mean_run.proofs.state.State.enter_frame.Goals as goal

pub enter_at-requires-clause-entered : goal.enter_at-requires-clause-entered
enter_at-requires-clause-entered g c = (c.args.self.now.call.frame, omega arith, sym c.in-Some.ensures)
