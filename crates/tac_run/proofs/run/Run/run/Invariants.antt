use Rattle.ck_base.specs.Calls.{seen}
use Rattle.tac_steps.specs.Weights.{acts_left}
use Rattle.tac_run.specs.Views.{moment_of}
use Rattle.tac_run.proofs.Going.{GoesOn}
use Rattle.tac_run.proofs.run.Run.run.Given as goal

abbrev pub invariant-acts : goal.invariant-acts
invariant-acts g l =
    GoesOn l.program.t.now l.program.p.now l.fn.self
    (seen (g.I.Source.left l.fn.input) (g.I.Source.faults l.fn.input) (g.O.Sink.held l.fn.out)
    (g.O.Sink.faults l.fn.out))
    l.self (seen (g.I.Source.left l.input) (g.I.Source.faults l.input) (g.O.Sink.held l.out) (g.O.Sink.faults l.out))

abbrev pub decreases-acts : goal.decreases-acts
decreases-acts g l = acts_left l.program.t.now (moment_of l.self)
