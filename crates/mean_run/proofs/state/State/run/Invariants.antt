use Rattle.std.proofs.Common.{◌≡◌}
use Rattle.ck_base.specs.Calls.{seen}
use Rattle.mean_steps.specs.Weights.{acts_left}
use Rattle.mean_run.specs.Views.{funs_of, moment_of}
use Rattle.mean_run.proofs.Going.{Going, Reached}
use Rattle.mean_run.proofs.state.State.run.Given as goal

abbrev pub invariant-acts : goal.invariant-acts
invariant-acts g l =
    let ops = g.B.Operations.meaning l.fn.m in
    let p = l.s.p.now in
    let before = seen (g.I.Source.left l.fn.input) (g.I.Source.faults l.fn.input)
    (g.O.Sink.held l.fn.out) (g.O.Sink.faults l.fn.out) in
    let after = seen (g.I.Source.left l.input) (g.I.Source.faults l.input)
    (g.O.Sink.held l.out) (g.O.Sink.faults l.out) in
    record {
      same : g.B.Operations.meaning l.m ≡ ops;
      going : Going ops p l.fn.self.left before after (moment_of p l.self (g.B.Operations.held l.m));
      reached : Reached ops p l.fn.self.left (moment_of p l.self (g.B.Operations.held l.m));
    }

abbrev pub decreases-acts : goal.decreases-acts
decreases-acts g l = acts_left (funs_of l.s.p.now) (moment_of l.s.p.now l.self (g.B.Operations.held l.m))
