use Rattle.std.proofs.Common.{◌-◌}
use Rattle.ck_base.specs.Calls.{seen}
use Rattle.ck_base.specs.RunLaws.{Running}
use Rattle.cap_machine.specs.Step.{act, limits}
use Rattle.std.proofs.Common.{None}
use Rattle.cap_machine.specs.Containment.{StaysContained}
use Rattle.cap_machine.specs.Code.{Current}
use Rattle.cap_machine.proofs.machine.Machine.run.Given as goal

abbrev pub invariant-loop-done : goal.invariant-loop-done
invariant-loop-done g l = record {
  running : Running limits act l.fn.steps l.fn.self
      (seen (g.I.Source.left l.fn.input) (g.I.Source.faults l.fn.input) (g.O.Sink.held l.fn.out)
      (g.O.Sink.faults l.fn.out)) (seen (g.I.Source.left l.input) (g.I.Source.faults l.input) (g.O.Sink.held l.out)
      (g.O.Sink.faults l.out)) l.self (l.fn.steps - l._done);
  current : Current l.code l.self;
  contained : StaysContained l.fn.self l.self None;
}
