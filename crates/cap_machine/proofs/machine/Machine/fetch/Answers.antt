use Rattle.std.proofs.Common.{sym, ap, ◌∙◌}
use Rattle.cap_machine.specs.declared.machine.Machine.{Machine}
use Rattle.cap_machine.specs.Code.{counter_at}
use Rattle.cap_machine.specs.Step.{fetched}
use Rattle.cap_machine.proofs.KeptCode.{counter_here}
use Rattle.cap_machine.proofs.machine.Machine.fetch.Goals as goal

pub returns-in-Some-clause-value : goal.returns-in-Some-clause-value
returns-in-Some-clause-value c =
    let m : Machine = c.args.self.now in
    let kept = (c.requires c.counter.result c.in-Some.i (sym c.in-Some.ensures)).fetched in
    sym (sym (ap fetched (ap (counter_at m) c.counter.ensures ∙ counter_here m c.if-self.true)) ∙ kept)
