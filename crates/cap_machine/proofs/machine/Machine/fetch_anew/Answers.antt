use Rattle.std.proofs.Common.{◌≡◌, Ok, sym, ap, ◌∙◌, subst, ◌%◌}
use Rattle.cap_machine.specs.declared.machine.Machine.{Machine}
use Rattle.cap_machine.specs.Code.{counter_at}
use Rattle.cap_machine.specs.Step.{fetched}
use Rattle.cap_machine.proofs.KeptCode.{fetched_aligned, counter_here}
use Rattle.cap_machine.proofs.machine.Machine.fetch_anew.Goals as goal

pub keep-requires : goal.keep-requires
keep-requires c =
    subst (λ n. n % 4 ≡ 0) (sym c.counter.ensures)
    (fetched_aligned c.args.self.now c.in-Ok.i (sym c.in-Ok.ensures.value)).1

pub returns-in-Ok-clause-current : goal.returns-in-Ok-clause-current
returns-in-Ok-clause-current c =
    let m : Machine = c.args.self.now in
    let is : fetched m ≡ Ok c.in-Ok.i = sym c.in-Ok.ensures.value in
    let here : counter_at m c.counter.result ≡ m =
    ap (counter_at m) c.counter.ensures ∙ counter_here m (fetched_aligned m c.in-Ok.i is).0 in
    c.keep.ensures.current m c.requires c.in-Ok.ensures.memory (ap fetched here ∙ is)
