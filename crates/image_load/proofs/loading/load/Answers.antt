use Rattle.std.proofs.Common.{Ok, rules}
use Rattle.image_load.specs.State.{machine_of}
use Rattle.image_load.specs.Loading.{Loads}
use Rattle.image_load.proofs.First.{first_contained}
use Rattle.cap_machine.proofs.Containment.{runs_contained}
use Rattle.image_load.specs.Contained.{text_in}
use Rattle.std.proofs.Common.{sym}
use Rattle.image_load.proofs.Sorted.{loads_refused}
use Rattle.image_load.proofs.loading.load.Goals as goal

pub returns-in-Err-clause-value : goal.returns-in-Err-clause-value
returns-in-Err-clause-value c = loads_refused c.args.view.now c.in-Err.refusal (sym c.in-Err.ensures)

pub returns-clause-contained : goal.returns-clause-contained
unfolding machine_of
returns-clause-contained c contained =
    let value : Loads c.args.view.now (Ok (record
    { regs = c.registers_of.result; pc = c.counter_of.result; mem = c.in-Ok.mem })) = search rules in
    rw value.1 (first_contained c.args.view.now value.0 contained c.in-Ok.ensures.text c.in-Ok.ensures.initial)

pub returns-clause-runs : goal.returns-clause-runs
unfolding machine_of
returns-clause-runs c contained =
    let value : Loads c.args.view.now (Ok (record
    { regs = c.registers_of.result; pc = c.counter_of.result; mem = c.in-Ok.mem })) = search rules in
    let first = first_contained c.args.view.now value.0 contained c.in-Ok.ensures.text c.in-Ok.ensures.initial in
    runs_contained (text_in c.args.view.now) first.lies contained.text _ (rw value.1 first)
