use Rattle.std.proofs.Common.{sym, subst}
use Rattle.tac_run.specs.Ready.{IsRoomy, IsReady}
use Rattle.tac_run.proofs.Going.{begun, further, fewer_left, short, over}
use Rattle.tac_run.proofs.run.Run.run.Goals as goal

pub acts-init : goal.acts-init
acts-init g c = begun _ _ _ _ c.requires.sound

pub step-requires-clause-ready : goal.step-requires-clause-ready
step-requires-clause-ready g c =
    subst (IsReady c.args.program.p.now) (sym c.acts.invariant.under) c.requires.ready

pub step-requires-clause-sound : goal.step-requires-clause-sound
step-requires-clause-sound g c = c.acts.invariant.sound

pub acts-smaller : goal.acts-smaller
acts-smaller g c = fewer_left _ _ _ _ _ _ _ c.acts.invariant c.step.new.self c.in-Ok.ensures.0

pub acts-preserved : goal.acts-preserved
acts-preserved g c =
    further _ _ _ _ _ _ _ c.acts.invariant c.step.new.self c.requires.formed
    (subst (IsRoomy c.args.program.p.now) (sym c.acts.invariant.under) c.requires.ready.roomy) c.in-Ok.ensures.1
    c.in-Ok.ensures.0

pub returns-in-Err-Ended : goal.returns-in-Err-Ended
returns-in-Err-Ended g c =
    let ended = rw c.in-Err-Ended.field-0-is at c.in-Err-Ended.ensures in
    let both = over _ _ _ _ _ _ _ c.acts.invariant _ c.requires.source_room c.requires.sink_room ended in
    record { run = both.0; counted = both.1; short = tt }

pub returns-in-Err-NoMemory : goal.returns-in-Err-NoMemory
returns-in-Err-NoMemory g c =
    let same = rw c.in-Err-NoMemory.field-0-is at c.in-Err-NoMemory.ensures in
    record { run = tt; counted = tt; short = short _ _ _ _ _ _ _ c.acts.invariant same }
