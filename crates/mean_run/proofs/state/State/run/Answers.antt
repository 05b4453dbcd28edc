use Rattle.std.proofs.Common.{refl, ◌∙◌}
use Rattle.ck_base.specs.Calls.{seen}
use Rattle.mean_run.specs.Views.{moment_of}
use Rattle.mean_run.proofs.Going.{bases_at, begun, fewer, further, over, reached, short}
use Rattle.mean_run.proofs.state.State.run.Goals as goal

pub acts-init : goal.acts-init
acts-init g c = record { same = refl; going = begun _ _ _ _ _ c.requires.first; reached = (0, c.requires.first) }

pub acts-smaller : goal.acts-smaller
acts-smaller g c =
    let next = seen (g.I.Source.left c.step.new.input) (g.I.Source.faults c.step.new.input)
    (g.O.Sink.held c.step.new.out) (g.O.Sink.faults c.step.new.out) in
    let m' = moment_of c.args.s.now.p.now c.step.new.self (g.B.Operations.held c.step.new.m) in
    fewer _ _ _ _ _ next _ c.acts.invariant.going _ c.acts.invariant.same m' (c.in-Ok.ensures.does c.requires.fit)

pub acts-preserved : goal.acts-preserved
acts-preserved g c =
    let next = seen (g.I.Source.left c.step.new.input) (g.I.Source.faults c.step.new.input)
    (g.O.Sink.held c.step.new.out) (g.O.Sink.faults c.step.new.out) in
    let m' = moment_of c.args.s.now.p.now c.step.new.self (g.B.Operations.held c.step.new.m) in
    record {
      same = c.step.ensures.same ∙ c.acts.invariant.same;
      going = further _ _ _ _ _ next _ c.acts.invariant.going _ c.acts.invariant.same m'
          (c.in-Ok.ensures.does c.requires.fit);
      reached = reached _ _ _ _ _ next _ c.acts.invariant.going _ c.acts.invariant.same m' c.acts.invariant.reached
          (c.in-Ok.ensures.does c.requires.fit);
    }

pub step-requires-clause-bases : goal.step-requires-clause-bases
step-requires-clause-bases g c =
    let ops = g.B.Operations.meaning c.args.m.now in
    let held = g.B.Operations.held c.acts.m in
    let t = moment_of c.args.s.now.p.now c.acts.self held in
    bases_at ops c.args.s.now.p.now c.args.self.now.left (g.B.Operations.meaning c.acts.m) held t.values
    c.acts.invariant.same (c.requires.bases t c.acts.invariant.reached)

pub returns-in-Err-Ended : goal.returns-in-Err-Ended
returns-in-Err-Ended g c =
    let next = seen (g.I.Source.left c.step.new.input) (g.I.Source.faults c.step.new.input)
    (g.O.Sink.held c.step.new.out) (g.O.Sink.faults c.step.new.out) in
    let ended = rw c.in-Err-Ended.field-0-is at c.in-Err-Ended.ensures.does c.requires.fit in
    let both = over _ _ _ _ _ next _ c.acts.invariant.going _ c.acts.invariant.same _ c.requires.source_room
    c.requires.sink_room ended in
    record { run = both.0; counted = both.1; short = tt }

pub returns-in-Err-NoMemory : goal.returns-in-Err-NoMemory
returns-in-Err-NoMemory g c =
    let kept = rw c.in-Err-NoMemory.field-0-is at c.in-Err-NoMemory.ensures.does c.requires.fit in
    let stopped = short _ _ _ _ _ _ _ c.acts.invariant.going _ c.acts.invariant.same kept in
    record { run = tt; counted = tt; short = stopped }
