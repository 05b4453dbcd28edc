use Rattle.std.proofs.Common.{◌≡◌, suc, ◌+◌, ◌-◌, arith, subst}
use Rattle.ck_base.specs.Calls.{seen}
use Rattle.ck_base.specs.Runs.{state_and_ending}
use Rattle.ck_base.specs.RunLaws.{Running, Running-first, Running-acted, run_ended, run_all}
use Rattle.cap_machine.specs.Step.{act, limits}
use Rattle.cap_machine.proofs.Endings.{own_endings}
use Rattle.cap_machine.proofs.KeptCode.{empty_current}
use Rattle.cap_machine.proofs.machine.Machine.run.Goals as goal

pub loop-done-init : goal.loop-done-init
loop-done-init g c =
    let first = seen (g.I.Source.left c.args.input.now) (g.I.Source.faults c.args.input.now)
    (g.O.Sink.held c.args.out.now) (g.O.Sink.faults c.args.out.now) in
    let k : c.args.steps ≡ c.args.steps - 0 = omega arith in
    record {
      running = subst (λ k. Running limits act c.args.steps c.args.self.now first first c.args.self.now k) k
          (Running-first limits act c.args.steps c.args.self.now first);
      current = empty_current c.new-code.result c.args.self.now c.new-code.ensures;
      contained = λ t text has. record { state = has; proper = tt };
    }

pub loop-done-preserved : goal.loop-done-preserved
loop-done-preserved g c =
    let first = seen (g.I.Source.left c.args.input.now) (g.I.Source.faults c.args.input.now)
    (g.O.Sink.held c.args.out.now) (g.O.Sink.faults c.args.out.now) in
    let now = seen (g.I.Source.left c.loop-done.input) (g.I.Source.faults c.loop-done.input)
    (g.O.Sink.held c.loop-done.out) (g.O.Sink.faults c.loop-done.out) in
    let k : c.args.steps - c.loop-done._done ≡ suc (c.args.steps - (c.loop-done._done + 1)) = omega arith in
    let running = subst (λ k. Running limits act c.args.steps c.args.self.now first now c.loop-done.self k) k
    c.loop-done.invariant.running in
    record {
      running = Running-acted limits act c.args.steps c.args.self.now first now _ c.loop-done.self c.next_step.new.self
          _ running c.in-Next.ensures.acted;
      current = c.in-Next.ensures.current;
      contained = λ t text has. c.in-Next.ensures.contained t text (c.loop-done.invariant.contained t text has).state;
    }

pub next_step-requires : goal.next_step-requires
next_step-requires g c = c.loop-done.invariant.current

pub returns-in-Ended : goal.returns-in-Ended
returns-in-Ended g c =
    let first = seen (g.I.Source.left c.args.input.now) (g.I.Source.faults c.args.input.now)
    (g.O.Sink.held c.args.out.now) (g.O.Sink.faults c.args.out.now) in
    let now = seen (g.I.Source.left c.loop-done.input) (g.I.Source.faults c.loop-done.input)
    (g.O.Sink.held c.loop-done.out) (g.O.Sink.faults c.loop-done.out) in
    let k : c.args.steps - c.loop-done._done ≡ suc (c.args.steps - (c.loop-done._done + 1)) = omega arith in
    let running = subst (λ k. Running limits act c.args.steps c.args.self.now first now c.loop-done.self k) k
    c.loop-done.invariant.running in
    let both = run_ended limits act own_endings state_and_ending c.args.steps c.args.self.now first now _
    c.loop-done.self c.next_step.new.self _ c.in-Ended.end c.requires.source_room c.requires.sink_room running
    c.in-Ended.ensures.acted in
    record {
      run = both.0;
      counted = both.1;
      contained = λ t text has. c.in-Ended.ensures.contained t text
          (c.loop-done.invariant.contained t text has).state;
    }

pub returns : goal.returns
returns g c =
    let first = seen (g.I.Source.left c.args.input.now) (g.I.Source.faults c.args.input.now)
    (g.O.Sink.held c.args.out.now) (g.O.Sink.faults c.args.out.now) in
    let now = seen (g.I.Source.left c.loop-done.input) (g.I.Source.faults c.loop-done.input)
    (g.O.Sink.held c.loop-done.out) (g.O.Sink.faults c.loop-done.out) in
    let k : c.args.steps - c.loop-done._done ≡ 0 = omega arith in
    let running = subst (λ k. Running limits act c.args.steps c.args.self.now first now c.loop-done.self k) k
    c.loop-done.invariant.running in
    let both = run_all limits act own_endings state_and_ending c.args.steps c.args.self.now first now c.loop-done.self
    running in
    record {
      run = both.0;
      counted = both.1;
      contained = λ t text has. record { state = (c.loop-done.invariant.contained t text has).state; proper = tt };
    }
