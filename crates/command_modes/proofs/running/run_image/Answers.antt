use Rattle.std.proofs.Common.{subst}
use Rattle.ck_base.specs.Calls.{seen, IsRun}
use Rattle.ck_base.specs.Runs.{outcome, state_and_ending, ending_alone}
use Rattle.ck_base.specs.RunLaws.{IsRun-less}
use Rattle.cap_machine.specs.Step.{act, limits}
use Rattle.cap_machine.specs.declared.machine.Machine.{Machine}
use Rattle.image_load.specs.Contained.{text_in}
use Rattle.command_modes.proofs.running.run_image.Goals as goal

pub returns : goal.returns
returns g c =
    let before = seen (g.I.Source.left c.args.input.now) (g.I.Source.faults c.args.input.now)
    (g.O.Sink.held c.args.out.now) (g.O.Sink.faults c.args.out.now) in
    let after = seen (g.I.Source.left c.run-end.new.input) (g.I.Source.faults c.run-end.new.input)
    (g.O.Sink.held c.run-end.new.out) (g.O.Sink.faults c.run-end.new.out) in
    let run = IsRun-less limits act state_and_ending (λ x. x.1) c.args.steps c.in_ok-machine.machine before after
    (c.run-end.new.self, c.run-end.result) c.run-end.ensures.run in (
      c.in_ok-machine.ensures.value.0,
      record {
        ending = c.run-end.result;
        ran = subst (λ (m : Machine). IsRun (outcome limits act ending_alone m c.args.steps) before after
            c.run-end.result) c.in_ok-machine.ensures.value.1 run;
        counted = c.run-end.ensures.counted;
        proper = λ h. (c.run-end.ensures.contained (text_in c.args.view.now) h.text
            (c.in_ok-machine.ensures.contained h)).proper;
        answered = c.answer_of.ensures;
      },
    )
