use Rattle.rv_words.specs.Leading.{StandsAt}
use Rattle.rv_words.proofs.Targets.{led_none, led_then, marks_keep}
use Rattle.rv_words.proofs.Led.{so_far_none, so_far_next, so_far_all}
use Rattle.rv_words.proofs.jumps.lead_to_marks.Goals as goal

pub loop-jump-init : goal.loop-jump-init
loop-jump-init c = record {
  led = led_none _ c.requires.sound;
  there = so_far_none (StandsAt c.args.marks.now) c.args.jumps.now _;
}

pub lead_to_mark-requires-clause-marks : goal.lead_to_mark-requires-clause-marks
lead_to_mark-requires-clause-marks c = marks_keep _ _ _ c.loop-jump.invariant.led.keeps c.requires.marks

pub loop-jump-preserved : goal.loop-jump-preserved
loop-jump-preserved c = record {
  led = led_then _ _ _ c.loop-jump.invariant.led c.lead_to_mark.ensures.led;
  there = so_far_next (StandsAt c.args.marks.now) c.args.jumps.now c.loop-jump.jump-index _ _ _ _ c.loop-jump-test.true
      c.loop-jump.invariant.there c.lead_to_mark.ensures.there;
}

pub returns-clause-there : goal.returns-clause-there
returns-clause-there c =
    so_far_all (StandsAt c.args.marks.now) c.args.jumps.now c.loop-jump.jump-index _ _ c.loop-jump-test.false
    c.loop-jump.invariant.there
