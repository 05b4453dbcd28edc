use Rattle.rv_words.specs.Leading.{IsEnteredAt}
use Rattle.rv_words.proofs.Targets.{led_none, led_then, entered_keep}
use Rattle.rv_words.proofs.Led.{so_far_none, so_far_next, so_far_all}
use Rattle.rv_words.proofs.jumps.lead_to_entries.Goals as goal

pub loop-call-init : goal.loop-call-init
loop-call-init c = record {
  led = led_none _ c.requires.sound;
  there = so_far_none (IsEnteredAt c.args.entries.now) c.args.calls.now _;
}

pub lead_to_entry-requires-clause-entries : goal.lead_to_entry-requires-clause-entries
lead_to_entry-requires-clause-entries c = entered_keep _ _ _ c.loop-call.invariant.led.keeps c.requires.entries

pub loop-call-preserved : goal.loop-call-preserved
loop-call-preserved c = record {
  led = led_then _ _ _ c.loop-call.invariant.led c.lead_to_entry.ensures.led;
  there = so_far_next (IsEnteredAt c.args.entries.now) c.args.calls.now c.loop-call.call-index _ _ _ _
      c.loop-call-test.true c.loop-call.invariant.there c.lead_to_entry.ensures.there;
}

pub returns-clause-there : goal.returns-clause-there
returns-clause-there c =
    so_far_all (IsEnteredAt c.args.entries.now) c.args.calls.now c.loop-call.call-index _ _ c.loop-call-test.false
    c.loop-call.invariant.there
