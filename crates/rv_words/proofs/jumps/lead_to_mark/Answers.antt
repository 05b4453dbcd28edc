use Rattle.rv_words.specs.Leading.{StandsAt}
use Rattle.rv_words.proofs.Targets.{marked_target}
use Rattle.rv_words.proofs.Led.{jump_led, jump_not}
use Rattle.rv_words.proofs.jumps.lead_to_mark.Goals as goal

pub lead-requires-clause-target : goal.lead-requires-clause-target
lead-requires-clause-target c = marked_target _ _ _ c.requires.marks c.in-Some.ensures.marked

pub returns-in-Some-clause-there : goal.returns-in-Some-clause-there
returns-in-Some-clause-there c =
    jump_led (StandsAt c.args.marks.now) c.args.jump _ _ _ c.in-Some.ensures.found c.lead.ensures.there

pub returns-in_default-clause-there : goal.returns-in_default-clause-there
returns-in_default-clause-there c = jump_not (StandsAt c.args.marks.now) c.args.jump _ c.in_default.ensures.none
