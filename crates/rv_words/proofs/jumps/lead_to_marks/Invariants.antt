use Rattle.std.proofs.Common.{take}
use Rattle.rv_words.specs.Leading.{AreLed, AreLedSoFar, StandsAt}
use Rattle.rv_words.proofs.jumps.lead_to_marks.Given as goal

abbrev pub invariant-loop-jump : goal.invariant-loop-jump
invariant-loop-jump l = record {
  led : AreLed l.fn.words.items l.words.items;
  there : AreLedSoFar (StandsAt l.marks) l.jumps (take l.jump-index l.jumps) l.fn.words.items l.words.items;
}
