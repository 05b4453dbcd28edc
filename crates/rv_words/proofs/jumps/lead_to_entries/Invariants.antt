use Rattle.std.proofs.Common.{take}
use Rattle.rv_words.specs.Leading.{AreLed, AreLedSoFar, IsEnteredAt}
use Rattle.rv_words.proofs.jumps.lead_to_entries.Given as goal

abbrev pub invariant-loop-call : goal.invariant-loop-call
invariant-loop-call l = record {
  led : AreLed l.fn.words.items l.words.items;
  there : AreLedSoFar (IsEnteredAt l.entries) l.calls (take l.call-index l.calls) l.fn.words.items l.words.items;
}
