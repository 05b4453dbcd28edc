use Rattle.std.proofs.Common.{◌≤◌, length}
use Rattle.c_phrases.specs.Reading.{pieces}
use Rattle.c_phrases.specs.Got.{rest_of, Owed, RunsOn}
use Rattle.c_phrases.proofs.runs.pieces.Given as goal

abbrev pub decreases-loop-item : goal.decreases-loop-item
decreases-loop-item l = length (rest_of l.cursor)

abbrev pub invariant-loop-item : goal.invariant-loop-item
invariant-loop-item l = record {
  size : Owed l.fn.cursor l.cursor 0;
  low : l.parts.height ≤ 1;
  runs : RunsOn pieces l.fn.cursor l.cursor l.parts;
}
