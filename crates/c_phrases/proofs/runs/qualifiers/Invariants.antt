use Rattle.std.proofs.Common.{◌≤◌, length}
use Rattle.c_phrases.specs.Reading.{qualifiers}
use Rattle.c_phrases.specs.Got.{rest_of, Owed, RunsOn}
use Rattle.c_phrases.proofs.runs.qualifiers.Given as goal

abbrev pub decreases-loop-word : goal.decreases-loop-word
decreases-loop-word l = length (rest_of l.cursor)

abbrev pub invariant-loop-word : goal.invariant-loop-word
invariant-loop-word l = record {
  size : Owed l.fn.cursor l.cursor 0;
  low : l.parts.height ≤ 0;
  runs : RunsOn qualifiers l.fn.cursor l.cursor l.parts;
}
