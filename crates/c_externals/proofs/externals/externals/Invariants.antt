use Rattle.std.proofs.Common.{◌≤◌, length}
use Rattle.c_phrases.specs.Got.{rest_of, in_force, Owed}
use Rattle.c_externals.specs.Blocks.{Gathers}
use Rattle.c_externals.proofs.externals.externals.Given as goal

-- what was read so far stands before what is left
abbrev pub invariant-list : goal.invariant-list
invariant-list l = record {
  size : Owed l.fn.cursor l.cursor 0;
  low : l.parts.height ≤ 200;
  gathers : Gathers l.fn.cursor l.cursor (in_force l.fn.types) (in_force l.types) 199 l.parts;
}

abbrev pub decreases-list : goal.decreases-list
decreases-list l = length (rest_of l.cursor)
