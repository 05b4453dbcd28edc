use Rattle.std.proofs.Common.{◌≤◌, length}
use Rattle.c_tree.specs.Syntax.{Syn, Syns}
use Rattle.c_phrases.specs.Got.{rest_of, in_force, naming_of, Owed, Means, Holds}
use Rattle.c_externals.specs.Blocks.{Declares}
use Rattle.c_externals.proofs.declarations.declarators.Given as goal

-- what was read so far stands before what is left
abbrev pub invariant-list : goal.invariant-list
invariant-list l = record {
  size : Owed l.fn.cursor l.cursor 1;
  low : l.parts.height ≤ l.below;
  longer : length (in_force l.fn.types) ≤ length (in_force l.types);
  declares : (ys : Syns) (x : Syn) → Holds l.fn.cursor.nodes.items l.fn.start ys →
      Means l.fn.cursor.nodes.items l.fn.first x →
      Declares l.fn.cursor l.cursor (in_force l.fn.types) (in_force l.types) l.below
      (naming_of l.naming) l.defines x ys l.parts;
}

abbrev pub decreases-list : goal.decreases-list
decreases-list l = length (rest_of l.cursor)
