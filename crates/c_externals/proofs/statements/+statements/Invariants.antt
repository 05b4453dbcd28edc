use Rattle.std.proofs.Common.{◌+◌, ◌*◌, ◌≤◌, length}
use Rattle.c_tree.specs.Syntax.{Syns}
use Rattle.c_phrases.specs.Got.{rest_of, in_force, Owed, Holds}
use Rattle.c_externals.specs.Blocks.{Extends, Enters}
use Rattle.c_externals.proofs.statements.+statements.Given as goal

abbrev pub decreases-statement : goal.decreases-statement
decreases-statement l = 16 * l.budget

abbrev pub decreases-while_statement : goal.decreases-while_statement
decreases-while_statement l = 16 * l.below + 1

abbrev pub decreases-do_statement : goal.decreases-do_statement
decreases-do_statement l = 16 * l.below + 1

abbrev pub decreases-if_statement : goal.decreases-if_statement
decreases-if_statement l = 16 * l.below + 1

abbrev pub decreases-for_behind : goal.decreases-for_behind
decreases-for_behind l = 16 * l.below + 1

abbrev pub decreases-for_statement : goal.decreases-for_statement
decreases-for_statement l = 16 * l.below + 2

abbrev pub decreases-labelled : goal.decreases-labelled
decreases-labelled l = 16 * l.below + 1

abbrev pub decreases-enter : goal.decreases-enter
decreases-enter l = 16 * l.below + 2

abbrev pub decreases-items : goal.decreases-items
decreases-items l = 16 * l.below + 3

abbrev pub decreases-block : goal.decreases-block
decreases-block l = 16 * l.below + 4

abbrev pub decreases-switch_statement : goal.decreases-switch_statement
decreases-switch_statement l = 16 * l.below + 4

abbrev pub decreases-open : goal.decreases-open
decreases-open l = 16 * l.below + 5

abbrev pub decreases-items-loop-item : goal.decreases-items-loop-item
decreases-items-loop-item l = length (rest_of l.cursor)

-- what was read so far stands before what is left
abbrev pub invariant-items-loop-item : goal.invariant-items-loop-item
invariant-items-loop-item l = record {
  size : Owed l.fn.cursor l.cursor 0;
  low : l.parts.height ≤ l.below;
  extends : Extends (in_force l.types) (in_force l.fn.types);
  enters : (ys : Syns) → Holds l.fn.cursor.nodes.items l.fn.start ys →
      Enters l.fn.cursor l.cursor (in_force l.fn.types) (in_force l.types) l.below l.in_switch ys l.parts;
}
