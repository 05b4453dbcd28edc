use Rattle.std.proofs.Common.{◌+◌, ◌*◌, ◌≤◌, ◌<◌, length, ℕ, Option}
use Rattle.c_tree.specs.Syntax.{Syn, Syns}
use Rattle.c_phrases.specs.Got.{rest_of, in_force, Owed, Paid, Means, MeansOption, Holds}
use Rattle.c_phrases.specs.Suffixes.{height_of, HasPaid, Suffixes}
use Rattle.c_phrases.specs.Steps.{goal_of, AreSmall}
use Rattle.c_phrases.specs.Climbing.{Climbs, Produces, Lists}
use Rattle.c_phrases.specs.Gathering.{Fills, Gathers, Spared}
use Rattle.c_phrases.proofs.+phrases.Given as goal

abbrev pub decreases-phrases::read : goal.decreases-phrases::read
decreases-phrases::read l = 16 * l.budget

abbrev pub decreases-phrases::separated : goal.decreases-phrases::separated
decreases-phrases::separated l = 16 * l.below + 1

abbrev pub decreases-declaration_specifiers::members : goal.decreases-declaration_specifiers::members
decreases-declaration_specifiers::members l = 16 * l.below + 1

abbrev pub decreases-declarators::optional_declarator : goal.decreases-declarators::optional_declarator
decreases-declarators::optional_declarator l = 16 * l.below + 1

abbrev pub decreases-phrases::braced : goal.decreases-phrases::braced
decreases-phrases::braced l = 16 * l.below + 2

abbrev pub decreases-declaration_specifiers::record_specifier : goal.decreases-declaration_specifiers::record_specifier
decreases-declaration_specifiers::record_specifier l = 16 * l.below + 3

abbrev pub decreases-declaration_specifiers::enum_specifier : goal.decreases-declaration_specifiers::enum_specifier
decreases-declaration_specifiers::enum_specifier l = 16 * l.below + 3

abbrev pub decreases-declaration_specifiers::specifier : goal.decreases-declaration_specifiers::specifier
decreases-declaration_specifiers::specifier l = 16 * l.below + 4

abbrev pub decreases-declaration_specifiers::specifier_list : goal.decreases-declaration_specifiers::specifier_list
decreases-declaration_specifiers::specifier_list l = 16 * l.below + 5

abbrev pub decreases-declaration_specifiers::specifiers : goal.decreases-declaration_specifiers::specifiers
decreases-declaration_specifiers::specifiers l = 16 * l.below + 6

abbrev pub decreases-phrases::parameter_or_type_name : goal.decreases-phrases::parameter_or_type_name
decreases-phrases::parameter_or_type_name l = 16 * l.below + 7

abbrev pub decreases-phrases::member : goal.decreases-phrases::member
decreases-phrases::member l = 16 * l.below + 7

abbrev pub decreases-expressions::follow : goal.decreases-expressions::follow
decreases-expressions::follow l = 16 * l.below + 8

abbrev pub decreases-expressions::production : goal.decreases-expressions::production
decreases-expressions::production l = 16 * l.below + 9

abbrev pub decreases-expressions::node : goal.decreases-expressions::node
decreases-expressions::node l = 16 * l.below + 10

abbrev pub decreases-expressions::join_operand : goal.decreases-expressions::join_operand
decreases-expressions::join_operand l = 16 * l.below + 10

abbrev pub decreases-expressions::measure : goal.decreases-expressions::measure
decreases-expressions::measure l = 16 * l.below + 11

abbrev pub decreases-phrases::enumerator : goal.decreases-phrases::enumerator
decreases-phrases::enumerator l = 16 * l.below + 11

abbrev pub decreases-declarators::array : goal.decreases-declarators::array
decreases-declarators::array l = 16 * l.below + 11

abbrev pub decreases-declarators::function : goal.decreases-declarators::function
decreases-declarators::function l = 16 * l.below + 11

abbrev pub decreases-expressions::operand : goal.decreases-expressions::operand
decreases-expressions::operand l = 16 * l.below + 12

abbrev pub decreases-expressions::longer : goal.decreases-expressions::longer
decreases-expressions::longer l = 16 * l.below + 11

abbrev pub decreases-expressions::climb : goal.decreases-expressions::climb
decreases-expressions::climb l = 16 * l.below + 12

abbrev pub decreases-expressions::expression : goal.decreases-expressions::expression
decreases-expressions::expression l = 16 * l.below + 13

abbrev pub decreases-declarators::core : goal.decreases-declarators::core
decreases-declarators::core l = 16 * l.below + 1

abbrev pub decreases-declarators::next_suffix : goal.decreases-declarators::next_suffix
decreases-declarators::next_suffix l = 16 * l.below + 12

abbrev pub decreases-declarators::suffixes : goal.decreases-declarators::suffixes
decreases-declarators::suffixes l = 16 * l.below + 13

abbrev pub decreases-declarators::declarator : goal.decreases-declarators::declarator
decreases-declarators::declarator l = 16 * l.below + 14

abbrev pub decreases-phrases::initializer : goal.decreases-phrases::initializer
decreases-phrases::initializer l = 16 * l.below + 14

abbrev pub decreases-expressions::climb-loop-item : goal.decreases-expressions::climb-loop-item
decreases-expressions::climb-loop-item l = length (rest_of l.cursor)

abbrev pub invariant-expressions::climb-loop-item : goal.invariant-expressions::climb-loop-item
invariant-expressions::climb-loop-item l = record {
  size : Owed l.fn.cursor l.cursor 0;
  low : l.part.height ≤ l.below + 1;
  climbs : (x : Syn) → Means l.fn.cursor.nodes.items l.fn.start x →
      Climbs l.fn.cursor l.cursor l.below l.level (in_force l.types) x l.part;
}

abbrev pub decreases-expressions::production-loop-first : goal.decreases-expressions::production-loop-first
decreases-expressions::production-loop-first l = length l.left

abbrev pub invariant-expressions::production-loop-first : goal.invariant-expressions::production-loop-first
invariant-expressions::production-loop-first l = record {
  size : Owed l.fn.cursor l.cursor 0;
  low : l.parts.height ≤ l.below;
  keeps : l.fn.start.height ≤ l.parts.height;
  small : AreSmall l.left;
  runs : (ys : Syns) → Holds l.fn.cursor.nodes.items l.fn.start ys →
      Produces l.fn.cursor l.cursor l.below (in_force l.types) l.steps l.left ys l.parts;
}

abbrev pub decreases-phrases::separated-list : goal.decreases-phrases::separated-list
decreases-phrases::separated-list l = length (rest_of l.cursor)

abbrev pub invariant-phrases::separated-list : goal.invariant-phrases::separated-list
invariant-phrases::separated-list l = record {
  size : Paid l.fn.cursor l.cursor 4;
  low : l.parts.height ≤ l.below;
  keeps : l.fn.start.height ≤ l.parts.height;
  lists : (ys : Syns) → Holds l.fn.cursor.nodes.items l.fn.start ys →
      Lists l.fn.cursor l.cursor l.below (goal_of l.what) (in_force l.types) ys l.parts;
}

abbrev pub decreases-declaration_specifiers::members-list : goal.decreases-declaration_specifiers::members-list
decreases-declaration_specifiers::members-list l = length (rest_of l.cursor)

abbrev pub invariant-declaration_specifiers::members-list : goal.invariant-declaration_specifiers::members-list
invariant-declaration_specifiers::members-list l = record {
  size : Paid l.fn.cursor l.cursor 4;
  low : l.parts.height ≤ l.below;
  fills : (ys : Syns) (turns : ℕ) → length (rest_of l.fn.cursor) < turns → Holds l.fn.cursor.nodes.items l.fn.start ys →
      Fills l.fn.cursor l.cursor l.below turns (in_force l.types) ys l.parts;
}

abbrev pub decreases-declaration_specifiers::specifier_list-loop-item :
    goal.decreases-declaration_specifiers::specifier_list-loop-item
decreases-declaration_specifiers::specifier_list-loop-item l = length (rest_of l.cursor)

abbrev pub invariant-declaration_specifiers::specifier_list-loop-item :
    goal.invariant-declaration_specifiers::specifier_list-loop-item
invariant-declaration_specifiers::specifier_list-loop-item l = record {
  size : Spared l.fn.cursor l.cursor (length l.gathered.parts.kids.items);
  low : l.gathered.parts.height ≤ l.below;
  gathers : Gathers l.fn.cursor l.cursor l.below (in_force l.types) l.gathered;
}

abbrev pub decreases-declarators::suffixes-loop-part : goal.decreases-declarators::suffixes-loop-part
decreases-declarators::suffixes-loop-part l = length (rest_of l.cursor)

abbrev pub invariant-declarators::suffixes-loop-part : goal.invariant-declarators::suffixes-loop-part
invariant-declarators::suffixes-loop-part l = record {
  size : HasPaid l.fn.cursor l.cursor l.fn.start l.inner;
  low : height_of l.inner ≤ l.below + 1;
  suffixes : (x : Option Syn) → MeansOption l.fn.cursor.nodes.items l.fn.start x →
      Suffixes l.fn.cursor l.cursor l.below (in_force l.types) x l.inner;
}
