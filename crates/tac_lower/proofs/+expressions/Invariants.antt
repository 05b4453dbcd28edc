use Rattle.std.proofs.Common.{◌+◌, ◌*◌, take, drop}
use Rattle.tac_lower.specs.Trees.{setting}
use Rattle.tac_lower.proofs.Calling.{ArgumentsTo}
use Rattle.tac_lower.proofs.Passing.{ArgumentsSo}
use Rattle.tac_lower.proofs.+expressions.Given as goal

abbrev pub decreases-conditions::condition : goal.decreases-conditions::condition
decreases-conditions::condition l = 16 * l.k + 9

abbrev pub decreases-conditions::opposite_condition : goal.decreases-conditions::opposite_condition
decreases-conditions::opposite_condition l = 16 * l.k + 3

abbrev pub decreases-conditions::joined_condition : goal.decreases-conditions::joined_condition
decreases-conditions::joined_condition l = 16 * l.k + 3

abbrev pub decreases-conditions::joined_around : goal.decreases-conditions::joined_around
decreases-conditions::joined_around l = 16 * l.k + 2

abbrev pub decreases-places::pointer : goal.decreases-places::pointer
decreases-places::pointer l = 16 * l.k + 7

abbrev pub decreases-places::fresh_place : goal.decreases-places::fresh_place
decreases-places::fresh_place l = 16 * l.k + 6

abbrev pub decreases-places::place : goal.decreases-places::place
decreases-places::place l = 16 * l.k + 5

abbrev pub decreases-places::place_behind : goal.decreases-places::place_behind
decreases-places::place_behind l = 16 * l.k + 3

abbrev pub decreases-places::place_choice : goal.decreases-places::place_choice
decreases-places::place_choice l = 16 * l.k + 3

abbrev pub decreases-places::member : goal.decreases-places::member
decreases-places::member l = 16 * l.k + 3

abbrev pub decreases-places::address : goal.decreases-places::address
decreases-places::address l = 16 * l.k + 3

abbrev pub decreases-places::struct_assignment : goal.decreases-places::struct_assignment
decreases-places::struct_assignment l = 16 * l.k + 3

abbrev pub decreases-places::struct_copy : goal.decreases-places::struct_copy
decreases-places::struct_copy l = 16 * l.k + 9

abbrev pub decreases-places::chosen_copy : goal.decreases-places::chosen_copy
decreases-places::chosen_copy l = 16 * l.k + 3

abbrev pub decreases-places::plain_copy : goal.decreases-places::plain_copy
decreases-places::plain_copy l = 16 * l.k + 8

abbrev pub decreases-calls::arguments : goal.decreases-calls::arguments
decreases-calls::arguments l = 16 * l.k + 1

abbrev pub invariant-calls::arguments-loop-a : goal.invariant-calls::arguments-loop-a
invariant-calls::arguments-loop-a l =
    ArgumentsTo l.cx.fixed l.cx.p.now l.cx.d.now l.cx.types.now l.cx.homes.now l.initial.out l.out
    (take l.a-index l.args) l.temps.items
    × ArgumentsSo (setting l.cx) l.args l.initial.out l.out (drop l.a-index l.args) l.temps.items l.behind.items

abbrev pub decreases-calls::call : goal.decreases-calls::call
decreases-calls::call l = 16 * l.k + 3

abbrev pub decreases-calls::library : goal.decreases-calls::library
decreases-calls::library l = 16 * l.k + 3

abbrev pub decreases-expressions::operand : goal.decreases-expressions::operand
decreases-expressions::operand l = 16 * l.k + 7

abbrev pub decreases-expressions::operand_in : goal.decreases-expressions::operand_in
decreases-expressions::operand_in l = 16 * l.k + 7

abbrev pub decreases-expressions::held : goal.decreases-expressions::held
decreases-expressions::held l = 16 * l.k + 8

abbrev pub decreases-expressions::pair : goal.decreases-expressions::pair
decreases-expressions::pair l = 16 * l.k + 2

abbrev pub decreases-expressions::value : goal.decreases-expressions::value
decreases-expressions::value l = 16 * l.k + 5

abbrev pub decreases-expressions::choice : goal.decreases-expressions::choice
decreases-expressions::choice l = 16 * l.k + 3

abbrev pub decreases-expressions::comma : goal.decreases-expressions::comma
decreases-expressions::comma l = 16 * l.k + 3

abbrev pub decreases-expressions::integer : goal.decreases-expressions::integer
decreases-expressions::integer l = 16 * l.k + 3

abbrev pub decreases-expressions::capability : goal.decreases-expressions::capability
decreases-expressions::capability l = 16 * l.k + 3

abbrev pub decreases-expressions::distance : goal.decreases-expressions::distance
decreases-expressions::distance l = 16 * l.k + 3

abbrev pub decreases-expressions::effect : goal.decreases-expressions::effect
decreases-expressions::effect l = 16 * l.k + 8

abbrev pub decreases-expressions::chosen_effect : goal.decreases-expressions::chosen_effect
decreases-expressions::chosen_effect l = 16 * l.k + 3

abbrev pub decreases-expressions::guarded_effect : goal.decreases-expressions::guarded_effect
decreases-expressions::guarded_effect l = 16 * l.k + 3

abbrev pub decreases-expressions::read_effect : goal.decreases-expressions::read_effect
decreases-expressions::read_effect l = 16 * l.k + 4

abbrev pub decreases-expressions::load : goal.decreases-expressions::load
decreases-expressions::load l = 16 * l.k + 3

abbrev pub decreases-expressions::conversion : goal.decreases-expressions::conversion
decreases-expressions::conversion l = 16 * l.k + 3

abbrev pub decreases-expressions::unary : goal.decreases-expressions::unary
decreases-expressions::unary l = 16 * l.k + 4

abbrev pub decreases-expressions::signed_value : goal.decreases-expressions::signed_value
decreases-expressions::signed_value l = 16 * l.k + 3

abbrev pub decreases-expressions::comparison : goal.decreases-expressions::comparison
decreases-expressions::comparison l = 16 * l.k + 3

abbrev pub decreases-expressions::truth : goal.decreases-expressions::truth
decreases-expressions::truth l = 16 * l.k + 4

abbrev pub decreases-expressions::sum : goal.decreases-expressions::sum
decreases-expressions::sum l = 16 * l.k + 4

abbrev pub decreases-expressions::pointer_first : goal.decreases-expressions::pointer_first
decreases-expressions::pointer_first l = 16 * l.k + 3

abbrev pub decreases-expressions::pointer_second : goal.decreases-expressions::pointer_second
decreases-expressions::pointer_second l = 16 * l.k + 3

abbrev pub decreases-expressions::displaced : goal.decreases-expressions::displaced
decreases-expressions::displaced l = 16 * l.k + 8

abbrev pub decreases-expressions::assignment : goal.decreases-expressions::assignment
decreases-expressions::assignment l = 16 * l.k + 4

abbrev pub decreases-expressions::object_assignment : goal.decreases-expressions::object_assignment
decreases-expressions::object_assignment l = 16 * l.k + 3

abbrev pub decreases-expressions::assigned : goal.decreases-expressions::assigned
decreases-expressions::assigned l = 16 * l.k + 8

abbrev pub decreases-expressions::compound : goal.decreases-expressions::compound
decreases-expressions::compound l = 16 * l.k + 3

abbrev pub decreases-expressions::step : goal.decreases-expressions::step
decreases-expressions::step l = 16 * l.k + 3
