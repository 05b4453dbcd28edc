use Rattle.std.proofs.Common.{◌+◌, ◌*◌, length}
use Rattle.c_tree.specs.declared.syntax.NodeKind.TheVariants as Kinds
use Rattle.c_tree.specs.Syntax.{Syns}
use Rattle.c_expressions.specs.Nodes.{IsWhole}
use Rattle.c_elaborator.specs.Parts.{AreParts, AreOf}
use Rattle.c_readings.specs.Within.{PartsWithin, PartsThat}
use Rattle.c_readings.specs.Gathered.{ReadSoFar}
use Rattle.std.specs.Prelude.{◌≡◌, ◌==◌, List, [], map, pos}
use Rattle.c_tree.specs.Scopes.{Part}
use Rattle.c_tree.specs.Readings.{Specified}
use Rattle.c_tree.specs.Declarators.{named_types, all_members, member_declarators, enumerators, parameter_list}
use Rattle.c_tree.specs.Programs.{readings}
use Rattle.c_expressions.specs.Nodes.{type_in}
use Rattle.c_elaborator.specs.Answers.{Keeps}
use Rattle.c_declarators.specs.Parts.{IsSpecified, AreMembers, AllMembersThere, NumberThere}
use Rattle.c_readings.specs.Folding.{SoFar}
use Rattle.c_readings.specs.Specifying.{TypesThere, types_on, members_on, declarators_on, enumerators_on}
use Rattle.c_readings.proofs.Params.{ParamsSoFar}
use Rattle.c_readings.proofs.+parts.Given as goal

abbrev pub decreases-expressions::arguments : goal.decreases-expressions::arguments
decreases-expressions::arguments l = 8 * l.depth + 3

abbrev pub decreases-expressions::call_of_library : goal.decreases-expressions::call_of_library
decreases-expressions::call_of_library l = 8 * l.depth + 4

abbrev pub decreases-expressions::call_of_value : goal.decreases-expressions::call_of_value
decreases-expressions::call_of_value l = 8 * l.depth + 4

abbrev pub decreases-expressions::call : goal.decreases-expressions::call
decreases-expressions::call l = 8 * l.depth + 5

abbrev pub decreases-expressions::member_of : goal.decreases-expressions::member_of
decreases-expressions::member_of l = 8 * l.depth + 4

abbrev pub decreases-expressions::member_behind : goal.decreases-expressions::member_behind
decreases-expressions::member_behind l = 8 * l.depth + 4

abbrev pub decreases-expressions::selected : goal.decreases-expressions::selected
decreases-expressions::selected l = 8 * l.depth + 6

abbrev pub decreases-expressions::operand : goal.decreases-expressions::operand
decreases-expressions::operand l = 8 * l.depth

abbrev pub decreases-expressions::expression : goal.decreases-expressions::expression
decreases-expressions::expression l = 8 * l.depth + 7

abbrev pub decreases-expressions::value_of : goal.decreases-expressions::value_of
decreases-expressions::value_of l = 8 * l.depth + 1

abbrev pub decreases-expressions::one_operand : goal.decreases-expressions::one_operand
decreases-expressions::one_operand l = 8 * l.depth + 3

abbrev pub decreases-expressions::one_value : goal.decreases-expressions::one_value
decreases-expressions::one_value l = 8 * l.depth + 3

abbrev pub decreases-expressions::values_of : goal.decreases-expressions::values_of
decreases-expressions::values_of l = 8 * l.depth + 2

abbrev pub decreases-expressions::place_with_value : goal.decreases-expressions::place_with_value
decreases-expressions::place_with_value l = 8 * l.depth + 2

abbrev pub decreases-expressions::values_of_three : goal.decreases-expressions::values_of_three
decreases-expressions::values_of_three l = 8 * l.depth + 3

abbrev pub decreases-expressions::type_with_value : goal.decreases-expressions::type_with_value
decreases-expressions::type_with_value l = 8 * l.depth + 2

abbrev pub decreases-expressions::two_values : goal.decreases-expressions::two_values
decreases-expressions::two_values l = 8 * l.depth + 4

abbrev pub decreases-expressions::place_and_value : goal.decreases-expressions::place_and_value
decreases-expressions::place_and_value l = 8 * l.depth + 4

abbrev pub decreases-expressions::three_values : goal.decreases-expressions::three_values
decreases-expressions::three_values l = 8 * l.depth + 4

abbrev pub decreases-expressions::type_and_value : goal.decreases-expressions::type_and_value
decreases-expressions::type_and_value l = 8 * l.depth + 4

abbrev pub decreases-expressions::unevaluated_operand : goal.decreases-expressions::unevaluated_operand
decreases-expressions::unevaluated_operand l = 8 * l.depth + 4

abbrev pub decreases-expressions::prefixed : goal.decreases-expressions::prefixed
decreases-expressions::prefixed l = 8 * l.depth + 6

abbrev pub decreases-expressions::parenthesized : goal.decreases-expressions::parenthesized
decreases-expressions::parenthesized l = 8 * l.depth + 5

abbrev pub decreases-expressions::index : goal.decreases-expressions::index
decreases-expressions::index l = 8 * l.depth + 5

abbrev pub decreases-expressions::infix : goal.decreases-expressions::infix
decreases-expressions::infix l = 8 * l.depth + 5

abbrev pub decreases-expressions::conditional : goal.decreases-expressions::conditional
decreases-expressions::conditional l = 8 * l.depth + 5

abbrev pub decreases-expressions::assignment : goal.decreases-expressions::assignment
decreases-expressions::assignment l = 8 * l.depth + 5

abbrev pub decreases-expressions::postfix : goal.decreases-expressions::postfix
decreases-expressions::postfix l = 8 * l.depth + 5

abbrev pub decreases-expressions::step_in_front : goal.decreases-expressions::step_in_front
decreases-expressions::step_in_front l = 8 * l.depth + 5

abbrev pub decreases-expressions::address : goal.decreases-expressions::address
decreases-expressions::address l = 8 * l.depth + 5

abbrev pub decreases-expressions::indirection : goal.decreases-expressions::indirection
decreases-expressions::indirection l = 8 * l.depth + 5

abbrev pub decreases-expressions::unary : goal.decreases-expressions::unary
decreases-expressions::unary l = 8 * l.depth + 5

abbrev pub decreases-expressions::cast : goal.decreases-expressions::cast
decreases-expressions::cast l = 8 * l.depth + 5

abbrev pub decreases-expressions::size_of_expression : goal.decreases-expressions::size_of_expression
decreases-expressions::size_of_expression l = 8 * l.depth + 5

abbrev pub decreases-expressions::arguments-loop-part : goal.decreases-expressions::arguments-loop-part
decreases-expressions::arguments-loop-part l = length l.left

abbrev pub invariant-expressions::arguments-loop-part : goal.invariant-expressions::arguments-loop-part
invariant-expressions::arguments-loop-part l = record {
  whole : IsWhole l.work.nodes;
  parts : PartsWithin l.work l.depth l.left;
  reads : (xs : Syns) → AreParts l.fn.work l.fn.kids xs → ReadSoFar l.fn.work l.work xs l.left l.values;
}

abbrev pub decreases-expressions::one_type : goal.decreases-expressions::one_type
decreases-expressions::one_type l = 8 * l.depth + 3

abbrev pub decreases-expressions::unevaluated_type : goal.decreases-expressions::unevaluated_type
decreases-expressions::unevaluated_type l = 8 * l.depth + 4

abbrev pub decreases-expressions::size_of_type : goal.decreases-expressions::size_of_type
decreases-expressions::size_of_type l = 8 * l.depth + 5

abbrev pub decreases-expressions::unevaluated_value : goal.decreases-expressions::unevaluated_value
decreases-expressions::unevaluated_value l = 8 * l.depth + 2

abbrev pub decreases-expressions::constant : goal.decreases-expressions::constant
decreases-expressions::constant l = 8 * l.depth + 3

abbrev pub decreases-types::specified : goal.decreases-types::specified
decreases-types::specified l = 8 * l.depth

abbrev pub decreases-types::maybe_type : goal.decreases-types::maybe_type
decreases-types::maybe_type l = 8 * l.depth + 1

abbrev pub decreases-types::named_types : goal.decreases-types::named_types
decreases-types::named_types l = 8 * l.depth + 2

abbrev pub decreases-types::type_of : goal.decreases-types::type_of
decreases-types::type_of l = 8 * l.depth

abbrev pub decreases-types::type_of_node : goal.decreases-types::type_of_node
decreases-types::type_of_node l = 8 * l.depth + 7

abbrev pub decreases-types::unstored : goal.decreases-types::unstored
decreases-types::unstored l = 8 * l.depth + 1

abbrev pub decreases-types::type_name : goal.decreases-types::type_name
decreases-types::type_name l = 8 * l.depth + 2

abbrev pub decreases-types::record_specifier : goal.decreases-types::record_specifier
decreases-types::record_specifier l = 8 * l.depth + 4

abbrev pub decreases-types::untagged : goal.decreases-types::untagged
decreases-types::untagged l = 8 * l.depth + 3

abbrev pub decreases-types::tagged_record : goal.decreases-types::tagged_record
decreases-types::tagged_record l = 8 * l.depth + 3

abbrev pub decreases-types::filled : goal.decreases-types::filled
decreases-types::filled l = 8 * l.depth + 2

abbrev pub decreases-types::all_members : goal.decreases-types::all_members
decreases-types::all_members l = 8 * l.depth + 1

abbrev pub decreases-types::member : goal.decreases-types::member
decreases-types::member l = 8 * l.depth

abbrev pub decreases-types::member_declarators : goal.decreases-types::member_declarators
decreases-types::member_declarators l = 8 * l.depth + 2

abbrev pub decreases-types::member_declarator : goal.decreases-types::member_declarator
decreases-types::member_declarator l = 8 * l.depth + 1

abbrev pub decreases-types::enum_specifier : goal.decreases-types::enum_specifier
decreases-types::enum_specifier l = 8 * l.depth + 4

abbrev pub decreases-types::tagged_enumeration : goal.decreases-types::tagged_enumeration
decreases-types::tagged_enumeration l = 8 * l.depth + 3

abbrev pub decreases-types::listed : goal.decreases-types::listed
decreases-types::listed l = 8 * l.depth + 2

abbrev pub decreases-types::enumerators : goal.decreases-types::enumerators
decreases-types::enumerators l = 8 * l.depth + 1

abbrev pub decreases-types::enumerator : goal.decreases-types::enumerator
decreases-types::enumerator l = 8 * l.depth

abbrev pub decreases-types::valued : goal.decreases-types::valued
decreases-types::valued l = 8 * l.depth + 4

abbrev pub decreases-declarators::derived : goal.decreases-declarators::derived
decreases-declarators::derived l = 8 * l.depth

abbrev pub decreases-declarators::declarator : goal.decreases-declarators::declarator
decreases-declarators::declarator l = 8 * l.depth + 7

abbrev pub decreases-declarators::enclosed : goal.decreases-declarators::enclosed
decreases-declarators::enclosed l = 8 * l.depth + 1

abbrev pub decreases-declarators::within : goal.decreases-declarators::within
decreases-declarators::within l = 8 * l.depth + 1

abbrev pub decreases-declarators::pointer : goal.decreases-declarators::pointer
decreases-declarators::pointer l = 8 * l.depth + 2

abbrev pub decreases-declarators::open_array : goal.decreases-declarators::open_array
decreases-declarators::open_array l = 8 * l.depth + 2

abbrev pub decreases-declarators::array : goal.decreases-declarators::array
decreases-declarators::array l = 8 * l.depth + 6

abbrev pub decreases-declarators::length_of : goal.decreases-declarators::length_of
decreases-declarators::length_of l = 8 * l.depth + 4

abbrev pub decreases-declarators::row : goal.decreases-declarators::row
decreases-declarators::row l = 8 * l.depth + 5

abbrev pub decreases-declarators::function : goal.decreases-declarators::function
decreases-declarators::function l = 8 * l.depth + 6

abbrev pub decreases-declarators::function_with : goal.decreases-declarators::function_with
decreases-declarators::function_with l = 8 * l.depth + 5

abbrev pub decreases-declarators::prototype : goal.decreases-declarators::prototype
decreases-declarators::prototype l = 8 * l.depth

abbrev pub decreases-declarators::parameter_list : goal.decreases-declarators::parameter_list
decreases-declarators::parameter_list l = 8 * l.depth + 1

abbrev pub decreases-declarators::parameter : goal.decreases-declarators::parameter
decreases-declarators::parameter l = 8 * l.depth

abbrev pub decreases-declarators::parameter_at : goal.decreases-declarators::parameter_at
decreases-declarators::parameter_at l = 8 * l.depth + 2

abbrev pub decreases-types::named_types-loop-part : goal.decreases-types::named_types-loop-part
decreases-types::named_types-loop-part l = length l.left

abbrev pub decreases-types::all_members-loop-part : goal.decreases-types::all_members-loop-part
decreases-types::all_members-loop-part l = length l.left

abbrev pub decreases-types::member_declarators-loop-part : goal.decreases-types::member_declarators-loop-part
decreases-types::member_declarators-loop-part l = length l.left

abbrev pub decreases-types::enumerators-loop-part : goal.decreases-types::enumerators-loop-part
decreases-types::enumerators-loop-part l = length l.left

abbrev pub decreases-declarators::parameter_list-loop-part : goal.decreases-declarators::parameter_list-loop-part
decreases-declarators::parameter_list-loop-part l = length l.left

abbrev pub invariant-types::named_types-loop-part : goal.invariant-types::named_types-loop-part
invariant-types::named_types-loop-part l = record {
  whole : IsWhole l.work.nodes;
  parts : PartsWithin l.work l.depth l.left;
  there : TypesThere l.work l.types;
  reads : (xs : Syns) → AreParts l.fn.work l.fn.kids xs →
      SoFar l.fn.work l.work l.left (named_types l.fn.alone xs (readings xs)) (types_on l.fn.alone)
      (TypesThere l.work l.types) (λ ys. ys ≡ map (type_in l.work.nodes) l.types.items);
}

abbrev pub invariant-types::all_members-loop-part : goal.invariant-types::all_members-loop-part
invariant-types::all_members-loop-part l = record {
  whole : IsWhole l.work.nodes;
  parts : PartsWithin l.work l.depth l.left;
  there : AllMembersThere l.work l.members;
  reads : (xs : Syns) → AreParts l.fn.work l.fn.kids xs →
      SoFar l.fn.work l.work l.left (all_members (readings xs) []) members_on (AllMembersThere l.work l.members)
      (AreMembers l.work l.members.all.items);
}

abbrev pub invariant-types::member_declarators-loop-part : goal.invariant-types::member_declarators-loop-part
invariant-types::member_declarators-loop-part l = record {
  whole : IsWhole l.work.nodes;
  keeps : Keeps l.fn.work l.work;
  parts : PartsWithin l.work l.depth l.left;
  there : AllMembersThere l.work l.all;
  reads : (y : Specified) (xs : Syns) (zs : List Part) → IsSpecified l.fn.work l.fn.s y →
      AreParts l.fn.work l.fn.kids xs → AreMembers l.fn.work l.fn.members.all.items zs →
      SoFar l.fn.work l.work l.left (member_declarators y (readings xs) zs) (declarators_on y)
      (AllMembersThere l.work l.all) (AreMembers l.work l.all.all.items);
}

abbrev pub invariant-types::enumerators-loop-part : goal.invariant-types::enumerators-loop-part
invariant-types::enumerators-loop-part l = record {
  whole : IsWhole l.work.nodes;
  parts : PartsThat (AreOf Kinds.Enumerator) l.work l.depth l.left;
  reads : (xs : Syns) → AreParts l.fn.work l.fn.kids xs →
      SoFar l.fn.work l.work l.left (enumerators (readings xs) (pos 0)) enumerators_on (NumberThere l.work l.next)
      (λ z. z ≡ l.next);
}

abbrev pub invariant-declarators::parameter_list-loop-part : goal.invariant-declarators::parameter_list-loop-part
invariant-declarators::parameter_list-loop-part l = record {
  whole : IsWhole l.work.nodes;
  parts : PartsThat (AreOf Kinds.Parameter) l.work l.depth l.left;
  reads : (xs : Syns) → AreParts l.fn.work l.fn.kids xs →
      ParamsSoFar l.fn.work l.work l.left l.only
      (parameter_list 0 (length (readings xs) == 1) (readings xs)) l.params.items;
}
