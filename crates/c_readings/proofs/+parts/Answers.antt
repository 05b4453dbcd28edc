use Rattle.std.proofs.Common.{◌≡◌, ℕ, [], List, true, false, refl, sym, ap, subst, ◌∙◌, arith, Ok, Err}
use Rattle.std.proofs.lemmas.Result.{err_from_is_err_and}
use Rattle.c_tree.specs.declared.syntax.NodeKind.{NodeKind}
use Rattle.c_tree.specs.declared.syntax.NodeKind.TheVariants as Kinds
use Rattle.c_tree.specs.declared.syntax.PrefixOperator.{PrefixOperator}
use Rattle.c_tree.specs.declared.syntax.PrefixOperator.TheVariants as prefixes
use Rattle.c_tree.specs.Conversions.{operand_type}
use Rattle.c_tree.specs.Readings.{Reading}
use Rattle.c_tree.specs.Programs.{reading, readings}
use Rattle.c_tree.specs.Types.{Ty}
use Rattle.ck_base.specs.Tokens.{Lexeme}
use Rattle.c_tree.specs.Scopes.{Doing, ◌>>=◌}
use Rattle.c_tree.specs.Conversions.{Operand}
use Rattle.c_elaborator.specs.declared.work.Name.{Name}
use Rattle.c_readings.proofs.Leaves.{word_is, fits_name, fits_number, fits_character, fits_text, number_is, texts_of}
use Rattle.c_readings.proofs.Leaves.{character_is}
use Rattle.c_readings.proofs.Leaves.{literal_is}
use Rattle.c_tree.specs.Expressions.{read_value, expression_of, selected, member, member_behind, named, number}
use Rattle.c_tree.specs.Expressions.{character, text, index, infix_join, stepped, address, dereference, unary_on}
use Rattle.c_tree.specs.Expressions.{conditional, cast, sized, unevaluated}
use Rattle.c_tree.specs.Conversions.{value}
use Rattle.c_expressions.specs.Nodes.{type_in}
use Rattle.c_elaborator.specs.Answers.{quietly, Answers, OperandThere, IsOperand, operand_in, TypeThere, IsType}
use Rattle.c_elaborator.specs.Parts.{AreOf, AreParts, token_of}
use Rattle.c_elaborator.proofs.Sequencing.{quiet_law, then, operand_kept, operand_there, type_there}
use Rattle.c_readings.specs.Gathered.{operand_of, type_of, both, one_operand, one_value, one_type, two_values}
use Rattle.c_readings.specs.Gathered.{place_and_value, three_values, type_and_value, assigning, PairThere, IsPair}
use Rattle.c_readings.specs.Gathered.{two_in}
use Rattle.c_readings.specs.Gathered.{TripleThere, IsTriple, three_in, CastThere, IsCast, cast_in}
use Rattle.c_readings.proofs.Kids.{part_kept, parts_kept, opened}
use Rattle.c_tree.specs.declared.syntax.Selection.{Selection}
use Rattle.c_tree.specs.declared.syntax.Selection.TheVariants.{Direct, Indirect}
use Rattle.c_readings.proofs.Selecting.{selects, not_selected, direct_is, indirect_is}
use Rattle.std.specs.Prelude.{map, slice_get, Some, None, Option}
use Rattle.c_expressions.specs.declared.nodes.Operand.{Operand as Node}
use Rattle.c_tree.specs.Libraries.{services}
use Rattle.c_tree.specs.Expressions.{read_values, library_call, call, called}
use Rattle.c_elaborator.proofs.Sequencing.{answers_at}
use Rattle.c_readings.specs.Within.{PartsWithin, PartsThat}
use Rattle.c_readings.specs.Gathered.{ReadSoFar, called_service, called_value}
use Rattle.c_readings.proofs.Kids.{cut}
use Rattle.c_readings.proofs.Arguments.{so_far_begins, so_far_ends, so_far_fails, so_far_steps}
use Rattle.c_readings.proofs.Calling.{no_call, call_is, service_is, value_is}
use Rattle.c_readings.proofs.Others.{no_expression}
use Rattle.c_elaborator.proofs.Unevaluated.{unevaluated_operand, unevaluated_type}
use Rattle.c_readings.proofs.Gathering.{at_node, step_failed, step_then, both_done, answers_one, answers_two}
use Rattle.c_readings.proofs.Gathering.{answers_three, refused_one, refused_two, refused_three}
use Rattle.c_readings.proofs.Gathering.{postfix_is, step_is, address_is, indirection_is}
use Rattle.c_readings.proofs.Gathering.{unary_is, size_of_expression_is, size_of_type_is, index_is, infix_is, cast_is}
use Rattle.c_readings.proofs.Gathering.{assignment_is, conditional_is}
use Rattle.std.specs.Prelude.{FitsSigned, All, Bool, ℤ, pos, Result, ◌&&◌, ◌==◌, ◌++◌, length, reverse}
use Rattle.std.proofs.lemmas.Bool.{eqb-true, eqb-false}
use Rattle.ck_base.specs.declared.refusal.Refusal.{Refusal}
use Rattle.ck_base.specs.declared.refusal.Refusal.TheVariants.{Code}
use Rattle.c_tree.specs.declared.typed.Member.{Member}
use Rattle.c_tree.specs.Syntax.{StandAt}
use Rattle.c_tree.specs.Types.{int}
use Rattle.c_tree.specs.Scopes.{give, ◌>>◌}
use Rattle.c_tree.specs.Readings as meant
use Rattle.c_tree.specs.Declarators as declarations
use Rattle.c_tree.specs.Declarators.{names_type, named_types, specifiers, typedef_name, type_name, record_specifier}
use Rattle.c_tree.specs.Declarators.{enum_specifier, new_tag, named_tag, begin_tag, all_members}
use Rattle.c_tree.specs.Declarators.{add_member, member_of as members_at, member_declarators, enumerators, enumerator}
use Rattle.c_tree.specs.Declarators.{enumerate, declarator_of, parts_const, wrapped, no_derived, parameter_of}
use Rattle.c_tree.specs.Declarators.{parameter_from, parameter_list}
use Rattle.c_tree.specs.Programs.{type_of_kind}
use Rattle.c_expressions.specs.Nodes.{type_count}
use Rattle.c_elaborator.specs.Answers.{Done, NothingThere, IsNothing}
use Rattle.c_elaborator.proofs.Sequencing.{also_then, failed, keeps_same, keeps_then}
use Rattle.c_elaborator.proofs.Shown.{then_for}
use Rattle.c_types.specs.Naming.{IsTagOf}
use Rattle.c_readings.proofs.Filling.{filled_done, filled_fails, filled_refused, members_fail}
use Rattle.c_declarators.specs.declared.members.Members.{Members}
use Rattle.c_declarators.specs.declared.parts.Prototype.{Prototype}
use Rattle.c_declarators.specs.declared.parts.Wrap.{Wrap}
use Rattle.c_declarators.specs.declared.parts.Wrap.TheVariants.{Point, Row, Gives}
use Rattle.c_declarators.specs.Forming.{ParamIsThere, WrapIsThere}
use Rattle.c_declarators.specs.Parts.{in_any, SpecifiedThere, IsSpecified, ConstantThere, IsConstant, CountThere}
use Rattle.c_declarators.specs.Parts.{IsCount, NumberThere, IsNumber, AreMembers, AllMembersThere, AreAllMembers}
use Rattle.c_declarators.specs.Parts.{ParamThere, IsParam, param_in, AreWraps, any_scope, DerivedThere, ShowsDerived}
use Rattle.c_declarators.specs.Steps as steps
use Rattle.c_declarators.specs.Steps.{new_enumeration_of}
use Rattle.c_plain_rules.specs.Specifiers.{some_list}
use Rattle.c_readings.specs.declared.tree.TagParts.{TagParts}
use Rattle.c_readings.specs.Kids.{IsTagged, tail_of, name_of}
use Rattle.c_readings.specs.Folding.{SoFar}
use Rattle.c_readings.specs.Specifying.{TypesThere, AreTypes, MaybeTypeThere, IsMaybeType, ParamsThere, AreParams}
use Rattle.c_readings.specs.Specifying.{PrototypeThere, ShowsPrototype, maybe_type, types_on, type_behind}
use Rattle.c_readings.specs.Specifying.{unstored, untagged, filled, tagged_record, members_on, members_of}
use Rattle.c_readings.specs.Specifying.{declarators_on}
use Rattle.c_readings.specs.Specifying.{declarator_at, listed, tagged_enumeration, enumerators_on, within, row_of}
use Rattle.c_readings.specs.Specifying.{function_of, params_on}
use Rattle.std.proofs.Common.{◌-◌, ◌<◌, rules}
use Rattle.std.proofs.lemmas.Int.{to_z-of_z}
use mir.Syntax.{w128}
use mir.Val.{to_z}
use Rattle.c_readings.proofs.Among.{then_failed, made_done}
use Rattle.c_readings.proofs.Folding.{fold_begins, fold_more, fold_fails, fold_ends}
use Rattle.c_declarators.proofs.Joining.{all_members_kept}
use Rattle.c_readings.proofs.Lasting.{specified_there, specified_kept, some_specified, members_kept, no_members_there}
use Rattle.c_readings.proofs.Lasting.{some_members, token_kept}
use Rattle.c_readings.proofs.Leaves.{typedef_is, declared_is, enumerator_is, parameter_is as parameter_word}
use Rattle.c_readings.proofs.Gathering.{parts_length}
use Rattle.c_readings.proofs.Specifiers.{names_type_is, types_begin, types_end, types_more, specifiers_are}
use Rattle.c_readings.proofs.Specifiers.{type_name_is}
use Rattle.c_readings.proofs.Specifiers.{no_type_name, no_type, member_is, no_member, members_more, members_end}
use Rattle.c_readings.proofs.Specifiers.{declarators_more, declarators_end, enumerators_end, enumerator_alone}
use Rattle.c_readings.proofs.Specifiers.{enumerator_with, parameter_is, no_parameter, params_begin, params_end}
use Rattle.c_readings.proofs.Specifying.{enumerators_go, enumerators_fail, type_found, no_type_found, type_failed}
use Rattle.c_readings.proofs.Specifying.{prototype_failed, prototype_unclosed, empty_list, none_there, types_grow}
use Rattle.c_readings.proofs.Specifying.{types_grow_there, unstored_refused, unstored_done, specified_then}
use Rattle.c_readings.proofs.Specifying.{derived_then}
use Rattle.c_readings.proofs.Specifying.{both_then as then_both, nothing_done, part_done, parts_done, prototype_done}
use Rattle.c_readings.proofs.Declaring.{behind, no_readings, declared_name_is, enclosed_is, not_enclosed, pointer_is}
use Rattle.c_readings.proofs.Declaring.{no_pointer, open_array_is, no_array, no_function, ended}
use Rattle.c_readings.proofs.Declaring.{no_declarator}
use Rattle.c_readings.proofs.Tagging.{record_untagged, record_tagged, record_behind, enum_untagged, enum_tagged}
use Rattle.c_readings.proofs.Tagging.{enum_behind}
use Rattle.c_readings.proofs.Params.{Are, ParamsSoFar, params_stop, params_grow, params_fail, params_refuse}
use Rattle.c_readings.proofs.Within.{have_parts, part_there, deep, first_of_kind, kids_in, kind_is, kind_kept, kinds_in}
use Rattle.c_readings.proofs.Within.{kinds_kept, last_kind, node_of, others_of_kind, tagged_kind, untagged_kind}
use Rattle.c_readings.proofs.Within.{behind_within, ends_within, first_within, kids_within, node_within, one_within}
use Rattle.c_readings.proofs.Within.{others_within, still_within, three_within, two_within, within_kept}
use Rattle.c_readings.proofs.+parts.Goals as goal

pub expressions::operand-expression-requires : goal.expressions::operand-expression-requires
expressions::operand-expression-requires t c =
    let some = deep c.args.work.now c.args.k c.requires.part in
    let u = c.args.work.now in
    let n = c.node_at-node.result.now in (
      omega arith,
      (
        c.requires.whole,
        (
          node_within u c.args.k n c.requires.part c.node_at-node.ensures,
          kids_within u c.args.k n c.requires.part c.node_at-node.ensures,
        ),
      ),
    )

pub expressions::operand-returns : goal.expressions::operand-returns
expressions::operand-returns t c = λ x p.
    let o = opened c.args.work.now c.args.k x c.node_at-node.result.now p c.node_at-node.ensures in
    at_node c.args.work.now _ c.node_at-node.result.now x operand_of OperandThere IsOperand _ o
    (c.expression.ensures o.token o.parts o.node)

pub expressions::value_of-returns : goal.expressions::value_of-returns
expressions::value_of-returns t c = λ x p.
    then quietly quiet_law c.args.work.now c.operand.new.work _ (reading x).operand value
    (operand_in c.operand.new.work c.in_ok-x.x) _ OperandThere IsOperand _ (c.in_ok-x.ensures x p) c.value.ensures

pub expressions::expression-returns-in-Parenthesized : goal.expressions::expression-returns-in-Parenthesized
expressions::expression-returns-in-Parenthesized t c = λ t' xs n.
    subst (λ (k : NodeKind). Answers quietly c.args.work.now c.parenthesized.new.work
    (expression_of k t' xs (readings xs)) OperandThere IsOperand c.parenthesized.result)
    (sym c.in-Parenthesized.is)
    (c.parenthesized.ensures t' xs n.place (subst (λ (ks : List ℕ). AreParts c.args.work.now ks xs)
    (sym c.as_slice-kids.ensures) n.parts))

pub expressions::expression-returns-in-Call : goal.expressions::expression-returns-in-Call
expressions::expression-returns-in-Call t c = λ t' xs n.
    subst (λ (k : NodeKind). Answers quietly c.args.work.now c.call.new.work
    (expression_of k t' xs (readings xs)) OperandThere IsOperand c.call.result) (sym c.in-Call.is)
    (c.call.ensures t' xs n.place (subst (λ (ks : List ℕ). AreParts c.args.work.now ks xs)
    (sym c.as_slice-kids.ensures) n.parts))

pub expressions::expression-returns-in-Select : goal.expressions::expression-returns-in-Select
expressions::expression-returns-in-Select t c = λ t' xs n.
    subst (λ (k : NodeKind). Answers quietly c.args.work.now c.selected.new.work
    (expression_of k t' xs (readings xs)) OperandThere IsOperand c.selected.result) (sym c.in-Select.is)
    (c.selected.ensures t' xs n.place (subst (λ (ks : List ℕ). AreParts c.args.work.now ks xs)
    (sym c.as_slice-kids.ensures) n.parts))

pub expressions::expression-returns-in-Index : goal.expressions::expression-returns-in-Index
expressions::expression-returns-in-Index t c = λ t' xs n.
    subst (λ (k : NodeKind). Answers quietly c.args.work.now c.index.new.work
    (expression_of k t' xs (readings xs)) OperandThere IsOperand c.index.result) (sym c.in-Index.is)
    (c.index.ensures t' xs n.place (subst (λ (ks : List ℕ). AreParts c.args.work.now ks xs)
    (sym c.as_slice-kids.ensures) n.parts))

pub expressions::expression-returns-in-Postfix : goal.expressions::expression-returns-in-Postfix
expressions::expression-returns-in-Postfix t c = λ t' xs n.
    subst (λ (k : NodeKind). Answers quietly c.args.work.now c.postfix.new.work
    (expression_of k t' xs (readings xs)) OperandThere IsOperand c.postfix.result) (sym c.in-Postfix.is)
    (c.postfix.ensures t' xs n.place (subst (λ (ks : List ℕ). AreParts c.args.work.now ks xs)
    (sym c.as_slice-kids.ensures) n.parts))

pub expressions::expression-returns-in-Prefix : goal.expressions::expression-returns-in-Prefix
expressions::expression-returns-in-Prefix t c = λ t' xs n.
    subst (λ (k : NodeKind). Answers quietly c.args.work.now c.prefixed.new.work
    (expression_of k t' xs (readings xs)) OperandThere IsOperand c.prefixed.result) (sym c.in-Prefix.is)
    (c.prefixed.ensures t' xs n.place (subst (λ (ks : List ℕ). AreParts c.args.work.now ks xs)
    (sym c.as_slice-kids.ensures) n.parts))

pub expressions::expression-returns-in-SizeofExpression : goal.expressions::expression-returns-in-SizeofExpression
expressions::expression-returns-in-SizeofExpression t c = λ t' xs n.
    subst (λ (k : NodeKind). Answers quietly c.args.work.now c.size_of_expression.new.work
    (expression_of k t' xs (readings xs)) OperandThere IsOperand c.size_of_expression.result)
    (sym c.in-SizeofExpression.is)
    (c.size_of_expression.ensures t' xs n.place
    (subst (λ (ks : List ℕ). AreParts c.args.work.now ks xs) (sym c.as_slice-kids.ensures) n.parts))

pub expressions::expression-returns-in-SizeofType : goal.expressions::expression-returns-in-SizeofType
expressions::expression-returns-in-SizeofType t c = λ t' xs n.
    subst (λ (k : NodeKind). Answers quietly c.args.work.now c.size_of_type.new.work
    (expression_of k t' xs (readings xs)) OperandThere IsOperand c.size_of_type.result) (sym c.in-SizeofType.is)
    (c.size_of_type.ensures t' xs n.place (subst (λ (ks : List ℕ). AreParts c.args.work.now ks xs)
    (sym c.as_slice-kids.ensures) n.parts))

pub expressions::expression-returns-in-Cast : goal.expressions::expression-returns-in-Cast
expressions::expression-returns-in-Cast t c = λ t' xs n.
    subst (λ (k : NodeKind). Answers quietly c.args.work.now c.cast.new.work
    (expression_of k t' xs (readings xs)) OperandThere IsOperand c.cast.result) (sym c.in-Cast.is)
    (c.cast.ensures t' xs n.place (subst (λ (ks : List ℕ). AreParts c.args.work.now ks xs)
    (sym c.as_slice-kids.ensures) n.parts))

pub expressions::expression-returns-in-Infix : goal.expressions::expression-returns-in-Infix
expressions::expression-returns-in-Infix t c = λ t' xs n.
    subst (λ (k : NodeKind). Answers quietly c.args.work.now c.infix.new.work
    (expression_of k t' xs (readings xs)) OperandThere IsOperand c.infix.result) (sym c.in-Infix.is)
    (c.infix.ensures t' xs n.place (subst (λ (ks : List ℕ). AreParts c.args.work.now ks xs)
    (sym c.as_slice-kids.ensures) n.parts))

pub expressions::expression-returns-in-Conditional : goal.expressions::expression-returns-in-Conditional
expressions::expression-returns-in-Conditional t c = λ t' xs n.
    subst (λ (k : NodeKind). Answers quietly c.args.work.now c.conditional.new.work
    (expression_of k t' xs (readings xs)) OperandThere IsOperand c.conditional.result) (sym c.in-Conditional.is)
    (c.conditional.ensures t' xs n.place (subst (λ (ks : List ℕ). AreParts c.args.work.now ks xs)
    (sym c.as_slice-kids.ensures) n.parts))

pub expressions::expression-returns-in-Assignment : goal.expressions::expression-returns-in-Assignment
expressions::expression-returns-in-Assignment t c = λ t' xs n.
    subst (λ (k : NodeKind). Answers quietly c.args.work.now c.assignment.new.work
    (expression_of k t' xs (readings xs)) OperandThere IsOperand c.assignment.result) (sym c.in-Assignment.is)
    (c.assignment.ensures t' xs n.place (subst (λ (ks : List ℕ). AreParts c.args.work.now ks xs)
    (sym c.as_slice-kids.ensures) n.parts))

pub expressions::one_operand-operand-requires : goal.expressions::one_operand-operand-requires
expressions::one_operand-operand-requires t c = (
  omega arith,
  (
    c.requires.whole,
    one_within c.args.work.now c.args.kids.now c.in-Some.k c.in-Some.ensures c.requires.parts,
  ),
)

pub expressions::one_operand-returns-in-Some : goal.expressions::one_operand-returns-in-Some
expressions::one_operand-returns-in-Some t c =
    answers_one c.args.work.now _ c.args.kids.now c.in-Some.k
    (operand_of) c.args.pos OperandThere IsOperand _ c.in-Some.ensures c.operand.ensures

pub expressions::one_operand-returns-in-None : goal.expressions::one_operand-returns-in-None
expressions::one_operand-returns-in-None t c =
    refused_one c.args.work.now c.args.kids.now (operand_of) c.args.pos c.in-None.ensures

pub expressions::one_value-value_of-requires : goal.expressions::one_value-value_of-requires
expressions::one_value-value_of-requires t c = (
  omega arith,
  (
    c.requires.whole,
    one_within c.args.work.now c.args.kids.now c.in-Some.k c.in-Some.ensures c.requires.parts,
  ),
)

pub expressions::one_value-returns-in-Some : goal.expressions::one_value-returns-in-Some
expressions::one_value-returns-in-Some t c =
    answers_one c.args.work.now _ c.args.kids.now c.in-Some.k
    (read_value) c.args.pos OperandThere IsOperand _ c.in-Some.ensures c.value_of.ensures

pub expressions::one_value-returns-in-None : goal.expressions::one_value-returns-in-None
expressions::one_value-returns-in-None t c =
    refused_one c.args.work.now c.args.kids.now (read_value) c.args.pos c.in-None.ensures

pub expressions::two_values-values_of-requires : goal.expressions::two_values-values_of-requires
expressions::two_values-values_of-requires t c =
    let h = two_within c.args.work.now c.args.kids.now c.in-Some.x.first c.in-Some.x.second c.in-Some.ensures
    c.requires.parts in
    (omega arith, (c.requires.whole, (h.0, h.1)))

pub expressions::two_values-returns-in-Some : goal.expressions::two_values-returns-in-Some
expressions::two_values-returns-in-Some t c =
    answers_two c.args.work.now _ c.args.kids.now c.in-Some.x.first c.in-Some.x.second
    (λ r q. both (read_value r) (read_value q)) c.args.pos PairThere IsPair _ c.in-Some.ensures c.values_of.ensures

pub expressions::two_values-returns-in-None : goal.expressions::two_values-returns-in-None
expressions::two_values-returns-in-None t c =
    refused_two c.args.work.now c.args.kids.now (λ r q. both (read_value r) (read_value q)) c.args.pos c.in-None.ensures

pub expressions::place_and_value-place_with_value-requires : goal.expressions::place_and_value-place_with_value-requires
expressions::place_and_value-place_with_value-requires t c =
    let h = two_within c.args.work.now c.args.kids.now c.in-Some.x.first c.in-Some.x.second c.in-Some.ensures
    c.requires.parts in
    (omega arith, (c.requires.whole, (h.0, h.1)))

pub expressions::place_and_value-returns-in-Some : goal.expressions::place_and_value-returns-in-Some
expressions::place_and_value-returns-in-Some t c =
    answers_two c.args.work.now _ c.args.kids.now c.in-Some.x.first c.in-Some.x.second
    (λ r q. both (operand_of r) (read_value q)) c.args.pos PairThere IsPair _ c.in-Some.ensures
    c.place_with_value.ensures

pub expressions::place_and_value-returns-in-None : goal.expressions::place_and_value-returns-in-None
expressions::place_and_value-returns-in-None t c =
    refused_two c.args.work.now c.args.kids.now (λ r q. both (operand_of r) (read_value q)) c.args.pos c.in-None.ensures

pub expressions::type_and_value-type_with_value-requires : goal.expressions::type_and_value-type_with_value-requires
expressions::type_and_value-type_with_value-requires t c =
    let h = two_within c.args.work.now c.args.kids.now c.in-Some.x.first c.in-Some.x.second c.in-Some.ensures
    c.requires.parts in
    (omega arith, (c.requires.whole, (h.0, h.1)))

pub expressions::type_and_value-returns-in-Some : goal.expressions::type_and_value-returns-in-Some
expressions::type_and_value-returns-in-Some t c =
    answers_two c.args.work.now _ c.args.kids.now c.in-Some.x.first c.in-Some.x.second
    (λ r q. both (type_of r) (read_value q)) c.args.pos CastThere IsCast _ c.in-Some.ensures c.type_with_value.ensures

pub expressions::type_and_value-returns-in-None : goal.expressions::type_and_value-returns-in-None
expressions::type_and_value-returns-in-None t c =
    refused_two c.args.work.now c.args.kids.now (λ r q. both (type_of r) (read_value q)) c.args.pos c.in-None.ensures

pub expressions::three_values-values_of_three-requires : goal.expressions::three_values-values_of_three-requires
expressions::three_values-values_of_three-requires t c =
    let h = three_within c.args.work.now c.args.kids.now c.in-Some.x.first c.in-Some.x.second c.in-Some.x.third
    c.in-Some.ensures c.requires.parts in
    (omega arith, (c.requires.whole, (h.0, (h.1, h.2))))

pub expressions::three_values-returns-in-Some : goal.expressions::three_values-returns-in-Some
expressions::three_values-returns-in-Some t c =
    answers_three c.args.work.now _ c.args.kids.now c.in-Some.x.first c.in-Some.x.second c.in-Some.x.third
    (λ r q o. both (read_value r) (both (read_value q) (read_value o))) c.args.pos TripleThere IsTriple _
    c.in-Some.ensures c.values_of_three.ensures

pub expressions::three_values-returns-in-None : goal.expressions::three_values-returns-in-None
expressions::three_values-returns-in-None t c =
    refused_three c.args.work.now c.args.kids.now
    (λ r q o. both (read_value r) (both (read_value q) (read_value o))) c.args.pos c.in-None.ensures

pub expressions::values_of-returns : goal.expressions::values_of-returns
expressions::values_of-returns t c = λ x y p q.
    let u = c.args.work.now in
    let v = c.value_of.new.work in
    let w = c.value_of-2.new.work in
    let a = c.in_ok-left.ensures x p in
    let b = c.in_ok-right.ensures y (part_kept u v c.args.b y a.grows.keeps q) in
    both_done u v w (read_value (reading x)) (read_value (reading y)) (operand_in v c.in_ok-left.left)
    (operand_in w c.in_ok-left.left) (operand_in w c.in_ok-right.right) _ _ _
    (sym (operand_kept v w c.in_ok-left.left b.grows.keeps a.there))
    (operand_there v w c.in_ok-left.left b.grows.keeps a.there, b.there) a b

pub expressions::place_with_value-returns : goal.expressions::place_with_value-returns
expressions::place_with_value-returns t c = λ x y p q.
    let u = c.args.work.now in
    let v = c.operand.new.work in
    let w = c.value_of.new.work in
    let a = c.in_ok-left.ensures x p in
    let b = c.in_ok-right.ensures y (part_kept u v c.args.b y a.grows.keeps q) in
    both_done u v w (operand_of (reading x)) (read_value (reading y)) (operand_in v c.in_ok-left.left)
    (operand_in w c.in_ok-left.left) (operand_in w c.in_ok-right.right) _ _ _
    (sym (operand_kept v w c.in_ok-left.left b.grows.keeps a.there))
    (operand_there v w c.in_ok-left.left b.grows.keeps a.there, b.there) a b

pub expressions::values_of_three-returns : goal.expressions::values_of_three-returns
expressions::values_of_three-returns t c = λ x y z p q r.
    let u = c.args.work.now in
    let v = c.value_of.new.work in
    let w = c.values_of.new.work in
    let a = c.in_ok-first.ensures x p in
    let k = a.grows.keeps in
    let b = c.in_ok-pair.ensures y z (part_kept u v c.args.b y k q) (part_kept u v c.args.c z k r) in
    both_done u v w (read_value (reading x)) (both (read_value (reading y)) (read_value (reading z)))
    (operand_in v c.in_ok-first.first) (operand_in w c.in_ok-first.first) (two_in w c.in_ok-pair.pair) _ _ _
    (sym (operand_kept v w c.in_ok-first.first b.grows.keeps a.there))
    (operand_there v w c.in_ok-first.first b.grows.keeps a.there, b.there) a b

pub expressions::type_with_value-returns : goal.expressions::type_with_value-returns
expressions::type_with_value-returns t c = λ x y p q.
    let u = c.args.work.now in
    let v = c.type_of.new.work in
    let w = c.value_of.new.work in
    let a = c.in_ok-of.ensures x p in
    let b = c.in_ok-operand.ensures y (part_kept u v c.args.b y a.grows.keeps q) in
    both_done u v w (type_of (reading x)) (read_value (reading y)) (type_in v.nodes c.in_ok-of.of)
    (type_in w.nodes c.in_ok-of.of) (operand_in w c.in_ok-operand.operand) _ _ _
    (sym (b.grows.keeps.types c.in_ok-of.of a.there)) (type_there v w c.in_ok-of.of b.grows.keeps a.there, b.there) a b

pub expressions::index-returns : goal.expressions::index-returns
expressions::index-returns t c = λ t' xs e p.
    let u = c.args.work.now in
    let v = c.two_values.new.work in
    step_then u v _ _ (two_values c.args.pos (readings xs)) (λ x. index x.left x.right c.args.pos)
    (two_in v c.in_ok-both.both) _ OperandThere IsOperand _ (index_is t' c.args.pos e xs (readings xs))
    (c.in_ok-both.ensures xs p) c.index.ensures

pub expressions::infix-returns : goal.expressions::infix-returns
expressions::infix-returns t c = λ t' xs e p.
    let u = c.args.work.now in
    let v = c.two_values.new.work in
    step_then u v _ _ (two_values c.args.pos (readings xs)) (λ x. infix_join c.args.op x.left x.right c.args.pos)
    (two_in v c.in_ok-both.both) _ OperandThere IsOperand _ (infix_is c.args.op t' c.args.pos e xs (readings xs))
    (c.in_ok-both.ensures xs p) c.infix_join.ensures

pub expressions::conditional-returns : goal.expressions::conditional-returns
expressions::conditional-returns t c = λ t' xs e p.
    let u = c.args.work.now in
    let v = c.three_values.new.work in
    step_then u v _ _ (three_values c.args.pos (readings xs))
    (λ x. conditional x.left x.right.left x.right.right c.args.pos)
    (three_in v c.in_ok-all.all) _ OperandThere IsOperand _ (conditional_is t' c.args.pos e xs (readings xs))
    (c.in_ok-all.ensures xs p) c.conditional.ensures

pub expressions::assignment-returns : goal.expressions::assignment-returns
expressions::assignment-returns t c = λ t' xs e p.
    let u = c.args.work.now in
    let v = c.place_and_value.new.work in
    step_then u v _ _ (place_and_value c.args.pos (readings xs)) (λ x. assigning c.args.op x c.args.pos)
    (two_in v c.in_ok-x.x) _ OperandThere IsOperand _ (assignment_is c.args.op t' c.args.pos e xs (readings xs))
    (c.in_ok-x.ensures xs p) c.assigned.ensures

pub expressions::postfix-returns : goal.expressions::postfix-returns
expressions::postfix-returns t c = λ t' xs e p.
    let u = c.args.work.now in
    let v = c.one_operand.new.work in
    step_then u v _ _ (one_operand c.args.pos (readings xs)) (λ a. stepped c.args.op false a c.args.pos a.first)
    (operand_in v c.in_ok-a.a) _ OperandThere IsOperand _ (postfix_is c.args.op t' c.args.pos e xs (readings xs))
    (c.in_ok-a.ensures xs p) c.stepped.ensures

pub expressions::step_in_front-returns : goal.expressions::step_in_front-returns
expressions::step_in_front-returns t c = λ t' xs e p.
    let u = c.args.work.now in
    let v = c.one_operand.new.work in
    step_then u v _ _ (one_operand c.args.pos (readings xs)) (λ a. stepped c.args.op true a c.args.pos c.args.pos)
    (operand_in v c.in_ok-a.a) _ OperandThere IsOperand _ (step_is c.args.op t' c.args.pos e xs (readings xs))
    (c.in_ok-a.ensures xs p) c.stepped.ensures

pub expressions::address-returns : goal.expressions::address-returns
expressions::address-returns t c = λ t' xs e p.
    let u = c.args.work.now in
    let v = c.one_operand.new.work in
    step_then u v _ _ (one_operand c.args.pos (readings xs)) (λ a. address a c.args.pos)
    (operand_in v c.in_ok-a.a) _ OperandThere IsOperand _ (address_is t' c.args.pos e xs (readings xs))
    (c.in_ok-a.ensures xs p) c.address.ensures

pub expressions::indirection-returns : goal.expressions::indirection-returns
expressions::indirection-returns t c = λ t' xs e p.
    let u = c.args.work.now in
    let v = c.one_value.new.work in
    step_then u v _ _ (one_value c.args.pos (readings xs)) (λ a. dereference a c.args.pos c.args.pos)
    (operand_in v c.in_ok-a.a) _ OperandThere IsOperand _ (indirection_is t' c.args.pos e xs (readings xs))
    (c.in_ok-a.ensures xs p) c.dereference.ensures

pub expressions::unary-returns : goal.expressions::unary-returns
expressions::unary-returns t c = λ t' xs e p.
    let u = c.args.work.now in
    let v = c.one_value.new.work in
    step_then u v _ _ (one_value c.args.pos (readings xs)) (λ a. unary_on c.args.op a c.args.pos)
    (operand_in v c.in_ok-a.a) _ OperandThere IsOperand _ (unary_is c.args.op t' c.args.pos e xs (readings xs))
    (c.in_ok-a.ensures xs p) c.unary_on.ensures

pub expressions::cast-returns : goal.expressions::cast-returns
expressions::cast-returns t c = λ t' xs e p.
    let u = c.args.work.now in
    let v = c.type_and_value.new.work in
    step_then u v _ _ (type_and_value c.args.pos (readings xs)) (λ x. cast x.left x.right c.args.pos)
    (cast_in v c.in_ok-x.x) _ OperandThere IsOperand _ (cast_is t' c.args.pos e xs (readings xs))
    (c.in_ok-x.ensures xs p) c.cast.ensures

pub expressions::size_of_expression-returns : goal.expressions::size_of_expression-returns
expressions::size_of_expression-returns t c = λ t' xs e p.
    let u = c.args.work.now in
    let v = c.unevaluated_operand.new.work in
    step_then u v _ _ (unevaluated (one_operand c.args.pos (readings xs))) (λ a. sized (operand_type a) c.args.pos)
    (operand_in v c.in_ok-a.a) _ OperandThere IsOperand _ (size_of_expression_is t' c.args.pos e xs (readings xs))
    (c.in_ok-a.ensures xs p)
    (subst (λ (k : Ty). Answers quietly v c.sized.new.self (sized k c.args.pos) OperandThere IsOperand c.sized.result)
    c.of-of.ensures.is c.sized.ensures)

pub expressions::prefixed-returns-in-Step : goal.expressions::prefixed-returns-in-Step
expressions::prefixed-returns-in-Step t c = λ t' xs e p.
    subst (λ (o : PrefixOperator). Answers quietly c.args.work.now c.step_in_front.new.work
    (expression_of (Kinds.Prefix o) t' xs (readings xs)) OperandThere IsOperand c.step_in_front.result)
    (sym c.in-Step.is) (c.step_in_front.ensures t' xs e p)

pub expressions::prefixed-returns-in-Address : goal.expressions::prefixed-returns-in-Address
expressions::prefixed-returns-in-Address t c = λ t' xs e p.
    subst (λ (o : PrefixOperator). Answers quietly c.args.work.now c.address.new.work
    (expression_of (Kinds.Prefix o) t' xs (readings xs)) OperandThere IsOperand c.address.result)
    (sym c.in-Address.is) (c.address.ensures t' xs e p)

pub expressions::prefixed-returns-in-Indirection : goal.expressions::prefixed-returns-in-Indirection
expressions::prefixed-returns-in-Indirection t c = λ t' xs e p.
    subst (λ (o : PrefixOperator). Answers quietly c.args.work.now c.indirection.new.work
    (expression_of (Kinds.Prefix o) t' xs (readings xs)) OperandThere IsOperand c.indirection.result)
    (sym c.in-Indirection.is) (c.indirection.ensures t' xs e p)

pub expressions::prefixed-returns-in-Unary : goal.expressions::prefixed-returns-in-Unary
expressions::prefixed-returns-in-Unary t c = λ t' xs e p.
    subst (λ (o : PrefixOperator). Answers quietly c.args.work.now c.unary.new.work
    (expression_of (Kinds.Prefix o) t' xs (readings xs)) OperandThere IsOperand c.unary.result)
    (sym c.in-Unary.is) (c.unary.ensures t' xs e p)

pub expressions::unevaluated_operand-returns : goal.expressions::unevaluated_operand-returns
expressions::unevaluated_operand-returns t c = λ xs p.
    unevaluated_operand c.args.work.now c.one_operand.new.work c.back.new.self c.mark-mark.result
    (one_operand c.args.pos (readings xs)) c.in_ok-a.a c.mark-mark.ensures c.back.ensures (c.in_ok-a.ensures xs p)

pub expressions::expression-returns-in-Name : goal.expressions::expression-returns-in-Name
expressions::expression-returns-in-Name t c = λ t' xs n.
    subst (λ (k : NodeKind). Answers quietly c.args.work.now c.named.new.self
    (expression_of k t' xs (readings xs)) OperandThere IsOperand c.named.result) (sym c.in-Name.is)
    (subst (λ (l : Lexeme). Answers quietly c.args.work.now c.named.new.self
    (named l) OperandThere IsOperand c.named.result)
    (sym (word_is c.args.work.now c.args.node.now t' xs n
    (fits_name c.args.work.now c.args.node.now t' xs n c.in-Name.is)))
    (subst (λ (m : Name). Answers quietly c.args.work.now c.named.new.self
    (named (token_of c.args.work.now m)) OperandThere IsOperand c.named.result) c.name_of-name.ensures
    (c.named.ensures)))

pub expressions::expression-number-requires : goal.expressions::expression-number-requires
expressions::expression-number-requires t c =
    record {
      whole = c.requires.whole;
      accepted = fits_number c.args.work.now c.args.node.now c.name_of-name.result c.name_of-name.ensures c.in-Number.is
          c.requires.node;
    }

pub expressions::expression-returns-in-Number : goal.expressions::expression-returns-in-Number
expressions::expression-returns-in-Number t c = λ t' xs n.
    subst (λ (k : NodeKind). Answers quietly c.args.work.now c.number.new.self
    (expression_of k t' xs (readings xs)) OperandThere IsOperand c.number.result) (sym c.in-Number.is)
    (subst (λ (d : Doing Operand). Answers quietly c.args.work.now c.number.new.self d OperandThere IsOperand
    c.number.result) (sym (number_is c.args.work.now c.args.node.now c.name_of-name.result t' xs
    c.name_of-name.ensures n)) c.number.ensures)

pub expressions::expression-character-requires : goal.expressions::expression-character-requires
expressions::expression-character-requires t c =
    record {
      whole = c.requires.whole;
      accepted = fits_character c.args.work.now c.args.node.now c.name_of-name.result c.name_of-name.ensures
          c.in-Character.is c.requires.node;
    }

pub expressions::expression-returns-in-Character : goal.expressions::expression-returns-in-Character
expressions::expression-returns-in-Character t c = λ t' xs n.
    subst (λ (k : NodeKind). Answers quietly c.args.work.now c.character.new.self
    (expression_of k t' xs (readings xs)) OperandThere IsOperand c.character.result) (sym c.in-Character.is)
    (subst (λ (d : Doing Operand). Answers quietly c.args.work.now c.character.new.self d OperandThere IsOperand
    c.character.result) (sym (character_is c.args.work.now c.args.node.now c.name_of-name.result t' xs
    c.name_of-name.ensures n)) c.character.ensures)

pub expressions::expression-literal-requires : goal.expressions::expression-literal-requires
expressions::expression-literal-requires t c = record {
  whole = c.requires.whole;
  accepted = fits_text c.args.work.now c.args.node.now c.name_of-name.result c.name_of-name.ensures c.in-Text.is
      c.requires.node;
  parts = texts_of c.args.work.now c.args.node.now c.as_slice-kids.result.now c.in-Text.is c.as_slice-kids.ensures
      c.requires.node;
}

pub expressions::expression-returns-in-Text : goal.expressions::expression-returns-in-Text
expressions::expression-returns-in-Text t c = λ t' xs n.
    subst (λ (k : NodeKind). Answers quietly c.args.work.now c.literal.new.self
    (expression_of k t' xs (readings xs)) OperandThere IsOperand c.literal.result) (sym c.in-Text.is)
    (subst (λ (d : Doing Operand). Answers quietly c.args.work.now c.literal.new.self d OperandThere IsOperand
    c.literal.result) (sym (literal_is c.args.work.now c.args.node.now t' xs n))
    (subst (λ (m : Name). Answers quietly c.args.work.now c.literal.new.self
    (text (token_of c.args.work.now m) xs) OperandThere IsOperand c.literal.result) c.name_of-name.ensures
    (c.literal.ensures xs (subst (λ (ks : List ℕ). AreParts c.args.work.now ks xs)
    (sym c.as_slice-kids.ensures) n.parts))))

pub expressions::member_of-returns : goal.expressions::member_of-returns
expressions::member_of-returns t c = λ x t' word e n p.
    let u = c.args.work.now in
    let v = c.operand.new.work in
    step_then u v _ _ (reading x).operand (λ a. member a c.args.name.now c.args.pos)
    (operand_in v c.in_ok-a.a) _ OperandThere IsOperand _
    (direct_is t' word c.args.pos c.args.name.now e n (reading x)) (c.in_ok-a.ensures x p) c.member.ensures

pub expressions::member_behind-returns : goal.expressions::member_behind-returns
expressions::member_behind-returns t c = λ x t' word e n p.
    let u = c.args.work.now in
    let v = c.value_of.new.work in
    step_then u v _ _ (read_value (reading x)) (λ a. member_behind a c.args.name.now c.args.pos)
    (operand_in v c.in_ok-a.a) _ OperandThere IsOperand _
    (indirect_is t' word c.args.pos c.args.name.now e n (reading x)) (c.in_ok-a.ensures x p) c.member_behind.ensures

pub expressions::selected-member_of-requires : goal.expressions::selected-member_of-requires
expressions::selected-member_of-requires t c =
    let h = two_within c.args.work.now c.args.kids.now c.in-Some.x.first c.in-Some.x.second c.in-Some.ensures
    c.requires.parts in
    (omega arith, (c.requires.whole, h.0))

pub expressions::selected-member_behind-requires : goal.expressions::selected-member_behind-requires
expressions::selected-member_behind-requires t c =
    let h = two_within c.args.work.now c.args.kids.now c.in-Some.x.first c.in-Some.x.second c.in-Some.ensures
    c.requires.parts in
    (omega arith, (c.requires.whole, h.0))

pub expressions::selected-returns-in-None : goal.expressions::selected-returns-in-None
expressions::selected-returns-in-None t c =
    λ t' xs e p s h. not_selected c.args.work.now c.args.kids.now c.args.how t' c.args.pos e c.in-None.ensures xs p s

pub expressions::selected-returns-in-Direct : goal.expressions::selected-returns-in-Direct
expressions::selected-returns-in-Direct t c = λ t' xs e p.
    let u = c.args.work.now in
    let m = selects u c.args.kids.now c.in-Some.x.first c.in-Some.x.second c.node_at-node.result.now c.args.how t'
    c.in-Some.ensures c.node_at-node.ensures xs p in
    subst (λ (d : Doing Operand). Answers quietly u c.member_of.new.work d OperandThere IsOperand c.member_of.result)
    (sym (m.is ∙ ap (λ (o : Selection). selected o t' m.name (reading m.head)) c.in-Direct.is))
    (c.member_of.ensures m.head t' m.name e (m.text ∙ sym c.text-name.ensures) m.part)

pub expressions::selected-returns-in-Indirect : goal.expressions::selected-returns-in-Indirect
expressions::selected-returns-in-Indirect t c = λ t' xs e p.
    let u = c.args.work.now in
    let m = selects u c.args.kids.now c.in-Some.x.first c.in-Some.x.second c.node_at-node.result.now c.args.how t'
    c.in-Some.ensures c.node_at-node.ensures xs p in
    subst (λ (d : Doing Operand). Answers quietly u c.member_behind.new.work d OperandThere IsOperand
    c.member_behind.result) (sym (m.is
    ∙ ap (λ (o : Selection). selected o t' m.name (reading m.head)) c.in-Indirect.is))
    (c.member_behind.ensures m.head t' m.name e (m.text ∙ sym c.text-name.ensures) m.part)

pub expressions::conditional-returns-in_err-all : goal.expressions::conditional-returns-in_err-all
expressions::conditional-returns-in_err-all t c =
    let p = err_from_is_err_and c.from_residual.result c.from_residual.ensures.1 in λ t' xs e q.
    rw (p.1, p.2) (step_failed c.args.work.now c.three_values.new.work c.three_values.new.work _
    (three_values c.args.pos (readings xs))
    (λ x. conditional x.left x.right.left x.right.right c.args.pos) TripleThere IsTriple OperandThere IsOperand _
    (conditional_is t' c.args.pos e xs (readings xs)) (c.in_err-all.ensures xs q))

pub expressions::arguments-value_of-requires : goal.expressions::arguments-value_of-requires
expressions::arguments-value_of-requires t c =
    let v = c.loop-part.work in (
      omega arith,
      (
        c.loop-part.invariant.whole,
        first_within v c.in-Some.part.first c.in-Some.part.others.now
            (subst (λ (z : List ℕ). PartsWithin v c.args.depth z) c.in-Some.ensures c.loop-part.invariant.parts),
      ),
    )

pub expressions::arguments-returns-in_err-x : goal.expressions::arguments-returns-in_err-x
expressions::arguments-returns-in_err-x t c =
    let p = err_from_is_err_and c.from_residual.result c.from_residual.ensures.1 in λ xs q.
    let u = c.args.work.now in
    let v = c.loop-part.work in
    rw (p.1, p.2) (so_far_fails u v c.value_of.new.work xs c.in-Some.part.first c.in-Some.part.others.now
    c.loop-part.values _ (subst (λ (z : List ℕ). ReadSoFar u v xs z c.loop-part.values) c.in-Some.ensures
    (c.loop-part.invariant.reads xs q)) c.in_err-x.ensures)

pub expressions::arguments-loop-part-preserved : goal.expressions::arguments-loop-part-preserved
expressions::arguments-loop-part-preserved t c =
    let u = c.args.work.now in
    let v = c.loop-part.work in
    let w = c.value_of.new.work in
    let k = c.in-Some.part.first in
    let ks = c.in-Some.part.others.now in
    let h = subst (λ (z : List ℕ). PartsWithin v c.args.depth z) c.in-Some.ensures c.loop-part.invariant.parts in
    let f = first_within v k ks h in
    let a = c.in_ok-x.ensures f.syntax f.is in
    record {
      whole = a.whole;
      parts = within_kept v w ks a.grows.keeps (others_within v k ks h);
      reads = λ xs q. so_far_steps u v w xs k ks c.loop-part.values c.push.new.values c.in_ok-x.x
          (subst (λ (z : List ℕ). ReadSoFar u v xs z c.loop-part.values) c.in-Some.ensures
          (c.loop-part.invariant.reads xs q)) c.in_ok-x.ensures c.in_ok-push.ensures;
    }

pub expressions::arguments-returns : goal.expressions::arguments-returns
expressions::arguments-returns t c = λ xs q.
    let u = c.args.work.now in
    let v = c.loop-part.work in
    so_far_ends u v xs c.loop-part.values (subst
    (λ (z : List ℕ). ReadSoFar u v xs z c.loop-part.values) c.in_default.ensures
    (c.loop-part.invariant.reads xs q))

pub expressions::call_of_library-returns : goal.expressions::call_of_library-returns
expressions::call_of_library-returns t c = λ xs q.
    let u = c.args.work.now in
    let v = c.arguments.new.work in
    let k = c.args.service in
    then quietly quiet_law u v c.library_call.new.self (read_values (readings xs))
    (λ ys. library_call (slice_get services k) k ys c.args.pos c.args.first)
    (map (operand_in v) c.in_ok-xs.xs.items) _ OperandThere IsOperand c.library_call.result
    (c.in_ok-xs.ensures xs q)
    (subst (λ (ys : List Node). Answers quietly v c.library_call.new.self
    (library_call (slice_get services k) k (map (operand_in v) ys) c.args.pos c.args.first) OperandThere
    IsOperand c.library_call.result) c.as_slice.ensures.value c.library_call.ensures)

pub expressions::call_of_value-arguments-requires : goal.expressions::call_of_value-arguments-requires
expressions::call_of_value-arguments-requires t c =
    let u = c.args.work.now in
    let v = c.value_of.new.work in
    let a = c.in_ok-f.ensures c.requires.called.syntax c.requires.called.is in
    (omega arith, (a.whole, within_kept u v c.args.kids.now a.grows.keeps c.requires.parts))

pub expressions::call_of_value-returns : goal.expressions::call_of_value-returns
expressions::call_of_value-returns t c = λ x xs p q.
    let u = c.args.work.now in
    let v = c.value_of.new.work in
    let w = c.arguments.new.work in
    let a = c.in_ok-f.ensures x p in
    let keeps = a.grows.keeps in
    let b = c.in_ok-xs.ensures xs (parts_kept u v c.args.kids.now xs keeps q) in
    let ys = map (operand_in w) c.in_ok-xs.xs.items in
    then quietly quiet_law u v c.call.new.self (read_value (reading x))
    (λ f. read_values (readings xs) >>= λ zs. call f zs c.args.pos)
    (operand_in v c.in_ok-f.f) _ OperandThere IsOperand c.call.result a
    (then quietly quiet_law v w c.call.new.self (read_values (readings xs))
    (λ zs. call (operand_in v c.in_ok-f.f) zs c.args.pos) ys _ OperandThere IsOperand c.call.result b
    (subst (λ (f : Operand). Answers quietly w c.call.new.self
    (call f ys c.args.pos) OperandThere IsOperand c.call.result)
    (operand_kept v w c.in_ok-f.f b.grows.keeps a.there)
    (subst (λ (zs : List Node). Answers quietly w c.call.new.self
    (call (operand_in w c.in_ok-f.f) (map (operand_in w) zs) c.args.pos) OperandThere IsOperand c.call.result)
    c.as_slice.ensures.value c.call.ensures)))

pub expressions::call-call_of_library-requires : goal.expressions::call-call_of_library-requires
expressions::call-call_of_library-requires t c =
    let u = c.args.work.now in (
      omega arith,
      (
        c.requires.whole,
        others_within u c.in-Some.part.first c.in-Some.part.others.now
            (subst (λ (z : List ℕ). PartsWithin u c.args.depth z) c.in-Some.ensures c.requires.parts),
      ),
    )

pub expressions::call-call_of_value-requires : goal.expressions::call-call_of_value-requires
expressions::call-call_of_value-requires t c =
    let u = c.args.work.now in
    let h = subst (λ (z : List ℕ). PartsWithin u c.args.depth z) c.in-Some.ensures c.requires.parts in (
      omega arith,
      (
        c.requires.whole,
        (
          first_within u c.in-Some.part.first c.in-Some.part.others.now h,
          others_within u c.in-Some.part.first c.in-Some.part.others.now h,
        ),
      ),
    )

pub expressions::call-returns-in-None : goal.expressions::call-returns-in-None
expressions::call-returns-in-None t c =
    λ t' xs e p s h. no_call c.args.work.now t' c.args.pos e c.args.kids.now c.in-None.ensures xs p s

pub expressions::call-returns-in-Some-service : goal.expressions::call-returns-in-Some-service
expressions::call-returns-in-Some-service t c = λ t' xs e p.
    let u = c.args.work.now in
    let m = cut u c.in-Some.part.first c.in-Some.part.others.now xs
    (subst (λ (z : List ℕ). AreParts u z xs) c.in-Some.ensures p) in
    let o = opened u c.in-Some.part.first m.head c.node_at-node.result.now m.first c.node_at-node.ensures in
    answers_at quietly u c.call_of_library.new.work _
    (called_service c.in-Some-service.number c.args.pos c.node_at-node.result.now.first (readings m.tail))
    OperandThere IsOperand c.call_of_library.result
    (λ s k. call_is t' m.head xs m.tail (Some c.in-Some-service.number) s m.is
    (c.library-service.ensures m.head m.first s k ∙ c.in-Some-service.is)
    ∙ service_is t' c.args.pos c.node_at-node.result.now.first m.head c.in-Some-service.number
    (readings m.tail) s e o.first)
    (c.call_of_library.ensures m.tail m.others)

pub expressions::call-returns-in-None-service : goal.expressions::call-returns-in-None-service
expressions::call-returns-in-None-service t c = λ t' xs e p.
    let u = c.args.work.now in
    let m = cut u c.in-Some.part.first c.in-Some.part.others.now xs
    (subst (λ (z : List ℕ). AreParts u z xs) c.in-Some.ensures p) in
    answers_at quietly u c.call_of_value.new.work _
    (called_value c.args.pos (reading m.head) (readings m.tail)) OperandThere IsOperand c.call_of_value.result
    (λ s k. call_is t' m.head xs m.tail None s m.is
    (c.library-service.ensures m.head m.first s k ∙ c.in-None-service.is)
    ∙ value_is t' c.args.pos m.head (readings m.tail) s e)
    (c.call_of_value.ensures m.head m.tail m.first m.others)

pub expressions::expression-returns-in_default : goal.expressions::expression-returns-in_default
expressions::expression-returns-in_default t c =
    λ t' xs n s h. no_expression c.args.node.now.kind t' c.args.node.now.pos n.place xs
    (readings xs) s c.in_default.not-Name c.in_default.not-Number c.in_default.not-Character c.in_default.not-Text
    c.in_default.not-Parenthesized c.in_default.not-Index c.in_default.not-Call c.in_default.not-Select
    c.in_default.not-Postfix c.in_default.not-Prefix c.in_default.not-SizeofExpression c.in_default.not-SizeofType
    c.in_default.not-Cast c.in_default.not-Infix c.in_default.not-Conditional c.in_default.not-Assignment

pub expressions::arguments-loop-part-init : goal.expressions::arguments-loop-part-init
expressions::arguments-loop-part-init t c = record {
  whole = c.requires.whole;
  parts = c.requires.parts;
  reads = so_far_begins c.args.work.now c.args.kids.now c.new-values.result c.requires.whole c.new-values.ensures.items;
}

pub expressions::one_type-type_of-requires : goal.expressions::one_type-type_of-requires
expressions::one_type-type_of-requires t c = (
  omega arith,
  (
    c.requires.whole,
    one_within c.args.work.now c.args.kids.now c.in-Some.k c.in-Some.ensures c.requires.parts,
  ),
)

pub expressions::one_type-returns-in-Some : goal.expressions::one_type-returns-in-Some
expressions::one_type-returns-in-Some t c =
    answers_one c.args.work.now _ c.args.kids.now c.in-Some.k
    (type_of) c.args.pos TypeThere IsType _ c.in-Some.ensures c.type_of.ensures

pub expressions::one_type-returns-in-None : goal.expressions::one_type-returns-in-None
expressions::one_type-returns-in-None t c =
    refused_one c.args.work.now c.args.kids.now (type_of) c.args.pos c.in-None.ensures

pub expressions::unevaluated_type-returns : goal.expressions::unevaluated_type-returns
expressions::unevaluated_type-returns t c = λ xs p.
    unevaluated_type c.args.work.now c.one_type.new.work c.back.new.self c.mark-mark.result
    (one_type c.args.pos (readings xs)) c.in_ok-of.of c.mark-mark.ensures c.back.ensures (c.in_ok-of.ensures xs p)

pub expressions::size_of_type-returns : goal.expressions::size_of_type-returns
expressions::size_of_type-returns t c = λ t' xs e p.
    let u = c.args.work.now in
    let v = c.unevaluated_type.new.work in
    step_then u v _ _ (unevaluated (one_type c.args.pos (readings xs))) (λ of. sized of c.args.pos)
    (type_in v.nodes c.in_ok-of.of) _ OperandThere IsOperand _ (size_of_type_is t' c.args.pos e xs (readings xs))
    (c.in_ok-of.ensures xs p) c.sized.ensures

-- ---- constants

pub expressions::unevaluated_value-returns : goal.expressions::unevaluated_value-returns
expressions::unevaluated_value-returns t c = λ x p.
    unevaluated_operand c.args.work.now c.value_of.new.work c.back.new.self c.mark-mark.result
    (read_value (reading x)) c.in_ok-x.x c.mark-mark.ensures c.back.ensures (c.in_ok-x.ensures x p)

pub expressions::constant-returns : goal.expressions::constant-returns
expressions::constant-returns t c = λ x p.
    let v = c.unevaluated_value.new.work in
    then quietly quiet_law c.args.work.now v v (unevaluated (read_value (reading x))) steps.constant
    (operand_in v c.in_ok-x.x) _ ConstantThere (in_any IsConstant) c.constant_value.result
    (c.in_ok-x.ensures x p) c.constant_value.ensures

pub declarators::length_of-array_length-requires : goal.declarators::length_of-array_length-requires
declarators::length_of-array_length-requires t c =
    let a = c.in_ok-c.ensures c.requires.part.syntax c.requires.part.is in record { whole = a.whole; small = a.there }

pub declarators::length_of-returns : goal.declarators::length_of-returns
declarators::length_of-returns t c = λ x p.
    let v = c.constant.new.work in
    then quietly quiet_law c.args.work.now v v (declarations.constant (reading x))
    (λ k. steps.array_length k.number k.first)
    (record { number = c.in_ok-c.c.number; first = c.in_ok-c.c.first }) _ CountThere
    (in_any IsCount) c.array_length.result (c.in_ok-c.ensures x p) c.array_length.ensures

-- ---- specifiers

pub types::specified-named_types-requires : goal.types::specified-named_types-requires
types::specified-named_types-requires t c =
    let some = deep c.args.work.now c.args.k c.requires.part in
    let u = c.args.work.now in (
      omega arith,
      (
        c.requires.whole,
        subst (λ (ks : List ℕ). PartsWithin u (c.args.depth - 1) ks) (sym c.as_slice-kids.ensures)
            (kids_within u c.args.k c.node_at-node.result.now c.requires.part c.node_at-node.ensures),
      ),
    )

pub types::specified-specified-requires : goal.types::specified-specified-requires
types::specified-specified-requires t c =
    let u = c.args.work.now in
    let n = c.node_at-node.result.now in
    let h = kids_within u c.args.k n c.requires.part c.node_at-node.ensures in
    let a = c.in_ok-named.ensures h.syntax (subst (λ (ks : List ℕ). AreParts u ks h.syntax)
    (sym c.as_slice-kids.ensures) h.are) in
    record {
      whole = a.whole;
      there = subst (λ (ks : List ℕ). All (λ k. k < type_count c.named_types.new.work.nodes) ks)
          (sym c.as_slice.ensures.value) a.there;
    }

pub types::specified-returns : goal.types::specified-returns
types::specified-returns t c = λ x p.
    let u = c.args.work.now in
    let v = c.named_types.new.work in
    let w = c.specified.new.work in
    let n = c.node_at-node.result.now in
    let o = opened u c.args.k x n p c.node_at-node.ensures in
    let lone : c.is_lone-lone.result ≡ (c.args.alone && length n.kids == 1) =
    c.is_lone-lone.ensures ∙ ap (λ (ks : List ℕ). c.args.alone && length ks == 1) c.as_slice-kids.ensures in
    let kids = subst (λ (ks : List ℕ). AreParts u ks o.parts) (sym c.as_slice-kids.ensures) o.node.parts in
    let a = c.in_ok-named.ensures o.parts kids in
    let types = map (type_in v.nodes) c.in_ok-named.named.items in
    let rest = c.specified.ensures o.token o.parts o.node.place
    (parts_kept u v c.as_slice-kids.result.now o.parts a.grows.keeps kids).stand in
    at_node u w n x (λ r. r.specified c.args.alone) SpecifiedThere (in_any IsSpecified) _ o
    (answers_at quietly u w (specifiers c.args.alone o.token o.parts (readings o.parts))
    (named_types (c.args.alone && length n.kids == 1) o.parts (readings o.parts)
    >>= λ ts. steps.specified o.token o.parts ts) SpecifiedThere (in_any IsSpecified) _
    (λ s k. specifiers_are c.args.alone o.token o.parts (readings o.parts) (length n.kids) s
    (parts_length u n.kids o.parts o.node.parts))
    (then quietly quiet_law u v w (named_types (c.args.alone && length n.kids == 1) o.parts (readings o.parts))
    (λ ts. steps.specified o.token o.parts ts) types (TypesThere v c.in_ok-named.named) SpecifiedThere
    (in_any IsSpecified) _
    (subst (λ (b : Bool). Done quietly u v (named_types b o.parts (readings o.parts)) (TypesThere v c.in_ok-named.named)
    (AreTypes v c.in_ok-named.named)) lone a)
    (subst (λ (ks : List ℕ). Answers quietly v w
    (steps.specified o.token o.parts (map (type_in v.nodes) ks)) SpecifiedThere
    (in_any IsSpecified) c.specified.result) c.as_slice.ensures.value rest)))

pub types::maybe_type-returns-in_ok-of : goal.types::maybe_type-returns-in_ok-of
types::maybe_type-returns-in_ok-of t c = λ x p.
    let u = c.args.work.now in
    let n = c.node_at-node.result.now in
    let o = opened u c.args.k x n p c.node_at-node.ensures in
    type_found u c.type_of.new.work c.args.alone x c.in_ok-of.of
    (ap names_type o.is ∙ names_type_is n.kind o.token o.parts ∙ c.names_type.ensures ∙ c.if-names_type.true)
    (c.in_ok-of.ensures x p)

pub types::maybe_type-returns-in_err-of : goal.types::maybe_type-returns-in_err-of
types::maybe_type-returns-in_err-of t c =
    let e = err_from_is_err_and c.from_residual.result c.from_residual.ensures.1 in λ x p.
    let u = c.args.work.now in
    let n = c.node_at-node.result.now in
    let o = opened u c.args.k x n p c.node_at-node.ensures in
    rw (e.1, e.2) (type_failed u c.type_of.new.work c.args.alone x _
    (ap names_type o.is ∙ names_type_is n.kind o.token o.parts ∙ c.names_type.ensures ∙ c.if-names_type.true)
    (c.in_err-of.ensures x p))

pub types::maybe_type-returns-else-names_type : goal.types::maybe_type-returns-else-names_type
types::maybe_type-returns-else-names_type t c = λ x p.
    let u = c.args.work.now in
    let n = c.node_at-node.result.now in
    let o = opened u c.args.k x n p c.node_at-node.ensures in
    no_type_found u c.args.alone x c.requires.whole
    (ap names_type o.is ∙ names_type_is n.kind o.token o.parts ∙ c.names_type.ensures ∙ c.if-names_type.false)

pub types::named_types-loop-part-init : goal.types::named_types-loop-part-init
types::named_types-loop-part-init t c =
    let u = c.args.work.now in
    let ts = c.new-types.result in
    let there = none_there (λ k. k < type_count u.nodes) ts.items c.new-types.ensures.items in
    record {
      whole = c.requires.whole;
      parts = c.requires.parts;
      there = there;
      reads = λ xs q. fold_begins u c.args.kids.now (named_types c.args.alone xs (readings xs)) (types_on c.args.alone)
          (TypesThere u ts) (λ ys. ys ≡ map (type_in u.nodes) ts.items) [] c.requires.whole there
          (sym (ap (map (type_in u.nodes)) c.new-types.ensures.items)) xs q (λ s. types_begin c.args.alone xs s);
    }

pub types::named_types-maybe_type-requires : goal.types::named_types-maybe_type-requires
types::named_types-maybe_type-requires t c =
    let v = c.loop-part.work in (
      omega arith,
      (
        c.loop-part.invariant.whole,
        first_within v c.in-Some.part.first c.in-Some.part.others.now
            (subst (λ (z : List ℕ). PartsWithin v c.args.depth z) c.in-Some.ensures c.loop-part.invariant.parts),
      ),
    )

pub types::named_types-loop-part-preserved : goal.types::named_types-loop-part-preserved
types::named_types-loop-part-preserved t c =
    let u = c.args.work.now in
    let v = c.loop-part.work in
    let w = c.maybe_type.new.work in
    let k = c.in-Some.part.first in
    let ks = c.in-Some.part.others.now in
    let alone = c.args.alone in
    let ts = c.loop-part.types in
    let us = c.push_some.new.types in
    let h = subst (λ (z : List ℕ). PartsWithin v c.args.depth z) c.in-Some.ensures c.loop-part.invariant.parts in
    let f = first_within v k ks h in
    let a = c.in_ok-of.ensures f.syntax f.is in
    let there = types_grow_there v w ts.items us.items c.in_ok-of.of a.grows.keeps c.loop-part.invariant.there
    c.in_ok-push_some.ensures a.there in
    record {
      whole = a.whole;
      parts = within_kept v w ks a.grows.keeps (others_within v k ks h);
      there = there;
      reads = λ xs q.
          fold_more c.args.work.now v w k ks (named_types alone xs (readings xs)) (types_on alone) (type_behind alone)
          (TypesThere v ts) (TypesThere w us) (λ ys. ys ≡ map (type_in v.nodes) ts.items)
          (λ ys. ys ≡ map (type_in w.nodes) us.items) (map (type_in v.nodes) ts.items) (types_more alone) refl
          (subst (λ (z : List ℕ). SoFar c.args.work.now v z (named_types alone xs (readings xs)) (types_on alone)
          (TypesThere v ts) (λ ys. ys ≡ map (type_in v.nodes) ts.items)) c.in-Some.ensures
          (c.loop-part.invariant.reads xs q))
          (λ y b part i. made_done v w (maybe_type alone y) (λ o. b ++ some_list o) _ (TypesThere w us)
          (IsMaybeType w c.in_ok-of.of) (λ s zs. zs ≡ map (type_in w.nodes) us.items)
          (c.in_ok-of.ensures y part) there
          (λ s o z j. types_grow v w ts.items us.items c.in_ok-of.of b o a.grows.keeps c.loop-part.invariant.there
          c.in_ok-push_some.ensures i j));
    }

pub types::named_types-returns-in_err-of : goal.types::named_types-returns-in_err-of
types::named_types-returns-in_err-of t c =
    let e = err_from_is_err_and c.from_residual.result c.from_residual.ensures.1 in λ xs q.
    let v = c.loop-part.work in
    let w = c.maybe_type.new.work in
    let alone = c.args.alone in
    let ts = c.loop-part.types in
    rw (e.1, e.2) (fold_fails c.args.work.now v w c.in-Some.part.first c.in-Some.part.others.now
    (named_types alone xs (readings xs)) (types_on alone) (type_behind alone) (TypesThere v ts)
    (λ ys. ys ≡ map (type_in v.nodes) ts.items) TypesThere AreTypes TypesThere AreTypes _ (types_more alone)
    (subst (λ (z : List ℕ). SoFar c.args.work.now v z (named_types alone xs (readings xs)) (types_on alone)
    (TypesThere v ts) (λ ys. ys ≡ map (type_in v.nodes) ts.items)) c.in-Some.ensures
    (c.loop-part.invariant.reads xs q))
    (λ y b part i. failed quietly v w w (maybe_type alone y)
    (λ o. give (b ++ some_list o)) MaybeTypeThere IsMaybeType TypesThere AreTypes _ (c.in_err-of.ensures y part)))

pub types::named_types-returns : goal.types::named_types-returns
types::named_types-returns t c = λ xs q.
    let v = c.loop-part.work in
    let alone = c.args.alone in
    let ts = c.loop-part.types in
    fold_ends c.args.work.now v (named_types alone xs (readings xs)) (types_on alone) (TypesThere v ts)
    (λ ys. ys ≡ map (type_in v.nodes) ts.items) (λ ys. ys) TypesThere AreTypes ts (types_end alone)
    (subst (λ (z : List ℕ). SoFar c.args.work.now v z (named_types alone xs (readings xs)) (types_on alone)
    (TypesThere v ts) (λ ys. ys ≡ map (type_in v.nodes) ts.items)) c.in_default.ensures
    (c.loop-part.invariant.reads xs q)) c.loop-part.invariant.there (λ s b i. i)

pub types::type_of-type_of_node-requires : goal.types::type_of-type_of_node-requires
types::type_of-type_of_node-requires t c =
    let some = deep c.args.work.now c.args.k c.requires.part in (
      omega arith,
      (
        c.requires.whole,
        node_of c.args.work.now c.args.k c.node_at-node.result.now c.requires.part c.node_at-node.ensures,
      ),
    )

pub types::type_of-returns : goal.types::type_of-returns
types::type_of-returns t c = λ x p.
    let o = opened c.args.work.now c.args.k x c.node_at-node.result.now p c.node_at-node.ensures in
    at_node c.args.work.now _ c.node_at-node.result.now x (λ r. r.type c.args.alone) TypeThere IsType _ o
    (c.type_of_node.ensures o.token o.parts o.node)

pub types::type_of_node-record_specifier-requires : goal.types::type_of_node-record_specifier-requires
types::type_of_node-record_specifier-requires t c = (
  omega arith,
  (
    c.requires.whole,
    kids_in c.args.work.now c.args.node.now c.as_slice-kids.result.now c.requires.node c.as_slice-kids.ensures,
  ),
)

pub types::type_of_node-enum_specifier-requires : goal.types::type_of_node-enum_specifier-requires
types::type_of_node-enum_specifier-requires t c = (
  omega arith,
  (
    c.requires.whole,
    kinds_in c.args.work.now c.args.node.now c.as_slice-kids.result.now Kinds.Enum c.requires.node
        c.as_slice-kids.ensures c.in-Enum.is,
  ),
)

pub types::type_of_node-type_name-requires : goal.types::type_of_node-type_name-requires
types::type_of_node-type_name-requires t c = (
  omega arith,
  (
    c.requires.whole,
    kids_in c.args.work.now c.args.node.now c.as_slice-kids.result.now c.requires.node c.as_slice-kids.ensures,
  ),
)

pub types::type_of_node-returns-in-TypedefName : goal.types::type_of_node-returns-in-TypedefName
types::type_of_node-returns-in-TypedefName t c = λ t' xs n.
    let u = c.args.work.now in
    subst (λ (k : NodeKind). Answers quietly u u
    (type_of_kind k t' xs (readings xs) c.args.alone) TypeThere IsType c.typedef_name.result)
    (sym c.in-TypedefName.is)
    (subst (λ (l : Lexeme). Answers quietly u u (typedef_name l) TypeThere IsType c.typedef_name.result)
    (sym (typedef_is u c.args.node.now t' xs n c.in-TypedefName.is))
    (subst (λ (m : Name). Answers quietly u u (typedef_name (token_of u m)) TypeThere IsType c.typedef_name.result)
    c.name_of.ensures c.typedef_name.ensures))

pub types::type_of_node-returns-in-Record : goal.types::type_of_node-returns-in-Record
types::type_of_node-returns-in-Record t c = λ t' xs n.
    subst (λ (k : NodeKind). Answers quietly c.args.work.now c.record_specifier.new.work
    (type_of_kind k t' xs (readings xs) c.args.alone) TypeThere IsType c.record_specifier.result)
    (sym c.in-Record.is)
    (c.record_specifier.ensures t' xs n.place
    (subst (λ (ks : List ℕ). AreParts c.args.work.now ks xs) (sym c.as_slice-kids.ensures) n.parts))

pub types::type_of_node-returns-in-Enum : goal.types::type_of_node-returns-in-Enum
types::type_of_node-returns-in-Enum t c = λ t' xs n.
    subst (λ (k : NodeKind). Answers quietly c.args.work.now c.enum_specifier.new.work
    (type_of_kind k t' xs (readings xs) c.args.alone) TypeThere IsType c.enum_specifier.result) (sym c.in-Enum.is)
    (c.enum_specifier.ensures xs (subst (λ (ks : List ℕ). AreParts c.args.work.now ks xs)
    (sym c.as_slice-kids.ensures) n.parts))

pub types::type_of_node-returns-in-TypeName : goal.types::type_of_node-returns-in-TypeName
types::type_of_node-returns-in-TypeName t c = λ t' xs n.
    subst (λ (k : NodeKind). Answers quietly c.args.work.now c.type_name.new.work
    (type_of_kind k t' xs (readings xs) c.args.alone) TypeThere IsType c.type_name.result) (sym c.in-TypeName.is)
    (c.type_name.ensures t' xs n.place (subst (λ (ks : List ℕ). AreParts c.args.work.now ks xs)
    (sym c.as_slice-kids.ensures) n.parts))

pub types::type_of_node-returns-in_default : goal.types::type_of_node-returns-in_default
types::type_of_node-returns-in_default t c =
    λ t' xs n s h. no_type c.args.node.now.kind t' c.args.node.now.pos xs
    (readings xs) c.args.alone s n.place c.in_default.not-TypedefName c.in_default.not-Record c.in_default.not-Enum
    c.in_default.not-TypeName

pub types::unstored-returns-then-has_storage : goal.types::unstored-returns-then-has_storage
types::unstored-returns-then-has_storage t c =
    λ x p. unstored_refused c.args.work.now c.specified.new.work (reading x) c.args.register c.args.pos c.in_ok-s.s
    (sym c.has_storage.ensures ∙ c.if-has_storage.true) (c.in_ok-s.ensures x p)

pub types::unstored-returns : goal.types::unstored-returns
types::unstored-returns t c = λ x p. unstored_done c.args.work.now c.specified.new.work
    (reading x) c.args.register c.args.pos c.in_ok-s.s (sym c.has_storage.ensures ∙ c.if-has_storage.false)
    (c.in_ok-s.ensures x p)

pub types::type_name-unstored-requires : goal.types::type_name-unstored-requires
types::type_name-unstored-requires t c = (
  omega arith,
  (
    c.requires.whole,
    first_within c.args.work.now c.in-Some.part.first c.in-Some.part.others.now
        (subst (λ (z : List ℕ). PartsWithin c.args.work.now c.args.depth z) c.in-Some.ensures c.requires.parts),
  ),
)

pub types::type_name-within-requires : goal.types::type_name-within-requires
types::type_name-within-requires t c =
    let u = c.args.work.now in
    let k = c.in-Some.part.first in
    let ks = c.in-Some.part.others.now in
    let h = subst (λ (z : List ℕ). PartsWithin u c.args.depth z) c.in-Some.ensures c.requires.parts in
    let f = first_within u k ks h in
    let a = c.in_ok-s-in-Some.ensures f.syntax f.is in
    (omega arith, (a.whole, within_kept u c.unstored.new.work ks a.grows.keeps (others_within u k ks h)))

pub types::type_name-named_type-requires : goal.types::type_name-named_type-requires
types::type_name-named_type-requires t c =
    let u = c.args.work.now in
    let v = c.unstored.new.work in
    let w = c.within.new.work in
    let k = c.in-Some.part.first in
    let ks = c.in-Some.part.others.now in
    let h = subst (λ (z : List ℕ). PartsWithin u c.args.depth z) c.in-Some.ensures c.requires.parts in
    let f = first_within u k ks h in
    let a = c.in_ok-s-in-Some.ensures f.syntax f.is in
    let g = within_kept u v ks a.grows.keeps (others_within u k ks h) in
    let b = c.in_ok-d-in-Some.ensures g.syntax g.are in
    record {
      whole = b.whole;
      there = specified_there v w c.in_ok-s-in-Some.s b.grows.keeps a.there;
      parts = subst (λ (z : List Wrap). All (WrapIsThere w.nodes) z) (sym c.as_slice.ensures.value) b.there;
    }

pub types::type_name-returns-in-None : goal.types::type_name-returns-in-None
types::type_name-returns-in-None t c =
    λ t' xs e p s h. no_type_name t' c.args.pos xs (readings xs) s e
    (no_readings c.args.work.now c.args.kids.now c.in-None.ensures xs p)

pub types::type_name-returns-in_ok-d-in-Some : goal.types::type_name-returns-in_ok-d-in-Some
types::type_name-returns-in_ok-d-in-Some t c = λ t' xs e p.
    let u = c.args.work.now in
    let v = c.unstored.new.work in
    let z = c.within.new.work in
    let w = c.named_type.new.work in
    let m = behind u c.args.kids.now c.in-Some.part.first c.in-Some.part.others.now c.in-Some.ensures xs p in
    let b = c.has_register-register.result in
    let a = c.in_ok-s-in-Some.ensures m.head m.first in
    let d = c.in_ok-d-in-Some.ensures m.tail (parts_kept u v c.in-Some.part.others.now m.tail a.grows.keeps m.others) in
    answers_at quietly u w (type_name t' xs (readings xs))
    (unstored (reading m.head) b c.args.pos >>= λ x. within (readings m.tail)
    >>= λ y. steps.named_type x.of y.wraps c.args.pos) TypeThere IsType c.named_type.result
    (λ s k. type_name_is t' c.args.pos xs (reading m.head) (readings m.tail) (readings xs) b s e m.read
    (sym (c.has_register-register.ensures xs p.stand)))
    (then_both u v z w (unstored (reading m.head) b c.args.pos)
    (within (readings m.tail)) c.in_ok-s-in-Some.s c.in_ok-d-in-Some.d
    (λ x y. steps.named_type x.of y.wraps c.args.pos) TypeThere IsType c.named_type.result a d
    (λ x y i j. subst (λ (o : Ty). Answers quietly z w
    (steps.named_type o y.wraps c.args.pos) TypeThere IsType c.named_type.result) (sym i.of)
    (c.named_type.ensures y.wraps (subst (λ (ws : List Wrap). AreWraps any_scope z (reverse ws) y.wraps)
    (sym c.as_slice.ensures.value) j.wraps))))

-- ---- structs and unions

pub types::record_specifier-tagged_record-requires : goal.types::record_specifier-tagged_record-requires
types::record_specifier-tagged_record-requires t c =
    let u = c.args.work.now in
    let h = subst (λ (o : Option TagParts). IsTagged u o c.requires.parts.syntax) c.in-Some.is
    (c.tag_of-found.ensures c.requires.parts.syntax c.requires.parts.are) in
    (omega arith, (c.requires.whole, behind_within u c.args.kids.now _ c.requires.parts h.1))

pub types::record_specifier-returns-in-None : goal.types::record_specifier-returns-in-None
types::record_specifier-returns-in-None t c = λ t' xs e p.
    let u = c.args.work.now in
    answers_at quietly u c.untagged.new.work (record_specifier c.args.kind c.args.alone t' xs (readings xs))
    (untagged c.args.kind (readings xs) c.args.pos) TypeThere IsType c.untagged.result
    (λ s k. record_untagged c.args.kind c.args.alone t' c.args.pos xs (readings xs) s e
    (subst (λ (o : Option TagParts). IsTagged u o xs) c.in-None.is (c.tag_of-found.ensures xs p)))
    (c.untagged.ensures xs p)

pub types::record_specifier-returns-in-Some : goal.types::record_specifier-returns-in-Some
types::record_specifier-returns-in-Some t c = λ t' xs e p.
    let u = c.args.work.now in
    let h = subst (λ (o : Option TagParts). IsTagged u o xs) c.in-Some.is (c.tag_of-found.ensures xs p) in
    let n = token_of u c.in-Some.tag.name in
    answers_at quietly u c.tagged_record.new.work (record_specifier c.args.kind c.args.alone t' xs (readings xs))
    (tagged_record c.args.kind c.args.alone n (readings (tail_of xs)) c.args.pos) TypeThere IsType
    c.tagged_record.result
    (λ s k. record_tagged c.args.kind c.args.alone t' n c.args.pos xs s e h.0)
    (c.tagged_record.ensures (tail_of xs) h.1)

pub types::untagged-filled-requires : goal.types::untagged-filled-requires
types::untagged-filled-requires t c =
    let a = c.in_ok-tag.ensures in (
      omega arith,
      (
        a.whole,
        within_kept c.args.work.now c.new_tag.new.work c.args.kids.now a.grows.keeps
            c.requires.parts,
      ),
    )

pub types::untagged-returns : goal.types::untagged-returns
types::untagged-returns t c = λ xs p.
    let u = c.args.work.now in
    let v = c.new_tag.new.work in
    let a = c.in_ok-tag.ensures in
    then_for quietly quiet_law u v c.filled.new.work (new_tag c.args.kind)
    (λ m. filled c.args.kind m (readings xs) c.args.pos c.args.pos) _ (IsTagOf c.args.kind c.in_ok-tag.tag) TypeThere
    IsType c.filled.result a (c.filled.ensures xs (parts_kept u v c.args.kids.now xs a.grows.keeps p))

pub types::tagged_record-returns-then-is_empty : goal.types::tagged_record-returns-then-is_empty
types::tagged_record-returns-then-is_empty t c = λ xs p.
    let u = c.args.work.now in
    let e = empty_list c.args.members.now (eqb-true (length c.args.members.now) 0
    (sym c.is_empty.ensures ∙ c.if-is_empty.true)) in
    subst (λ (rs : List Reading). Answers quietly u c.named_record.new.work
    (tagged_record c.args.kind c.args.alone (token_of u c.args.name) rs c.args.pos) TypeThere IsType
    c.named_record.result) (sym (no_readings u c.args.members.now e xs p)) c.named_record.ensures

pub types::tagged_record-filled-requires : goal.types::tagged_record-filled-requires
types::tagged_record-filled-requires t c =
    let a = c.in_ok-tag.ensures in (
      omega arith,
      (
        a.whole,
        within_kept c.args.work.now c.named_tag.new.work c.args.members.now a.grows.keeps
            c.requires.parts,
      ),
    )

pub types::tagged_record-returns : goal.types::tagged_record-returns
types::tagged_record-returns t c = λ xs p.
    let u = c.args.work.now in
    let v = c.named_tag.new.work in
    let n = token_of u c.args.name in
    let a = c.in_ok-tag.ensures in
    let e = eqb-false (length c.args.members.now) 0 (sym c.is_empty.ensures ∙ c.if-is_empty.false) in
    let f : ℕ → Doing Ty = λ m. filled c.args.kind m (readings xs) n.pos c.args.pos in
    answers_at quietly u c.filled.new.work (tagged_record c.args.kind c.args.alone n (readings xs) c.args.pos)
    (named_tag true c.args.kind n >>= f) TypeThere IsType c.filled.result
    (λ s h. record_behind c.args.kind c.args.alone n (readings xs) c.args.pos s
    (λ z. e (sym (parts_length u c.args.members.now xs p) ∙ z)))
    (then_for quietly quiet_law u v c.filled.new.work (named_tag true c.args.kind n) f _
    (IsTagOf c.args.kind c.in_ok-tag.tag) TypeThere IsType c.filled.result a
    (c.filled.ensures xs (parts_kept u v c.args.members.now xs a.grows.keeps p)))

pub types::filled-all_members-requires : goal.types::filled-all_members-requires
types::filled-all_members-requires t c =
    let a = c.in_ok-begin_tag.ensures in (
      omega arith,
      (
        a.whole,
        within_kept c.args.work.now c.begin_tag.new.work c.args.kids.now a.grows.keeps
            c.requires.parts,
      ),
    )

pub types::filled-complete_tag-requires : goal.types::filled-complete_tag-requires
types::filled-complete_tag-requires t c =
    let a = c.in_ok-begin_tag.ensures in
    let h = within_kept c.args.work.now c.begin_tag.new.work c.args.kids.now a.grows.keeps c.requires.parts in
    let b = c.in_ok-members.ensures h.syntax h.are in
    record { whole = b.whole; members = b.there.there }

pub types::filled-tagged-requires : goal.types::filled-tagged-requires
types::filled-tagged-requires t c =
    let m = some_members c.all_members.new.work c.in_ok-members.members.all.items in
    (c.in_ok-complete_tag.ensures m.0 m.1).whole

pub types::filled-returns-in_err-begin_tag : goal.types::filled-returns-in_err-begin_tag
types::filled-returns-in_err-begin_tag t c =
    let q = err_from_is_err_and c.from_residual.result c.from_residual.ensures.1 in λ xs p.
    let u = c.args.work.now in
    let v = c.begin_tag.new.work in
    rw (q.1, q.2) (filled_fails u v v c.args.kind c.args.tag (readings xs) c.args.at c.args.keyword AllMembersThere
    AreAllMembers _ (failed quietly u v v (begin_tag c.args.tag c.args.at) (λ x. all_members (readings xs) [])
    NothingThere IsNothing AllMembersThere AreAllMembers _ c.in_err-begin_tag.ensures))

pub types::filled-returns-in_err-members : goal.types::filled-returns-in_err-members
types::filled-returns-in_err-members t c =
    let q = err_from_is_err_and c.from_residual-in_err-members.result c.from_residual-in_err-members.ensures.1 in
    λ xs p.
    let u = c.args.work.now in
    let v = c.begin_tag.new.work in
    let w = c.all_members.new.work in
    let a = c.in_ok-begin_tag.ensures in
    rw (q.1, q.2) (members_fail u w w c.args.kind c.args.tag (readings xs) c.args.at c.args.keyword v _ _
    AllMembersThere AreAllMembers _ a
    (c.in_err-members.ensures xs (parts_kept u v c.args.kids.now xs a.grows.keeps p)))

pub types::filled-returns-in_err-complete_tag : goal.types::filled-returns-in_err-complete_tag
types::filled-returns-in_err-complete_tag t c =
    let q = err_from_is_err_and c.from_residual-in_err-complete_tag.result
    c.from_residual-in_err-complete_tag.ensures.1 in
    λ xs p.
    let u = c.args.work.now in
    let v = c.begin_tag.new.work in
    let w = c.all_members.new.work in
    let ms = c.in_ok-members.members in
    let a = c.in_ok-begin_tag.ensures in
    let b = c.in_ok-members.ensures xs (parts_kept u v c.args.kids.now xs a.grows.keeps p) in
    rw (q.1, q.2) (filled_refused u w c.complete_tag.new.work c.args.kind c.args.tag (readings xs) c.args.at
    c.args.keyword c.complete_tag.new.work _ (AreAllMembers w ms) _
    (also_then quietly quiet_law u v w (begin_tag c.args.tag c.args.at) (all_members (readings xs) []) _ _
    AllMembersThere AreAllMembers (Ok ms) a b) (λ s ys h i. c.in_err-complete_tag.ensures ys i))

pub types::filled-returns : goal.types::filled-returns
types::filled-returns t c = λ xs p.
    let u = c.args.work.now in
    let v = c.begin_tag.new.work in
    let w = c.all_members.new.work in
    let ms = c.in_ok-members.members in
    let a = c.in_ok-begin_tag.ensures in
    let b = c.in_ok-members.ensures xs (parts_kept u v c.args.kids.now xs a.grows.keeps p) in
    let some = some_members w ms.all.items in
    filled_done u w c.complete_tag.new.work c.args.kind c.args.tag (readings xs) c.args.at c.args.keyword
    c.tagged.result _ (AreAllMembers w ms) some.0
    (also_then quietly quiet_law u v w (begin_tag c.args.tag c.args.at) (all_members (readings xs) []) _ _
    AllMembersThere AreAllMembers (Ok ms) a b)
    (c.in_ok-complete_tag.ensures some.0 some.1) (λ s ys h i. c.in_ok-complete_tag.ensures ys i)
    c.tagged.ensures.there c.tagged.ensures.is

pub types::all_members-loop-part-init : goal.types::all_members-loop-part-init
types::all_members-loop-part-init t c =
    let u = c.args.work.now in
    let ms = c.new-members.result in
    let there = no_members_there u ms c.new-members.ensures.all c.new-members.ensures.names in
    record {
      whole = c.requires.whole;
      parts = c.requires.parts;
      there = there;
      reads = λ xs q. fold_begins u c.args.kids.now (all_members (readings xs) []) members_on (AllMembersThere u ms)
          (AreMembers u ms.all.items) [] c.requires.whole there
          (subst (λ (z : List Member). AreMembers u z []) (sym c.new-members.ensures.all) tt) xs q (λ s. refl);
    }

pub types::all_members-member-requires : goal.types::all_members-member-requires
types::all_members-member-requires t c =
    let v = c.loop-part.work in (
      omega arith,
      (
        c.loop-part.invariant.whole,
        (
          first_within v c.in-Some.part.first c.in-Some.part.others.now
              (subst (λ (z : List ℕ). PartsWithin v c.args.depth z) c.in-Some.ensures c.loop-part.invariant.parts),
          c.loop-part.invariant.there,
        ),
      ),
    )

pub types::all_members-loop-part-preserved : goal.types::all_members-loop-part-preserved
types::all_members-loop-part-preserved t c =
    let v = c.loop-part.work in
    let w = c.member.new.work in
    let k = c.in-Some.part.first in
    let ks = c.in-Some.part.others.now in
    let ms = c.loop-part.members in
    let ns = c.in_ok-members.members in
    let h = subst (λ (z : List ℕ). PartsWithin v c.args.depth z) c.in-Some.ensures c.loop-part.invariant.parts in
    let f = first_within v k ks h in
    let some = some_members v ms.all.items in
    let a = c.in_ok-members.ensures f.syntax some.0 f.is some.1 in
    record {
      whole = a.whole;
      parts = within_kept v w ks a.grows.keeps (others_within v k ks h);
      there = a.there;
      reads = λ xs q. fold_more c.args.work.now v w k ks (all_members (readings xs) []) members_on members_of
          (AllMembersThere v ms) (AllMembersThere w ns) (AreMembers v ms.all.items)
          (AreMembers w ns.all.items) some.0 members_more some.1
          (subst (λ (z : List ℕ). SoFar c.args.work.now v z (all_members (readings xs) []) members_on
          (AllMembersThere v ms) (AreMembers v ms.all.items)) c.in-Some.ensures
          (c.loop-part.invariant.reads xs q)) (λ y b part i. c.in_ok-members.ensures y b part i);
    }

pub types::all_members-returns-in_err-members : goal.types::all_members-returns-in_err-members
types::all_members-returns-in_err-members t c =
    let e = err_from_is_err_and c.from_residual.result c.from_residual.ensures.1 in λ xs q.
    let v = c.loop-part.work in
    let w = c.member.new.work in
    let ms = c.loop-part.members in
    rw (e.1, e.2) (fold_fails c.args.work.now v w c.in-Some.part.first c.in-Some.part.others.now
    (all_members (readings xs) []) members_on members_of (AllMembersThere v ms)
    (AreMembers v ms.all.items) AllMembersThere AreAllMembers AllMembersThere AreAllMembers _ members_more
    (subst (λ (z : List ℕ). SoFar c.args.work.now v z (all_members (readings xs) []) members_on (AllMembersThere v ms)
    (AreMembers v ms.all.items)) c.in-Some.ensures (c.loop-part.invariant.reads xs q))
    (λ y b part i. c.in_err-members.ensures y b part i))

pub types::all_members-returns : goal.types::all_members-returns
types::all_members-returns t c = λ xs q.
    let v = c.loop-part.work in
    let ms = c.loop-part.members in
    fold_ends c.args.work.now v (all_members (readings xs) []) members_on (AllMembersThere v ms)
    (AreMembers v ms.all.items) (λ ys. ys) AllMembersThere AreAllMembers ms members_end
    (subst (λ (z : List ℕ). SoFar c.args.work.now v z (all_members (readings xs) []) members_on (AllMembersThere v ms)
    (AreMembers v ms.all.items)) c.in_default.ensures (c.loop-part.invariant.reads xs q))
    c.loop-part.invariant.there (λ s b i. i)

pub types::member-unstored-requires : goal.types::member-unstored-requires
types::member-unstored-requires t c =
    let some = deep c.args.work.now c.args.k c.requires.part in
    let u = c.args.work.now in
    let h = subst (λ (z : List ℕ). PartsWithin u (c.args.depth - 1) z) (sym c.as_slice-kids.ensures)
    (kids_within u c.args.k c.node_at-node.result.now c.requires.part c.node_at-node.ensures) in (
      omega arith,
      (
        c.requires.whole,
        first_within u c.in-Some.part.first c.in-Some.part.others.now
            (subst (λ (z : List ℕ). PartsWithin u (c.args.depth - 1) z) c.in-Some.ensures h),
      ),
    )

pub types::member-member_declarators-requires : goal.types::member-member_declarators-requires
types::member-member_declarators-requires t c =
    let some = deep c.args.work.now c.args.k c.requires.part in
    let u = c.args.work.now in
    let v = c.unstored.new.work in
    let k = c.in-Some.part.first in
    let ks = c.in-Some.part.others.now in
    let h = subst (λ (z : List ℕ). PartsWithin u (c.args.depth - 1) z) c.in-Some.ensures
    (subst (λ (z : List ℕ). PartsWithin u (c.args.depth - 1) z) (sym c.as_slice-kids.ensures)
    (kids_within u c.args.k c.node_at-node.result.now c.requires.part c.node_at-node.ensures)) in
    let f = first_within u k ks h in
    let a = c.in_ok-s-in-Some.ensures f.syntax f.is in (
      omega arith,
      (
        a.whole,
        (
          a.there,
          (
            within_kept u v ks a.grows.keeps (others_within u k ks h),
            all_members_kept u v c.args.members a.grows.keeps c.requires.members,
          ),
        ),
      ),
    )

pub types::member-overflow_sub-depth : goal.types::member-overflow_sub-depth
types::member-overflow_sub-depth t c = let some = deep c.args.work.now c.args.k c.requires.part in omega arith

pub types::member-overflow_sub-depth-in-Some : goal.types::member-overflow_sub-depth-in-Some
types::member-overflow_sub-depth-in-Some t c = let some = deep c.args.work.now c.args.k c.requires.part in omega arith

pub types::member-returns-in-None : goal.types::member-returns-in-None
types::member-returns-in-None t c = λ x ms p a.
    let u = c.args.work.now in
    let n = c.node_at-node.result.now in
    let o = opened u c.args.k x n p c.node_at-node.ensures in
    let r : Result Members Refusal = Err (Code 120 n.pos) in
    at_node u u n x (λ q. q.members ms) AllMembersThere AreAllMembers r o
    (λ s h. no_member o.token n.pos o.parts (readings o.parts) ms s o.node.place
    (no_readings u n.kids (sym c.as_slice-kids.ensures ∙ c.in-None.ensures) o.parts o.node.parts))

pub types::member-returns : goal.types::member-returns
types::member-returns t c = λ x ms p a.
    let u = c.args.work.now in
    let v = c.unstored.new.work in
    let w = c.member_declarators.new.work in
    let n = c.node_at-node.result.now in
    let o = opened u c.args.k x n p c.node_at-node.ensures in
    let m = behind u n.kids c.in-Some.part.first c.in-Some.part.others.now
    (sym c.as_slice-kids.ensures ∙ c.in-Some.ensures) o.parts o.node.parts in
    let b = c.has_register-register.result in
    let d = c.in_ok-s-in-Some.ensures m.head m.first in
    let keeps = d.grows.keeps in
    at_node u w n x (λ q. q.members ms) AllMembersThere AreAllMembers c.member_declarators.result o
    (answers_at quietly u w (members_at o.token o.parts (readings o.parts) ms)
    (unstored (reading m.head) b n.pos >>= λ y. member_declarators y (readings m.tail) ms) AllMembersThere
    AreAllMembers c.member_declarators.result
    (λ s k. member_is o.token n.pos o.parts (reading m.head) (readings m.tail)
    (readings o.parts) ms b s o.node.place m.read
    (sym (c.has_register-register.ensures o.parts
    (subst (λ (ks : List ℕ). StandAt u.tree.now.nodes ks o.parts)
    (sym c.as_slice-kids.ensures) o.node.parts.stand))))
    (specified_then u v w (unstored (reading m.head) b n.pos) c.in_ok-s-in-Some.s
    (λ y. member_declarators y (readings m.tail) ms) AllMembersThere AreAllMembers c.member_declarators.result d
    (λ y i. c.member_declarators.ensures y m.tail ms i (parts_kept u v c.in-Some.part.others.now m.tail keeps m.others)
    (members_kept u v c.args.members.all.items ms keeps c.requires.members.there a))))

pub types::member_declarators-loop-part-init : goal.types::member_declarators-loop-part-init
types::member_declarators-loop-part-init t c =
    let u = c.args.work.now in
    let ms = c.args.members in
    record {
      whole = c.requires.whole;
      keeps = keeps_same u;
      parts = c.requires.parts;
      there = c.requires.members;
      reads = λ y xs zs i q a. fold_begins u c.args.kids.now (member_declarators y (readings xs) zs) (declarators_on y)
          (AllMembersThere u ms) (AreMembers u ms.all.items) zs c.requires.whole c.requires.members a xs q (λ s. refl);
    }

pub types::member_declarators-member_declarator-requires : goal.types::member_declarators-member_declarator-requires
types::member_declarators-member_declarator-requires t c =
    let v = c.loop-part.work in
    let i = c.loop-part.invariant in (
      omega arith,
      (
        i.whole,
        (
          specified_there c.args.work.now v c.args.s i.keeps c.requires.specified,
          (
            first_within v c.in-Some.part.first c.in-Some.part.others.now
                (subst (λ (z : List ℕ). PartsWithin v c.args.depth z) c.in-Some.ensures i.parts),
            i.there,
          ),
        ),
      ),
    )

pub types::member_declarators-loop-part-preserved : goal.types::member_declarators-loop-part-preserved
types::member_declarators-loop-part-preserved t c =
    let u = c.args.work.now in
    let v = c.loop-part.work in
    let w = c.member_declarator.new.work in
    let k = c.in-Some.part.first in
    let ks = c.in-Some.part.others.now in
    let ms = c.loop-part.all in
    let ns = c.in_ok-all.all in
    let inv = c.loop-part.invariant in
    let h = subst (λ (z : List ℕ). PartsWithin v c.args.depth z) c.in-Some.ensures inv.parts in
    let f = first_within v k ks h in
    let some = some_members v ms.all.items in
    let s = some_specified v c.args.s in
    let a = c.in_ok-all.ensures s.0 f.syntax some.0 s.1 f.is some.1 in
    record {
      whole = a.whole;
      keeps = keeps_then u v w inv.keeps a.grows.keeps;
      parts = within_kept v w ks a.grows.keeps (others_within v k ks h);
      there = a.there;
      reads = λ y xs zs i q j. fold_more u v w k ks (member_declarators y (readings xs) zs) (declarators_on y)
          (declarator_at y) (AllMembersThere v ms) (AllMembersThere w ns) (AreMembers v ms.all.items)
          (AreMembers w ns.all.items) some.0 (declarators_more y) some.1
          (subst (λ (z : List ℕ). SoFar u v z (member_declarators y (readings xs) zs) (declarators_on y)
          (AllMembersThere v ms) (AreMembers v ms.all.items)) c.in-Some.ensures (inv.reads y xs zs i q j))
          (λ e b part l. c.in_ok-all.ensures y e b
          (specified_kept u v c.args.s y inv.keeps c.requires.specified i) part l);
    }

pub types::member_declarators-returns-in_err-all : goal.types::member_declarators-returns-in_err-all
types::member_declarators-returns-in_err-all t c =
    let e = err_from_is_err_and c.from_residual.result c.from_residual.ensures.1 in λ y xs zs i q j.
    let u = c.args.work.now in
    let v = c.loop-part.work in
    let w = c.member_declarator.new.work in
    let ms = c.loop-part.all in
    let inv = c.loop-part.invariant in
    rw (e.1, e.2) (fold_fails u v w c.in-Some.part.first c.in-Some.part.others.now
    (member_declarators y (readings xs) zs) (declarators_on y) (declarator_at y) (AllMembersThere v ms)
    (AreMembers v ms.all.items) AllMembersThere AreAllMembers AllMembersThere AreAllMembers _ (declarators_more y)
    (subst (λ (z : List ℕ). SoFar u v z (member_declarators y (readings xs) zs) (declarators_on y)
    (AllMembersThere v ms) (AreMembers v ms.all.items)) c.in-Some.ensures (inv.reads y xs zs i q j))
    (λ o b part l. c.in_err-all.ensures y o b (specified_kept u v c.args.s y inv.keeps c.requires.specified i) part l))

pub types::member_declarators-returns : goal.types::member_declarators-returns
types::member_declarators-returns t c = λ y xs zs i q j.
    let u = c.args.work.now in
    let v = c.loop-part.work in
    let ms = c.loop-part.all in
    let inv = c.loop-part.invariant in
    fold_ends u v (member_declarators y (readings xs) zs) (declarators_on y) (AllMembersThere v ms)
    (AreMembers v ms.all.items) (λ ys. ys) AllMembersThere AreAllMembers ms (declarators_end y)
    (subst (λ (z : List ℕ). SoFar u v z (member_declarators y (readings xs) zs) (declarators_on y)
    (AllMembersThere v ms) (AreMembers v ms.all.items)) c.in_default.ensures (inv.reads y xs zs i q j))
    inv.there (λ s b l. l)

pub types::member_declarator-add_member-requires : goal.types::member_declarator-add_member-requires
types::member_declarator-add_member-requires t c =
    let u = c.args.work.now in
    let v = c.derived.new.work in
    let a = c.in_ok-d.ensures c.requires.part.syntax c.requires.part.is in
    record {
      whole = a.whole;
      specified = specified_there u v c.args.s a.grows.keeps c.requires.specified;
      parts = a.there;
      members = all_members_kept u v c.args.members a.grows.keeps c.requires.members;
    }

pub types::member_declarator-returns : goal.types::member_declarator-returns
types::member_declarator-returns t c = λ x y ms i p a.
    let u = c.args.work.now in
    let v = c.derived.new.work in
    let w = c.add_member.new.work in
    let d = c.in_ok-d.ensures y p in
    derived_then u v w (reading y).derived c.in_ok-d.d
    (λ z. add_member x x.stored z.name z.wraps ms) AllMembersThere AreAllMembers c.add_member.result d
    (λ z j. c.add_member.ensures x z ms (specified_kept u v c.args.s x d.grows.keeps c.requires.specified i) j
    (members_kept u v c.args.members.all.items ms d.grows.keeps c.requires.members.there a))

-- ---- enumerations

pub types::enum_specifier-tagged_enumeration-requires : goal.types::enum_specifier-tagged_enumeration-requires
types::enum_specifier-tagged_enumeration-requires t c =
    let u = c.args.work.now in
    let p = c.requires.parts in
    let h = subst (λ (o : Option TagParts). IsTagged u o p.parts.syntax) c.in-Some.is
    (c.tag_of-found.ensures p.parts.syntax p.parts.are) in
    (omega arith, (c.requires.whole, tagged_kind u c.args.kids.now _ _ p h.0 h.1))

pub types::enum_specifier-listed-requires : goal.types::enum_specifier-listed-requires
types::enum_specifier-listed-requires t c =
    let u = c.args.work.now in
    let p = c.requires.parts in
    let h = subst (λ (o : Option TagParts). IsTagged u o p.parts.syntax) c.in-None.is
    (c.tag_of-found.ensures p.parts.syntax p.parts.are) in
    (omega arith, (c.requires.whole, untagged_kind u c.args.kids.now p h))

pub types::enum_specifier-returns-in-None : goal.types::enum_specifier-returns-in-None
types::enum_specifier-returns-in-None t c = λ xs p.
    let u = c.args.work.now in
    answers_at quietly u c.listed.new.work (enum_specifier xs (readings xs))
    (listed (readings xs)) TypeThere IsType c.listed.result
    (λ s k. enum_untagged xs (readings xs) s (subst (λ (o : Option TagParts). IsTagged u o xs) c.in-None.is
    (c.tag_of-found.ensures xs p))) (c.listed.ensures xs p)

pub types::enum_specifier-returns-in-Some : goal.types::enum_specifier-returns-in-Some
types::enum_specifier-returns-in-Some t c = λ xs p.
    let u = c.args.work.now in
    let h = subst (λ (o : Option TagParts). IsTagged u o xs) c.in-Some.is (c.tag_of-found.ensures xs p) in
    let n = token_of u c.in-Some.tag.name in
    answers_at quietly u c.tagged_enumeration.new.work (enum_specifier xs (readings xs))
    (tagged_enumeration n (readings (tail_of xs))) TypeThere IsType c.tagged_enumeration.result
    (λ s k. enum_tagged n xs s h.0) (c.tagged_enumeration.ensures (tail_of xs) h.1)

pub types::tagged_enumeration-returns-then-is_empty : goal.types::tagged_enumeration-returns-then-is_empty
types::tagged_enumeration-returns-then-is_empty t c = λ xs p.
    let u = c.args.work.now in
    let e = empty_list c.args.list.now (eqb-true (length c.args.list.now) 0
    (sym c.is_empty.ensures ∙ c.if-is_empty.true)) in
    subst (λ (rs : List Reading). Answers quietly u c.named_enum.new.work
    (tagged_enumeration (token_of u c.args.name) rs) TypeThere IsType c.named_enum.result)
    (sym (no_readings u c.args.list.now e xs p)) c.named_enum.ensures

pub types::tagged_enumeration-listed-requires : goal.types::tagged_enumeration-listed-requires
types::tagged_enumeration-listed-requires t c =
    let a = c.in_ok-new_enumeration.ensures in (
      omega arith,
      (
        a.whole,
        kinds_kept c.args.work.now c.new_enumeration.new.work c.args.list.now a.grows.keeps
            c.requires.parts,
      ),
    )

pub types::tagged_enumeration-returns : goal.types::tagged_enumeration-returns
types::tagged_enumeration-returns t c = λ xs p.
    let u = c.args.work.now in
    let v = c.new_enumeration.new.work in
    let n = token_of u c.args.name in
    let a = c.in_ok-new_enumeration.ensures in
    let e = eqb-false (length c.args.list.now) 0 (sym c.is_empty.ensures ∙ c.if-is_empty.false) in
    answers_at quietly u c.listed.new.work (tagged_enumeration n (readings xs))
    (new_enumeration_of n >> listed (readings xs)) TypeThere IsType c.listed.result
    (λ s k. enum_behind n (readings xs) s (λ z. e (sym (parts_length u c.args.list.now xs p) ∙ z)))
    (also_then quietly quiet_law u v c.listed.new.work (new_enumeration_of n)
    (listed (readings xs)) _ _ TypeThere IsType c.listed.result a
    (c.listed.ensures xs (parts_kept u v c.args.list.now xs a.grows.keeps p)))

pub types::listed-int_type-requires : goal.types::listed-int_type-requires
types::listed-int_type-requires t c =
    (c.in_ok-enumerators.ensures c.requires.parts.parts.syntax c.requires.parts.parts.are).whole

pub types::listed-returns : goal.types::listed-returns
types::listed-returns t c = λ xs p.
    also_then quietly quiet_law c.args.work.now c.enumerators.new.work c.int_type.new.work
    (enumerators (readings xs) (pos 0)) (give int) _ _ TypeThere IsType c.int_type.result
    (c.in_ok-enumerators.ensures xs p) c.int_type.ensures

pub types::enumerators-loop-part-init : goal.types::enumerators-loop-part-init
types::enumerators-loop-part-init t c =
    let u = c.args.work.now in
    record {
      whole = c.requires.whole;
      parts = c.requires.parts;
      reads = λ xs q. fold_begins u c.args.kids.now (enumerators (readings xs) (pos 0)) enumerators_on
          (NumberThere u (pos 0)) (λ z. z ≡ pos 0) (pos 0) c.requires.whole tt refl xs q (λ s. refl);
    }

pub types::enumerators-enumerator-requires : goal.types::enumerators-enumerator-requires
types::enumerators-enumerator-requires t c =
    let v = c.loop-part.work in (
      omega arith,
      (
        c.loop-part.invariant.whole,
        first_of_kind v Kinds.Enumerator c.in-Some.part.first c.in-Some.part.others.now
            (subst (λ (z : List ℕ). PartsThat (AreOf Kinds.Enumerator) v c.args.depth z) c.in-Some.ensures
            c.loop-part.invariant.parts),
      ),
    )

pub types::enumerators-loop-part-preserved : goal.types::enumerators-loop-part-preserved
types::enumerators-loop-part-preserved t c =
    let v = c.loop-part.work in
    let w = c.enumerator.new.work in
    let k = c.in-Some.part.first in
    let ks = c.in-Some.part.others.now in
    let n = to_z w128 c.loop-part.next-bits in
    let h = subst (λ (z : List ℕ). PartsThat (AreOf Kinds.Enumerator) v c.args.depth z) c.in-Some.ensures
    c.loop-part.invariant.parts in
    let f = (first_of_kind v Kinds.Enumerator k ks h).part in
    let fits : FitsSigned w128 c.in_ok-next.next = first_of (search rules, grind arith) in
    let a = c.in_ok-next.ensures f.syntax f.is in
    record {
      whole = a.whole;
      parts = kinds_kept v w ks a.grows.keeps (others_of_kind v Kinds.Enumerator k ks h);
      reads = λ xs q. subst (λ (m : ℤ). SoFar c.args.work.now w ks (enumerators (readings xs) (pos 0)) enumerators_on
          (Unit {0}) (λ z. z ≡ m)) (sym (to_z-of_z w128 c.in_ok-next.next fits))
          (enumerators_go c.args.work.now v w k ks (enumerators (readings xs) (pos 0)) n _
          (subst (λ (z : List ℕ). SoFar c.args.work.now v z (enumerators (readings xs) (pos 0)) enumerators_on
          (Unit {0}) (λ y. y ≡ n)) c.in-Some.ensures (c.loop-part.invariant.reads xs q)) c.in_ok-next.ensures);
    }

pub types::enumerators-returns-in_err-next : goal.types::enumerators-returns-in_err-next
types::enumerators-returns-in_err-next t c =
    let e = err_from_is_err_and c.from_residual.result c.from_residual.ensures.1 in λ xs q.
    let v = c.loop-part.work in
    let w = c.enumerator.new.work in
    let n = to_z w128 c.loop-part.next-bits in
    rw (e.1, e.2) (enumerators_fail c.args.work.now v w c.in-Some.part.first c.in-Some.part.others.now
    (enumerators (readings xs) (pos 0)) n _
    (subst (λ (z : List ℕ). SoFar c.args.work.now v z (enumerators (readings xs) (pos 0)) enumerators_on
    (Unit {0}) (λ y. y ≡ n)) c.in-Some.ensures (c.loop-part.invariant.reads xs q)) c.in_err-next.ensures)

pub types::enumerators-returns : goal.types::enumerators-returns
types::enumerators-returns t c = λ xs q.
    let v = c.loop-part.work in
    let n = to_z w128 c.loop-part.next-bits in
    fold_ends c.args.work.now v (enumerators (readings xs) (pos 0)) enumerators_on (Unit {0}) (λ z. z ≡ n)
    (λ z. tt) NothingThere IsNothing tt enumerators_end
    (subst (λ (z : List ℕ). SoFar c.args.work.now v z (enumerators (readings xs) (pos 0)) enumerators_on (Unit {0})
    (λ y. y ≡ n)) c.in_default.ensures (c.loop-part.invariant.reads xs q)) tt (λ s b i. tt)

pub types::enumerator-valued-requires : goal.types::enumerator-valued-requires
types::enumerator-valued-requires t c =
    let some = deep c.args.work.now c.args.k c.requires.part.part in
    let u = c.args.work.now in (
      omega arith,
      (
        c.requires.whole,
        subst (λ (ks : List ℕ). PartsWithin u (c.args.depth - 1) ks) (sym c.as_slice.ensures)
            (kids_within u c.args.k c.node_at-node.result.now c.requires.part.part c.node_at-node.ensures),
      ),
    )

pub types::enumerator-returns : goal.types::enumerator-returns
types::enumerator-returns t c = λ x p.
    let u = c.args.work.now in
    let w = c.valued.new.work in
    let n = c.node_at-node.result.now in
    let o = opened u c.args.k x n p c.node_at-node.ensures in
    at_node u w n x (λ r. r.enumerator c.args.next) NumberThere (in_any IsNumber) c.valued.result o
    (subst (λ (l : Lexeme). Answers quietly u w (enumerator l (readings o.parts) c.args.next) NumberThere
    (in_any IsNumber) c.valued.result) (ap (token_of u) c.name_of.ensures
    ∙ sym (enumerator_is u n o.token o.parts o.node
    (kind_is u c.args.k n Kinds.Enumerator c.requires.part c.node_at-node.ensures)))
    (subst (λ (z : ℤ). Answers quietly u w (enumerator (token_of u c.name_of.result) (readings o.parts) z) NumberThere
    (in_any IsNumber) c.valued.result) (to_z-of_z w128 c.args.next c.ranges.next)
    (c.valued.ensures o.parts (subst (λ (ks : List ℕ). AreParts u ks o.parts) (sym c.as_slice.ensures) o.node.parts))))

pub types::valued-constant-requires : goal.types::valued-constant-requires
types::valued-constant-requires t c = (
  omega arith,
  (
    c.requires.whole,
    first_within c.args.work.now c.in-Some.part.first c.in-Some.part.others.now
        (subst (λ (z : List ℕ). PartsWithin c.args.work.now c.args.depth z) c.in-Some.ensures c.requires.parts),
  ),
)

pub types::valued-enumerate-requires-in-Some : goal.types::valued-enumerate-requires-in-Some
types::valued-enumerate-requires-in-Some t c =
    let u = c.args.work.now in
    let f = first_within u c.in-Some.part.first c.in-Some.part.others.now
    (subst (λ (z : List ℕ). PartsWithin u c.args.depth z) c.in-Some.ensures c.requires.parts) in
    (c.in_ok-c-in-Some.ensures f.syntax f.is).whole

pub types::valued-returns-in-None : goal.types::valued-returns-in-None
types::valued-returns-in-None t c = λ xs p.
    let u = c.args.work.now in
    let n = token_of u c.args.name in
    answers_at quietly u c.enumerate.new.work (enumerator n (readings xs) c.args.next)
    (enumerate n c.args.next n.pos) NumberThere (in_any IsNumber) c.enumerate.result
    (λ s k. enumerator_alone n (readings xs) c.args.next s (no_readings u c.args.kids.now c.in-None.ensures xs p))
    (subst (λ (z : ℤ). Answers quietly u c.enumerate.new.work (enumerate n z n.pos) NumberThere
    (in_any IsNumber) c.enumerate.result) (to_z-of_z w128 c.args.next c.ranges.next) c.enumerate.ensures)

pub types::valued-returns-in_ok-c-in-Some : goal.types::valued-returns-in_ok-c-in-Some
types::valued-returns-in_ok-c-in-Some t c = λ xs p.
    let u = c.args.work.now in
    let v = c.constant.new.work in
    let w = c.enumerate-in-Some.new.work in
    let n = token_of u c.args.name in
    let m = behind u c.args.kids.now c.in-Some.part.first c.in-Some.part.others.now c.in-Some.ensures xs p in
    let fits : FitsSigned w128 c.in_ok-c-in-Some.c.number = first_of (search rules, grind arith) in
    let a = c.in_ok-c-in-Some.ensures m.head m.first in
    let k = c.in_ok-c-in-Some.c in
    answers_at quietly u w (enumerator n (readings xs) c.args.next)
    (declarations.constant (reading m.head) >>= λ z. enumerate n z.number z.first) NumberThere
    (in_any IsNumber) c.enumerate-in-Some.result
    (λ s z. enumerator_with n (reading m.head) (readings xs) (readings m.tail) c.args.next s m.read)
    (then quietly quiet_law u v w (declarations.constant (reading m.head)) (λ z. enumerate n z.number z.first)
    (record { number = k.number; first = k.first }) _ NumberThere (in_any IsNumber) c.enumerate-in-Some.result a
    (subst (λ (l : Lexeme). Answers quietly v w (enumerate l k.number k.first) NumberThere
    (in_any IsNumber) c.enumerate-in-Some.result) (token_kept u v c.args.name a.grows.keeps)
    (subst (λ (z : ℤ). Answers quietly v w (enumerate (token_of v c.args.name) z k.first) NumberThere
    (in_any IsNumber) c.enumerate-in-Some.result) (to_z-of_z w128 k.number fits) c.enumerate-in-Some.ensures)))

-- ---- declarators

pub declarators::derived-declarator-requires : goal.declarators::derived-declarator-requires
declarators::derived-declarator-requires t c =
    let some = deep c.args.work.now c.args.k c.requires.part in (
      omega arith,
      (
        c.requires.whole,
        node_of c.args.work.now c.args.k c.node_at-node.result.now c.requires.part c.node_at-node.ensures,
      ),
    )

pub declarators::derived-returns : goal.declarators::derived-returns
declarators::derived-returns t c = λ x p.
    let o = opened c.args.work.now c.args.k x c.node_at-node.result.now p c.node_at-node.ensures in
    at_node c.args.work.now _ c.node_at-node.result.now x (λ r. r.derived) DerivedThere ShowsDerived _ o
    (c.declarator.ensures o.token o.parts o.node)

pub declarators::declarator-enclosed-requires : goal.declarators::declarator-enclosed-requires
declarators::declarator-enclosed-requires t c = (
  omega arith,
  (
    c.requires.whole,
    kids_in c.args.work.now c.args.node.now c.as_slice-kids.result.now c.requires.node c.as_slice-kids.ensures,
  ),
)

pub declarators::declarator-pointer-requires : goal.declarators::declarator-pointer-requires
declarators::declarator-pointer-requires t c = (
  omega arith,
  (
    c.requires.whole,
    kids_in c.args.work.now c.args.node.now c.as_slice-kids.result.now c.requires.node c.as_slice-kids.ensures,
  ),
)

pub declarators::declarator-array-requires : goal.declarators::declarator-array-requires
declarators::declarator-array-requires t c = (
  omega arith,
  (
    c.requires.whole,
    kids_in c.args.work.now c.args.node.now c.as_slice-kids.result.now c.requires.node c.as_slice-kids.ensures,
  ),
)

pub declarators::declarator-function-requires : goal.declarators::declarator-function-requires
declarators::declarator-function-requires t c = (
  omega arith,
  (
    c.requires.whole,
    kinds_in c.args.work.now c.args.node.now c.as_slice-kids.result.now Kinds.Function c.requires.node
        c.as_slice-kids.ensures c.in-Function.is,
  ),
)

pub declarators::declarator-open_array-requires : goal.declarators::declarator-open_array-requires
declarators::declarator-open_array-requires t c = (
  omega arith,
  (
    c.requires.whole,
    kids_in c.args.work.now c.args.node.now c.as_slice-kids.result.now c.requires.node c.as_slice-kids.ensures,
  ),
)

pub declarators::declarator-returns-in-DeclaredName : goal.declarators::declarator-returns-in-DeclaredName
declarators::declarator-returns-in-DeclaredName t c = λ t' xs n.
    let u = c.args.work.now in
    let m = name_of c.args.node.now in
    subst (λ (k : NodeKind). Answers quietly u u (declarator_of k t' xs (readings xs)) DerivedThere ShowsDerived
    (Ok c.new.result)) (sym c.in-DeclaredName.is)
    (answers_at quietly u u (declarator_of Kinds.DeclaredName t' xs (readings xs))
    (give (record { name = Some t'; wraps = [] })) DerivedThere ShowsDerived (Ok c.new.result)
    (λ s k. declared_name_is t' xs (readings xs) s)
    (nothing_done u c.new.result (Some m) (record { name = Some t'; wraps = [] })
    (ap (λ (l : Lexeme). (let z : meant.Derived = record { name = Some l; wraps = [] } in z))
    (declared_is u c.args.node.now t' xs n c.in-DeclaredName.is)) c.requires.whole
    (c.new.ensures.name ∙ ap (λ (z : Name). Some z) c.name_of.ensures) c.new.ensures.wraps))

pub declarators::declarator-returns-in-ParenthesizedDeclarator :
    goal.declarators::declarator-returns-in-ParenthesizedDeclarator
declarators::declarator-returns-in-ParenthesizedDeclarator t c = λ t' xs n.
    subst (λ (k : NodeKind). Answers quietly c.args.work.now c.enclosed.new.work
    (declarator_of k t' xs (readings xs)) DerivedThere ShowsDerived c.enclosed.result)
    (sym c.in-ParenthesizedDeclarator.is)
    (c.enclosed.ensures t' xs n.place (subst (λ (ks : List ℕ). AreParts c.args.work.now ks xs)
    (sym c.as_slice-kids.ensures) n.parts))

pub declarators::declarator-returns-in-Pointer : goal.declarators::declarator-returns-in-Pointer
declarators::declarator-returns-in-Pointer t c = λ t' xs n.
    subst (λ (k : NodeKind). Answers quietly c.args.work.now c.pointer.new.work
    (declarator_of k t' xs (readings xs)) DerivedThere ShowsDerived c.pointer.result) (sym c.in-Pointer.is)
    (c.pointer.ensures t' xs n.place (subst (λ (ks : List ℕ). AreParts c.args.work.now ks xs)
    (sym c.as_slice-kids.ensures) n.parts))

pub declarators::declarator-returns-in-Array : goal.declarators::declarator-returns-in-Array
declarators::declarator-returns-in-Array t c = λ t' xs n.
    subst (λ (k : NodeKind). Answers quietly c.args.work.now c.array.new.work
    (declarator_of k t' xs (readings xs)) DerivedThere ShowsDerived c.array.result) (sym c.in-Array.is)
    (c.array.ensures t' xs n.place (subst (λ (ks : List ℕ). AreParts c.args.work.now ks xs)
    (sym c.as_slice-kids.ensures) n.parts))

pub declarators::declarator-returns-in-Function : goal.declarators::declarator-returns-in-Function
declarators::declarator-returns-in-Function t c = λ t' xs n.
    subst (λ (k : NodeKind). Answers quietly c.args.work.now c.function.new.work
    (declarator_of k t' xs (readings xs)) DerivedThere ShowsDerived c.function.result) (sym c.in-Function.is)
    (c.function.ensures t' xs n.place (subst (λ (ks : List ℕ). AreParts c.args.work.now ks xs)
    (sym c.as_slice-kids.ensures) n.parts))

pub declarators::declarator-returns-in-OpenArray : goal.declarators::declarator-returns-in-OpenArray
declarators::declarator-returns-in-OpenArray t c = λ t' xs n.
    subst (λ (k : NodeKind). Answers quietly c.args.work.now c.open_array.new.work
    (declarator_of k t' xs (readings xs)) DerivedThere ShowsDerived c.open_array.result) (sym c.in-OpenArray.is)
    (c.open_array.ensures t' xs (subst (λ (ks : List ℕ). AreParts c.args.work.now ks xs)
    (sym c.as_slice-kids.ensures) n.parts))

pub declarators::declarator-returns-in_default : goal.declarators::declarator-returns-in_default
declarators::declarator-returns-in_default t c =
    λ t' xs n s h. no_declarator c.args.node.now.kind t' c.args.node.now.pos n.place xs
    (readings xs) s c.in_default.not-DeclaredName c.in_default.not-ParenthesizedDeclarator c.in_default.not-Pointer
    c.in_default.not-OpenArray c.in_default.not-Array c.in_default.not-Function

pub declarators::enclosed-derived-requires : goal.declarators::enclosed-derived-requires
declarators::enclosed-derived-requires t c = (
  omega arith,
  (
    c.requires.whole,
    first_within c.args.work.now c.in-Some.part.first c.in-Some.part.others.now
        (subst (λ (z : List ℕ). PartsWithin c.args.work.now c.args.depth z) c.in-Some.ensures c.requires.parts),
  ),
)

pub declarators::enclosed-returns-in-None : goal.declarators::enclosed-returns-in-None
declarators::enclosed-returns-in-None t c =
    λ t' xs e p s h. not_enclosed t' c.args.pos xs (readings xs) s e
    (no_readings c.args.work.now c.args.kids.now c.in-None.ensures xs p)

pub declarators::enclosed-returns-in-Some : goal.declarators::enclosed-returns-in-Some
declarators::enclosed-returns-in-Some t c = λ t' xs e p.
    let u = c.args.work.now in
    let m = behind u c.args.kids.now c.in-Some.part.first c.in-Some.part.others.now c.in-Some.ensures xs p in
    answers_at quietly u c.derived.new.work (declarator_of Kinds.ParenthesizedDeclarator t' xs (readings xs))
    (reading m.head).derived DerivedThere ShowsDerived c.derived.result
    (λ s k. enclosed_is t' xs (reading m.head) (readings m.tail) (readings xs) s m.read)
    (c.derived.ensures m.head m.first)

pub declarators::within-derived-requires : goal.declarators::within-derived-requires
declarators::within-derived-requires t c = (
  omega arith,
  (
    c.requires.whole,
    first_within c.args.work.now c.in-Some.part.first c.in-Some.part.others.now
        (subst (λ (z : List ℕ). PartsWithin c.args.work.now c.args.depth z) c.in-Some.ensures c.requires.parts),
  ),
)

pub declarators::within-returns-in-None : goal.declarators::within-returns-in-None
declarators::within-returns-in-None t c = λ xs p.
    let u = c.args.work.now in
    subst (λ (rs : List Reading). Answers quietly u u (within rs) DerivedThere ShowsDerived (Ok c.new.result))
    (sym (no_readings u c.args.kids.now c.in-None.ensures xs p))
    (nothing_done u c.new.result None no_derived refl c.requires.whole c.new.ensures.name c.new.ensures.wraps)

pub declarators::within-returns-in-Some : goal.declarators::within-returns-in-Some
declarators::within-returns-in-Some t c = λ xs p.
    let u = c.args.work.now in
    let m = behind u c.args.kids.now c.in-Some.part.first c.in-Some.part.others.now c.in-Some.ensures xs p in
    subst (λ (rs : List Reading). Answers quietly u c.derived.new.work
    (within rs) DerivedThere ShowsDerived c.derived.result) (sym m.read) (c.derived.ensures m.head m.first)

pub declarators::pointer-within-requires : goal.declarators::pointer-within-requires
declarators::pointer-within-requires t c = (
  omega arith,
  (
    c.requires.whole,
    others_within c.args.work.now c.in-Some.part.first c.in-Some.part.others.now
        (subst (λ (z : List ℕ). PartsWithin c.args.work.now c.args.depth z) c.in-Some.ensures c.requires.parts),
  ),
)

pub declarators::pointer-returns-in-None : goal.declarators::pointer-returns-in-None
declarators::pointer-returns-in-None t c =
    λ t' xs e p s h. no_pointer t' c.args.pos xs (readings xs) s e
    (no_readings c.args.work.now c.args.kids.now c.in-None.ensures xs p)

pub declarators::pointer-returns-in_ok-all-in-Some : goal.declarators::pointer-returns-in_ok-all-in-Some
declarators::pointer-returns-in_ok-all-in-Some t c = λ t' xs e p.
    let u = c.args.work.now in
    let v = c.within.new.work in
    let m = behind u c.args.kids.now c.in-Some.part.first c.in-Some.part.others.now c.in-Some.ensures xs p in
    let d = c.in_ok-d-in-Some.d in
    let all = c.in_ok-all-in-Some.all in
    let q = c.parts_const-qualified.result in
    answers_at quietly u v (declarator_of Kinds.Pointer t' xs (readings xs))
    (within (readings m.tail) >>= λ y. give (wrapped (meant.Point (parts_const xs)) y)) DerivedThere ShowsDerived
    (Ok all)
    (λ s k. pointer_is t' xs (reading m.head) (readings m.tail) (readings xs) s m.read)
    (part_done u v (within (readings m.tail)) d all (Point q)
    (meant.Point (parts_const xs)) c.in_ok-all-in-Some.ensures.name c.in_ok-all-in-Some.ensures.wraps tt
    (λ s. sym (c.parts_const-qualified.ensures xs p.stand)) (c.in_ok-d-in-Some.ensures m.tail m.others))

pub declarators::open_array-returns : goal.declarators::open_array-returns
declarators::open_array-returns t c = λ t' xs p.
    let u = c.args.work.now in
    let v = c.within.new.work in
    answers_at quietly u v (declarator_of Kinds.OpenArray t' xs (readings xs))
    (within (readings xs) >>= λ y. give (wrapped (meant.Row 0) y)) DerivedThere ShowsDerived (Ok c.in_ok-all.all)
    (λ s k. open_array_is t' xs (readings xs) s)
    (part_done u v (within (readings xs)) c.in_ok-d.d c.in_ok-all.all (Row 0)
    (meant.Row 0) c.in_ok-all.ensures.name c.in_ok-all.ensures.wraps tt (λ s. refl) (c.in_ok-d.ensures xs p))

pub declarators::array-row-requires : goal.declarators::array-row-requires
declarators::array-row-requires t c =
    let h = ends_within c.args.work.now c.args.kids.now c.in-Some.x.before.now c.in-Some.x.last
    c.in-Some.ensures c.requires.parts in
    (omega arith, (c.requires.whole, (h.0, h.1)))

pub declarators::array-returns-in-None : goal.declarators::array-returns-in-None
declarators::array-returns-in-None t c =
    λ t' xs e p s h. no_array t' c.args.pos xs (readings xs) s e
    (no_readings c.args.work.now c.args.kids.now c.in-None.ensures xs p)

pub declarators::array-returns-in-Some : goal.declarators::array-returns-in-Some
declarators::array-returns-in-Some t c = λ t' xs e p.
    let u = c.args.work.now in
    let m = ended u c.args.kids.now c.in-Some.x.before.now c.in-Some.x.last c.in-Some.ensures xs p in
    answers_at quietly u c.row.new.work (declarator_of Kinds.Array t' xs (readings xs))
    (row_of (readings m.first) (reading m.part)) DerivedThere ShowsDerived c.row.result (λ s k. m.array t' s)
    (c.row.ensures m.first m.part m.are m.is)

pub declarators::row-length_of-requires : goal.declarators::row-length_of-requires
declarators::row-length_of-requires t c =
    let a = c.in_ok-d.ensures c.requires.parts.syntax c.requires.parts.are in
    (omega arith, (a.whole, still_within c.args.work.now c.within.new.work c.args.count a.grows.keeps c.requires.count))

pub declarators::row-returns : goal.declarators::row-returns
declarators::row-returns t c = λ xs y p q.
    let u = c.args.work.now in
    let v = c.within.new.work in
    let w = c.length_of.new.work in
    let a = c.in_ok-d.ensures xs p in
    parts_done u v w (within (readings xs)) (declarations.array_length (reading y)) c.in_ok-d.d c.in_ok-all.all
    (Row c.in_ok-n.n) (λ k. meant.Row k) _ (in_any IsCount w c.in_ok-n.n) c.in_ok-all.ensures.name
    c.in_ok-all.ensures.wraps tt (λ s k i. i) a (c.in_ok-n.ensures y (part_kept u v c.args.count y a.grows.keeps q))

pub declarators::function-function_with-requires : goal.declarators::function-function_with-requires
declarators::function-function_with-requires t c =
    let u = c.args.work.now in
    let x = c.in-Some.x in
    let p = c.requires.parts in
    let h = ends_within u c.args.kids.now x.before.now x.last c.in-Some.ensures p.parts in
    (omega arith, (c.requires.whole, (h.0, last_kind u c.args.kids.now x.before.now x.last c.in-Some.ensures p)))

pub declarators::function-returns-in-None : goal.declarators::function-returns-in-None
declarators::function-returns-in-None t c =
    λ t' xs e p s h. no_function t' c.args.pos xs (readings xs) s e
    (no_readings c.args.work.now c.args.kids.now c.in-None.ensures xs p)

pub declarators::function-returns-in-Some : goal.declarators::function-returns-in-Some
declarators::function-returns-in-Some t c = λ t' xs e p.
    let u = c.args.work.now in
    let m = ended u c.args.kids.now c.in-Some.x.before.now c.in-Some.x.last c.in-Some.ensures xs p in
    answers_at quietly u c.function_with.new.work (declarator_of Kinds.Function t' xs (readings xs))
    (function_of (readings m.first) (reading m.part)) DerivedThere ShowsDerived c.function_with.result
    (λ s k. m.function t' s) (c.function_with.ensures m.first m.part m.are m.is)

pub declarators::function_with-prototype-requires : goal.declarators::function_with-prototype-requires
declarators::function_with-prototype-requires t c =
    let a = c.in_ok-d.ensures c.requires.parts.syntax c.requires.parts.are in (
      omega arith,
      (
        a.whole,
        kind_kept c.args.work.now c.within.new.work c.args.parameters a.grows.keeps
            c.requires.parameters,
      ),
    )

pub declarators::function_with-returns : goal.declarators::function_with-returns
declarators::function_with-returns t c = λ xs y p q.
    let u = c.args.work.now in
    let v = c.within.new.work in
    let w = c.prototype.new.work in
    let a = c.in_ok-d.ensures xs p in
    let b = c.in_ok-found.ensures y (part_kept u v c.args.parameters y a.grows.keeps q) in
    parts_done u v w (within (readings xs)) (reading y).prototype c.in_ok-d.d c.in_ok-all.all
    (Gives c.in_ok-found.found) (λ k. meant.Gives k) _
    (ShowsPrototype w c.in_ok-found.found) c.in_ok-all.ensures.name c.in_ok-all.ensures.wraps b.there
    (λ s k i. i) a b

-- ---- parameters

pub declarators::prototype-parameter_list-requires : goal.declarators::prototype-parameter_list-requires
declarators::prototype-parameter_list-requires t c =
    let some = deep c.args.work.now c.args.k c.requires.part.part in
    let u = c.args.work.now in
    let n = c.node_at-node.result.now in
    let g = c.node_at-node.ensures in
    let a = c.in_ok-enter.ensures in (
      omega arith,
      (
        a.whole,
        kinds_kept u c.enter.new.work c.as_slice.result.now a.grows.keeps
            (kinds_in u n c.as_slice.result.now Kinds.Parameters (node_of u c.args.k n c.requires.part.part g)
            c.as_slice.ensures (kind_is u c.args.k n Kinds.Parameters c.requires.part g)),
      ),
    )

pub declarators::prototype-close-requires : goal.declarators::prototype-close-requires
declarators::prototype-close-requires t c =
    let u = c.args.work.now in
    let a = c.in_ok-enter.ensures in
    let h = within_kept u c.enter.new.work c.as_slice.result.now a.grows.keeps
    (subst (λ (ks : List ℕ). PartsWithin u (c.args.depth - 1) ks) (sym c.as_slice.ensures)
    (kids_within u c.args.k c.node_at-node.result.now c.requires.part.part c.node_at-node.ensures)) in
    (c.in_ok-params.ensures h.syntax h.are).whole

pub declarators::prototype-returns : goal.declarators::prototype-returns
declarators::prototype-returns t c = λ x p.
    let u = c.args.work.now in
    let v = c.enter.new.work in
    let w = c.parameter_list.new.work in
    let z = c.close.new.work in
    let n = c.node_at-node.result.now in
    let o = opened u c.args.k x n p c.node_at-node.ensures in
    let a = c.in_ok-enter.ensures in
    let kids = parts_kept u v c.as_slice.result.now o.parts a.grows.keeps
    (subst (λ (ks : List ℕ). AreParts u ks o.parts) (sym c.as_slice.ensures) o.node.parts) in
    let found : Prototype = record { params = c.in_ok-params.params; scope = c.in_ok-scope.scope } in
    at_node u z n x (λ r. r.prototype) PrototypeThere ShowsPrototype (Ok found) o
    (prototype_done u v w z (readings o.parts) c.in_ok-params.params c.in_ok-scope.scope found refl refl a
    (c.in_ok-params.ensures o.parts kids) c.in_ok-scope.ensures)

pub declarators::parameter_list-loop-part-init : goal.declarators::parameter_list-loop-part-init
declarators::parameter_list-loop-part-init t c =
    let u = c.args.work.now in
    let ps = c.new-params.result in
    let there = none_there (ParamIsThere u.nodes) ps.items c.new-params.ensures.items in
    let only = c.is_lone-only.result in
    record {
      whole = c.requires.whole;
      parts = c.requires.parts;
      reads = λ xs q. fold_begins u c.args.kids.now (parameter_list 0 (length (readings xs) == 1) (readings xs))
          (params_on only) (All (ParamIsThere u.nodes) ps.items) (Are u ps.items) [] c.requires.whole there
          (sym (ap (map (param_in u)) c.new-params.ensures.items)) xs q
          (λ s. ap (λ (b : Bool). parameter_list 0 b (readings xs) s)
          (ap (λ (n : ℕ). n == 1) (parts_length u c.args.kids.now xs q) ∙ sym c.is_lone-only.ensures)
          ∙ params_begin only xs s);
    }

pub declarators::parameter_list-parameter-requires : goal.declarators::parameter_list-parameter-requires
declarators::parameter_list-parameter-requires t c =
    let v = c.loop-part.work in (
      omega arith,
      (
        c.loop-part.invariant.whole,
        first_of_kind v Kinds.Parameter c.in-Some.part.first c.in-Some.part.others.now
            (subst (λ (z : List ℕ). PartsThat (AreOf Kinds.Parameter) v c.args.depth z) c.in-Some.ensures
            c.loop-part.invariant.parts),
      ),
    )

pub declarators::parameter_list-declare_parameter-requires : goal.declarators::parameter_list-declare_parameter-requires
declarators::parameter_list-declare_parameter-requires t c =
    let v = c.loop-part.work in
    let f = (first_of_kind v Kinds.Parameter c.in-Some.part.first c.in-Some.part.others.now
    (subst (λ (z : List ℕ). PartsThat (AreOf Kinds.Parameter) v c.args.depth z) c.in-Some.ensures
    c.loop-part.invariant.parts)).part in
    let a = c.in_ok-p.ensures f.syntax f.is in
    record { whole = a.whole; there = a.there }

pub declarators::parameter_list-returns-then-p : goal.declarators::parameter_list-returns-then-p
declarators::parameter_list-returns-then-p t c = λ xs q.
    let v = c.loop-part.work in
    params_stop c.args.work.now v c.parameter.new.work c.in-Some.part.first c.in-Some.part.others.now
    c.is_lone-only.result (parameter_list 0 (length (readings xs) == 1) (readings xs)) c.loop-part.params
    c.in_ok-p.p c.if-p.true
    (subst (λ (z : List ℕ). ParamsSoFar c.args.work.now v z c.is_lone-only.result
    (parameter_list 0 (length (readings xs) == 1) (readings xs)) c.loop-part.params.items) c.in-Some.ensures
    (c.loop-part.invariant.reads xs q)) c.in_ok-p.ensures

pub declarators::parameter_list-loop-part-preserved : goal.declarators::parameter_list-loop-part-preserved
declarators::parameter_list-loop-part-preserved t c =
    let v = c.loop-part.work in
    let w = c.parameter.new.work in
    let z = c.declare_parameter.new.work in
    let k = c.in-Some.part.first in
    let ks = c.in-Some.part.others.now in
    let h = subst (λ (y : List ℕ). PartsThat (AreOf Kinds.Parameter) v c.args.depth y) c.in-Some.ensures
    c.loop-part.invariant.parts in
    let f = (first_of_kind v Kinds.Parameter k ks h).part in
    let a = c.in_ok-p.ensures f.syntax f.is in
    let b = c.in_ok-declare_parameter.ensures.answers in
    record {
      whole = b.whole;
      parts = kinds_kept w z ks b.grows.keeps
          (kinds_kept v w ks a.grows.keeps (others_of_kind v Kinds.Parameter k ks h));
      reads = λ xs q. params_grow c.args.work.now v w z k ks c.is_lone-only.result
          (parameter_list 0 (length (readings xs) == 1) (readings xs)) c.loop-part.params.items
          c.declare_parameter.new.params.items c.in_ok-p.p c.if-p.false
          (subst (λ (y : List ℕ). ParamsSoFar c.args.work.now v y c.is_lone-only.result
          (parameter_list 0 (length (readings xs) == 1) (readings xs)) c.loop-part.params.items)
          c.in-Some.ensures (c.loop-part.invariant.reads xs q)) c.in_ok-p.ensures b
          c.in_ok-declare_parameter.ensures.more;
    }

pub declarators::parameter_list-returns : goal.declarators::parameter_list-returns
declarators::parameter_list-returns t c = λ xs q.
    let v = c.loop-part.work in
    let ps = c.loop-part.params in
    let d = parameter_list 0 (length (readings xs) == 1) (readings xs) in
    let soFar = subst (λ (y : List ℕ). ParamsSoFar c.args.work.now v y c.is_lone-only.result d ps.items)
    c.in_default.ensures (c.loop-part.invariant.reads xs q) in
    fold_ends c.args.work.now v d (params_on c.is_lone-only.result) (All (ParamIsThere v.nodes) ps.items)
    (Are v ps.items) (λ ys. ys) ParamsThere AreParams ps (params_end c.is_lone-only.result) soFar soFar.done.there
    (λ s b i. i)

pub declarators::parameter-parameter_at-requires : goal.declarators::parameter-parameter_at-requires
declarators::parameter-parameter_at-requires t c =
    let some = deep c.args.work.now c.args.k c.requires.part.part in
    let u = c.args.work.now in (
      omega arith,
      (
        c.requires.whole,
        subst (λ (ks : List ℕ). PartsWithin u (c.args.depth - 1) ks) (sym c.as_slice.ensures)
            (kids_within u c.args.k c.node_at-node.result.now c.requires.part.part c.node_at-node.ensures),
      ),
    )

pub declarators::parameter-returns : goal.declarators::parameter-returns
declarators::parameter-returns t c = λ x p.
    let u = c.args.work.now in
    let w = c.parameter_at.new.work in
    let n = c.node_at-node.result.now in
    let o = opened u c.args.k x n p c.node_at-node.ensures in
    at_node u w n x (λ r. r.parameter c.args.only) ParamThere (in_any IsParam) c.parameter_at.result o
    (subst (λ (l : Lexeme). Answers quietly u w (parameter_of l (readings o.parts) c.args.only) ParamThere
    (in_any IsParam) c.parameter_at.result)
    (ap (token_of u) c.name_of.ensures ∙ sym (parameter_word u n o.token o.parts o.node
    (kind_is u c.args.k n Kinds.Parameter c.requires.part c.node_at-node.ensures)))
    (c.parameter_at.ensures o.parts (subst (λ (ks : List ℕ). AreParts u ks o.parts)
    (sym c.as_slice.ensures) o.node.parts)))

pub declarators::parameter_at-unstored-requires : goal.declarators::parameter_at-unstored-requires
declarators::parameter_at-unstored-requires t c = (
  omega arith,
  (
    c.requires.whole,
    first_within c.args.work.now c.in-Some.part.first c.in-Some.part.others.now
        (subst (λ (z : List ℕ). PartsWithin c.args.work.now c.args.depth z) c.in-Some.ensures c.requires.parts),
  ),
)

pub declarators::parameter_at-within-requires : goal.declarators::parameter_at-within-requires
declarators::parameter_at-within-requires t c =
    let u = c.args.work.now in
    let k = c.in-Some.part.first in
    let ks = c.in-Some.part.others.now in
    let h = subst (λ (z : List ℕ). PartsWithin u c.args.depth z) c.in-Some.ensures c.requires.parts in
    let f = first_within u k ks h in
    let a = c.in_ok-s-in-Some.ensures f.syntax f.is in
    (omega arith, (a.whole, within_kept u c.unstored.new.work ks a.grows.keeps (others_within u k ks h)))

pub declarators::parameter_at-parameter_from-requires : goal.declarators::parameter_at-parameter_from-requires
declarators::parameter_at-parameter_from-requires t c =
    let u = c.args.work.now in
    let v = c.unstored.new.work in
    let w = c.within.new.work in
    let k = c.in-Some.part.first in
    let ks = c.in-Some.part.others.now in
    let h = subst (λ (z : List ℕ). PartsWithin u c.args.depth z) c.in-Some.ensures c.requires.parts in
    let f = first_within u k ks h in
    let a = c.in_ok-s-in-Some.ensures f.syntax f.is in
    let g = within_kept u v ks a.grows.keeps (others_within u k ks h) in
    let b = c.in_ok-d-in-Some.ensures g.syntax g.are in
    record {
      whole = b.whole;
      specified = specified_there v w c.in_ok-s-in-Some.s b.grows.keeps a.there;
      parts = b.there;
    }

pub declarators::parameter_at-returns-in-None : goal.declarators::parameter_at-returns-in-None
declarators::parameter_at-returns-in-None t c =
    λ xs p s h. no_parameter (token_of c.args.work.now c.args.first) (readings xs) c.args.only s
    (no_readings c.args.work.now c.args.kids.now c.in-None.ensures xs p)

pub declarators::parameter_at-returns-in_ok-d-in-Some : goal.declarators::parameter_at-returns-in_ok-d-in-Some
declarators::parameter_at-returns-in_ok-d-in-Some t c = λ xs p.
    let u = c.args.work.now in
    let v = c.unstored.new.work in
    let z = c.within.new.work in
    let w = c.parameter_from.new.work in
    let l = token_of u c.args.first in
    let m = behind u c.args.kids.now c.in-Some.part.first c.in-Some.part.others.now c.in-Some.ensures xs p in
    let a = c.in_ok-s-in-Some.ensures m.head m.first in
    let d = c.in_ok-d-in-Some.ensures m.tail (parts_kept u v c.in-Some.part.others.now m.tail a.grows.keeps m.others) in
    answers_at quietly u w (parameter_of l (readings xs) c.args.only)
    (unstored (reading m.head) false l.pos >>= λ x. within (readings m.tail)
    >>= λ y. parameter_from c.args.only x l y) ParamThere (in_any IsParam) c.parameter_from.result
    (λ s k. parameter_is l (reading m.head) (readings m.tail) (readings xs) c.args.only s m.read)
    (then_both u v z w (unstored (reading m.head) false l.pos)
    (within (readings m.tail)) c.in_ok-s-in-Some.s c.in_ok-d-in-Some.d
    (λ x y. parameter_from c.args.only x l y) ParamThere (in_any IsParam) c.parameter_from.result a d
    (λ x y i j. subst (λ (o : Lexeme). Answers quietly z w (parameter_from c.args.only x o y) ParamThere
    (in_any IsParam) c.parameter_from.result)
    (token_kept u z c.args.first (keeps_then u v z a.grows.keeps d.grows.keeps))
    (c.parameter_from.ensures x y i j)))

-- ---- refusals of parts

pub types::member-returns-in_err-s-in-Some : goal.types::member-returns-in_err-s-in-Some
types::member-returns-in_err-s-in-Some t c =
    let e = err_from_is_err_and c.from_residual.result c.from_residual.ensures.1 in
    λ x ms p a.
    let u = c.args.work.now in
    let v = c.unstored.new.work in
    let n = c.node_at-node.result.now in
    let o = opened u c.args.k x n p c.node_at-node.ensures in
    let m = behind u n.kids c.in-Some.part.first c.in-Some.part.others.now
    (sym c.as_slice-kids.ensures ∙ c.in-Some.ensures) o.parts o.node.parts in
    let b = c.has_register-register.result in
    rw (e.1, e.2) (at_node u v n x (λ q. q.members ms) AllMembersThere AreAllMembers (Err _) o
    (answers_at quietly u v (members_at o.token o.parts (readings o.parts) ms)
    (unstored (reading m.head) b n.pos >>= λ y. member_declarators y (readings m.tail) ms) AllMembersThere
    AreAllMembers (Err _)
    (λ s k. member_is o.token n.pos o.parts (reading m.head) (readings m.tail)
    (readings o.parts) ms b s o.node.place m.read
    (sym (c.has_register-register.ensures o.parts
    (subst (λ (ks : List ℕ). StandAt u.tree.now.nodes ks o.parts)
    (sym c.as_slice-kids.ensures) o.node.parts.stand))))
    (failed quietly u v v (unstored (reading m.head) b n.pos)
    (λ y. member_declarators y (readings m.tail) ms) SpecifiedThere
    (in_any IsSpecified) AllMembersThere AreAllMembers _ (c.in_err-s-in-Some.ensures m.head m.first))))

pub declarators::open_array-returns-in_err-d : goal.declarators::open_array-returns-in_err-d
declarators::open_array-returns-in_err-d t c =
    let e = err_from_is_err_and c.from_residual.result c.from_residual.ensures.1 in λ t' xs p.
    let u = c.args.work.now in
    let v = c.within.new.work in
    rw (e.1, e.2) (answers_at quietly u v (declarator_of Kinds.OpenArray t' xs (readings xs))
    (within (readings xs) >>= λ y. give (wrapped (meant.Row 0) y)) DerivedThere ShowsDerived (Err _)
    (λ s k. open_array_is t' xs (readings xs) s)
    (failed quietly u v v (within (readings xs))
    (λ y. give (wrapped (meant.Row 0) y)) DerivedThere ShowsDerived DerivedThere ShowsDerived _
    (c.in_err-d.ensures xs p)))

pub declarators::pointer-returns-in_err-d-in-Some : goal.declarators::pointer-returns-in_err-d-in-Some
declarators::pointer-returns-in_err-d-in-Some t c =
    let e = err_from_is_err_and c.from_residual.result c.from_residual.ensures.1 in λ t' xs i p.
    let u = c.args.work.now in
    let v = c.within.new.work in
    let m = behind u c.args.kids.now c.in-Some.part.first c.in-Some.part.others.now c.in-Some.ensures xs p in
    rw (e.1, e.2) (answers_at quietly u v (declarator_of Kinds.Pointer t' xs (readings xs))
    (within (readings m.tail) >>= λ y. give (wrapped (meant.Point (parts_const xs)) y)) DerivedThere ShowsDerived
    (Err _)
    (λ s k. pointer_is t' xs (reading m.head) (readings m.tail) (readings xs) s m.read)
    (failed quietly u v v (within (readings m.tail))
    (λ y. give (wrapped (meant.Point (parts_const xs)) y)) DerivedThere ShowsDerived DerivedThere ShowsDerived _
    (c.in_err-d-in-Some.ensures m.tail m.others)))

pub declarators::parameter_at-returns-in_err-s-in-Some : goal.declarators::parameter_at-returns-in_err-s-in-Some
declarators::parameter_at-returns-in_err-s-in-Some t c =
    let e = err_from_is_err_and c.from_residual.result c.from_residual.ensures.1 in λ xs p.
    let u = c.args.work.now in
    let v = c.unstored.new.work in
    let l = token_of u c.args.first in
    let m = behind u c.args.kids.now c.in-Some.part.first c.in-Some.part.others.now c.in-Some.ensures xs p in
    rw (e.1, e.2) (answers_at quietly u v (parameter_of l (readings xs) c.args.only)
    (unstored (reading m.head) false l.pos >>= λ x. within (readings m.tail)
    >>= λ y. parameter_from c.args.only x l y) ParamThere (in_any IsParam) (Err _)
    (λ s k. parameter_is l (reading m.head) (readings m.tail) (readings xs) c.args.only s m.read)
    (failed quietly u v v (unstored (reading m.head) false l.pos)
    (λ x. within (readings m.tail) >>= λ y. parameter_from c.args.only x l y) SpecifiedThere
    (in_any IsSpecified) ParamThere (in_any IsParam) _ (c.in_err-s-in-Some.ensures m.head m.first)))

pub declarators::parameter_at-returns-in_err-d-in-Some : goal.declarators::parameter_at-returns-in_err-d-in-Some
declarators::parameter_at-returns-in_err-d-in-Some t c =
    let e = err_from_is_err_and c.from_residual-in_err-d-in-Some.result c.from_residual-in_err-d-in-Some.ensures.1 in
    λ xs p.
    let u = c.args.work.now in
    let v = c.unstored.new.work in
    let z = c.within.new.work in
    let l = token_of u c.args.first in
    let m = behind u c.args.kids.now c.in-Some.part.first c.in-Some.part.others.now c.in-Some.ensures xs p in
    let a = c.in_ok-s-in-Some.ensures m.head m.first in
    rw (e.1, e.2) (answers_at quietly u z (parameter_of l (readings xs) c.args.only)
    (unstored (reading m.head) false l.pos >>= λ x. within (readings m.tail)
    >>= λ y. parameter_from c.args.only x l y) ParamThere (in_any IsParam) (Err _)
    (λ s k. parameter_is l (reading m.head) (readings m.tail) (readings xs) c.args.only s m.read)
    (then_failed u v z (unstored (reading m.head) false l.pos) (within (readings m.tail))
    (λ x y. parameter_from c.args.only x l y) _ _ DerivedThere ShowsDerived ParamThere (in_any IsParam) _ a
    (c.in_err-d-in-Some.ensures m.tail (parts_kept u v c.in-Some.part.others.now m.tail a.grows.keeps m.others))))

pub declarators::parameter_list-returns-in_err-p : goal.declarators::parameter_list-returns-in_err-p
declarators::parameter_list-returns-in_err-p t c =
    let e = err_from_is_err_and c.from_residual.result c.from_residual.ensures.1 in λ xs q.
    let v = c.loop-part.work in
    rw (e.1, e.2) (params_fail c.args.work.now v c.parameter.new.work c.in-Some.part.first c.in-Some.part.others.now
    c.is_lone-only.result (parameter_list 0 (length (readings xs) == 1) (readings xs)) c.loop-part.params.items _
    (subst (λ (z : List ℕ). ParamsSoFar c.args.work.now v z c.is_lone-only.result
    (parameter_list 0 (length (readings xs) == 1) (readings xs)) c.loop-part.params.items) c.in-Some.ensures
    (c.loop-part.invariant.reads xs q)) c.in_err-p.ensures)

pub declarators::parameter_list-returns-in_err-declare_parameter :
    goal.declarators::parameter_list-returns-in_err-declare_parameter
declarators::parameter_list-returns-in_err-declare_parameter t c =
    let e = err_from_is_err_and c.from_residual-in_err-declare_parameter.result
    c.from_residual-in_err-declare_parameter.ensures.1 in λ xs q.
    let v = c.loop-part.work in
    rw (e.1, e.2) (params_refuse c.args.work.now v c.parameter.new.work c.declare_parameter.new.work
    c.in-Some.part.first c.in-Some.part.others.now c.is_lone-only.result
    (parameter_list 0 (length (readings xs) == 1) (readings xs)) c.loop-part.params.items c.in_ok-p.p _
    c.if-p.false
    (subst (λ (z : List ℕ). ParamsSoFar c.args.work.now v z c.is_lone-only.result
    (parameter_list 0 (length (readings xs) == 1) (readings xs)) c.loop-part.params.items) c.in-Some.ensures
    (c.loop-part.invariant.reads xs q)) c.in_ok-p.ensures c.in_err-declare_parameter.ensures.answers)

pub declarators::prototype-returns-in_err-params : goal.declarators::prototype-returns-in_err-params
declarators::prototype-returns-in_err-params t c =
    let e = err_from_is_err_and c.from_residual-in_err-params.result c.from_residual-in_err-params.ensures.1 in λ x p.
    let u = c.args.work.now in
    let v = c.enter.new.work in
    let w = c.parameter_list.new.work in
    let n = c.node_at-node.result.now in
    let o = opened u c.args.k x n p c.node_at-node.ensures in
    let a = c.in_ok-enter.ensures in
    let kids = parts_kept u v c.as_slice.result.now o.parts a.grows.keeps
    (subst (λ (ks : List ℕ). AreParts u ks o.parts) (sym c.as_slice.ensures) o.node.parts) in
    rw (e.1, e.2) (at_node u w n x (λ r. r.prototype) PrototypeThere ShowsPrototype (Err _) o
    (prototype_failed u v w (readings o.parts) _ a (c.in_err-params.ensures o.parts kids)))

pub declarators::prototype-returns-in_err-scope : goal.declarators::prototype-returns-in_err-scope
declarators::prototype-returns-in_err-scope t c =
    let e = err_from_is_err_and c.from_residual-in_err-scope.result c.from_residual-in_err-scope.ensures.1 in λ x p.
    let u = c.args.work.now in
    let v = c.enter.new.work in
    let w = c.parameter_list.new.work in
    let z = c.close.new.work in
    let n = c.node_at-node.result.now in
    let o = opened u c.args.k x n p c.node_at-node.ensures in
    let a = c.in_ok-enter.ensures in
    let kids = parts_kept u v c.as_slice.result.now o.parts a.grows.keeps
    (subst (λ (ks : List ℕ). AreParts u ks o.parts) (sym c.as_slice.ensures) o.node.parts) in
    rw (e.1, e.2) (at_node u z n x (λ r. r.prototype) PrototypeThere ShowsPrototype (Err _) o
    (prototype_unclosed u v w z (readings o.parts) c.in_ok-params.params _ a
    (c.in_ok-params.ensures o.parts kids) c.in_err-scope.ensures))

pub types::specified-returns-in_err-named : goal.types::specified-returns-in_err-named
types::specified-returns-in_err-named t c =
    let e = err_from_is_err_and c.from_residual.result c.from_residual.ensures.1 in λ x p.
    let u = c.args.work.now in
    let v = c.named_types.new.work in
    let n = c.node_at-node.result.now in
    let o = opened u c.args.k x n p c.node_at-node.ensures in
    let lone : c.is_lone-lone.result ≡ (c.args.alone && length n.kids == 1) =
    c.is_lone-lone.ensures ∙ ap (λ (ks : List ℕ). c.args.alone && length ks == 1) c.as_slice-kids.ensures in
    let kids = subst (λ (ks : List ℕ). AreParts u ks o.parts) (sym c.as_slice-kids.ensures) o.node.parts in
    rw (e.1, e.2) (at_node u v n x (λ r. r.specified c.args.alone) SpecifiedThere (in_any IsSpecified) (Err _) o
    (answers_at quietly u v (specifiers c.args.alone o.token o.parts (readings o.parts))
    (named_types c.is_lone-lone.result o.parts (readings o.parts) >>= λ ts. steps.specified o.token o.parts ts)
    SpecifiedThere (in_any IsSpecified) (Err _)
    (λ s k. specifiers_are c.args.alone o.token o.parts (readings o.parts) (length n.kids) s
    (parts_length u n.kids o.parts o.node.parts)
    ∙ ap (λ (b : Bool). (named_types b o.parts (readings o.parts) >>= λ ts. steps.specified o.token o.parts ts) s)
    (sym lone))
    (failed quietly u v v (named_types c.is_lone-lone.result o.parts (readings o.parts))
    (λ ts. steps.specified o.token o.parts ts) TypesThere AreTypes SpecifiedThere (in_any IsSpecified) _
    (c.in_err-named.ensures o.parts kids))))

pub types::tagged_enumeration-returns-in_err-new_enumeration :
    goal.types::tagged_enumeration-returns-in_err-new_enumeration
types::tagged_enumeration-returns-in_err-new_enumeration t c =
    let i = err_from_is_err_and c.from_residual.result c.from_residual.ensures.1 in λ xs p.
    let u = c.args.work.now in
    let v = c.new_enumeration.new.work in
    let n = token_of u c.args.name in
    let e = eqb-false (length c.args.list.now) 0 (sym c.is_empty.ensures ∙ c.if-is_empty.false) in
    rw (i.1, i.2) (answers_at quietly u v (tagged_enumeration n (readings xs))
    (new_enumeration_of n >> listed (readings xs)) TypeThere IsType (Err _)
    (λ s k. enum_behind n (readings xs) s (λ z. e (sym (parts_length u c.args.list.now xs p) ∙ z)))
    (failed quietly u v v (new_enumeration_of n)
    (λ y. listed (readings xs)) NothingThere IsNothing TypeThere IsType _ c.in_err-new_enumeration.ensures))

pub types::type_name-returns-in_err-s-in-Some : goal.types::type_name-returns-in_err-s-in-Some
types::type_name-returns-in_err-s-in-Some t c =
    let i = err_from_is_err_and c.from_residual.result c.from_residual.ensures.1 in λ t' xs e p.
    let u = c.args.work.now in
    let v = c.unstored.new.work in
    let m = behind u c.args.kids.now c.in-Some.part.first c.in-Some.part.others.now c.in-Some.ensures xs p in
    let b = c.has_register-register.result in
    rw (i.1, i.2) (answers_at quietly u v (type_name t' xs (readings xs))
    (unstored (reading m.head) b c.args.pos >>= λ x. within (readings m.tail)
    >>= λ y. steps.named_type x.of y.wraps c.args.pos) TypeThere IsType (Err _)
    (λ s k. type_name_is t' c.args.pos xs (reading m.head) (readings m.tail) (readings xs) b s e m.read
    (sym (c.has_register-register.ensures xs p.stand)))
    (failed quietly u v v (unstored (reading m.head) b c.args.pos)
    (λ x. within (readings m.tail) >>= λ y. steps.named_type x.of y.wraps c.args.pos) SpecifiedThere
    (in_any IsSpecified) TypeThere IsType _ (c.in_err-s-in-Some.ensures m.head m.first)))

pub types::type_name-returns-in_err-d-in-Some : goal.types::type_name-returns-in_err-d-in-Some
types::type_name-returns-in_err-d-in-Some t c =
    let i = err_from_is_err_and c.from_residual-in_err-d-in-Some.result c.from_residual-in_err-d-in-Some.ensures.1 in
    λ t' xs e p.
    let u = c.args.work.now in
    let v = c.unstored.new.work in
    let z = c.within.new.work in
    let m = behind u c.args.kids.now c.in-Some.part.first c.in-Some.part.others.now c.in-Some.ensures xs p in
    let b = c.has_register-register.result in
    let a = c.in_ok-s-in-Some.ensures m.head m.first in
    rw (i.1, i.2) (answers_at quietly u z (type_name t' xs (readings xs))
    (unstored (reading m.head) b c.args.pos >>= λ x. within (readings m.tail)
    >>= λ y. steps.named_type x.of y.wraps c.args.pos) TypeThere IsType (Err _)
    (λ s k. type_name_is t' c.args.pos xs (reading m.head) (readings m.tail) (readings xs) b s e m.read
    (sym (c.has_register-register.ensures xs p.stand)))
    (then_failed u v z (unstored (reading m.head) b c.args.pos) (within (readings m.tail))
    (λ x y. steps.named_type x.of y.wraps c.args.pos) _ _ DerivedThere ShowsDerived TypeThere IsType _ a
    (c.in_err-d-in-Some.ensures m.tail (parts_kept u v c.in-Some.part.others.now m.tail a.grows.keeps m.others))))

pub types::valued-returns-in_err-c-in-Some : goal.types::valued-returns-in_err-c-in-Some
types::valued-returns-in_err-c-in-Some t c =
    let e = err_from_is_err_and c.from_residual.result c.from_residual.ensures.1 in λ xs p.
    let u = c.args.work.now in
    let v = c.constant.new.work in
    let n = token_of u c.args.name in
    let m = behind u c.args.kids.now c.in-Some.part.first c.in-Some.part.others.now c.in-Some.ensures xs p in
    rw (e.1, e.2) (answers_at quietly u v (enumerator n (readings xs) c.args.next)
    (declarations.constant (reading m.head) >>= λ z. enumerate n z.number z.first) NumberThere (in_any IsNumber)
    (Err _)
    (λ s z. enumerator_with n (reading m.head) (readings xs) (readings m.tail) c.args.next s m.read)
    (failed quietly u v v (declarations.constant (reading m.head)) (λ z. enumerate n z.number z.first) ConstantThere
    (in_any IsConstant) NumberThere (in_any IsNumber) _ (c.in_err-c-in-Some.ensures m.head m.first)))

-- ---- nodes that are there

pub expressions::operand-node_at-node-requires : goal.expressions::operand-node_at-node-requires
expressions::operand-node_at-node-requires t c = part_there c.args.work.now c.args.k c.requires.part

pub types::specified-node_at-node-requires : goal.types::specified-node_at-node-requires
types::specified-node_at-node-requires t c = part_there c.args.work.now c.args.k c.requires.part

pub types::maybe_type-node_at-node-requires : goal.types::maybe_type-node_at-node-requires
types::maybe_type-node_at-node-requires t c = part_there c.args.work.now c.args.k c.requires.part

pub types::type_of-node_at-node-requires : goal.types::type_of-node_at-node-requires
types::type_of-node_at-node-requires t c = part_there c.args.work.now c.args.k c.requires.part

pub types::member-node_at-node-requires : goal.types::member-node_at-node-requires
types::member-node_at-node-requires t c = part_there c.args.work.now c.args.k c.requires.part

pub types::enumerator-node_at-node-requires : goal.types::enumerator-node_at-node-requires
types::enumerator-node_at-node-requires t c = part_there c.args.work.now c.args.k c.requires.part.part

pub declarators::derived-node_at-node-requires : goal.declarators::derived-node_at-node-requires
declarators::derived-node_at-node-requires t c = part_there c.args.work.now c.args.k c.requires.part

pub declarators::prototype-node_at-node-requires : goal.declarators::prototype-node_at-node-requires
declarators::prototype-node_at-node-requires t c = part_there c.args.work.now c.args.k c.requires.part.part

pub declarators::parameter-node_at-node-requires : goal.declarators::parameter-node_at-node-requires
declarators::parameter-node_at-node-requires t c = part_there c.args.work.now c.args.k c.requires.part.part

pub expressions::selected-node_at-node-requires : goal.expressions::selected-node_at-node-requires
expressions::selected-node_at-node-requires t c =
    let h = two_within c.args.work.now c.args.kids.now c.in-Some.x.first c.in-Some.x.second c.in-Some.ensures
    c.requires.parts in
    part_there c.args.work.now c.in-Some.x.second h.1

pub expressions::call-node_at-node-requires : goal.expressions::call-node_at-node-requires
expressions::call-node_at-node-requires t c =
    let u = c.args.work.now in
    part_there u c.in-Some.part.first
    (first_within u c.in-Some.part.first c.in-Some.part.others.now
    (subst (λ (z : List ℕ). PartsWithin u c.args.depth z) c.in-Some.ensures c.requires.parts))

pub expressions::call-library-service-requires : goal.expressions::call-library-service-requires
expressions::call-library-service-requires t c =
    let u = c.args.work.now in
    first_within u c.in-Some.part.first c.in-Some.part.others.now
    (subst (λ (z : List ℕ). PartsWithin u c.args.depth z) c.in-Some.ensures c.requires.parts)

pub types::record_specifier-tag_of-found-requires : goal.types::record_specifier-tag_of-found-requires
types::record_specifier-tag_of-found-requires t c = have_parts c.args.work.now c.args.kids.now c.requires.parts

pub types::enum_specifier-tag_of-found-requires : goal.types::enum_specifier-tag_of-found-requires
types::enum_specifier-tag_of-found-requires t c = have_parts c.args.work.now c.args.kids.now c.requires.parts.parts
