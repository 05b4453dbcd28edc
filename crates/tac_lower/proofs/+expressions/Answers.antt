use Rattle.ck_int.specs.declared.kinds.IntKind.TheVariants as int
use Rattle.tac_ir.specs.declared.code.LibOp.TheVariants as lib
use Rattle.tac_ir.specs.declared.code.TacInstr.TheVariants as instr
use Rattle.tac_ir.specs.declared.code.TacKind.TheVariants as kinds
use Rattle.tac_lower.proofs.Below as below
use Rattle.c_tree.specs.declared.typed.ExprKind.TheVariants as exprs
use Rattle.cheri_c_sem.specs.Tree as sem
use Rattle.tac_lower.proofs.+expressions.Goals as goal
use Rattle.tac_lower.specs.declared.writes.Written.TheVariants as write
use Rattle.tac_lower.specs.declared.calls.Service.TheVariants as called_services
use Rattle.std.proofs.Common.{◌≡◌, ◌+◌, ◌<◌, Some, None, [], ◌∷◌, ◌++◌, map, length, take, get_or}
use Rattle.std.proofs.Common.{true, false, refl, sym, ap, subst, ◌∙◌, arith, rules, drop, unwrap_or}
use Rattle.std.proofs.lemmas.List.{take_more, append-nil, drop_all}
use Rattle.std.proofs.lemmas.Option.{slice_get_within, slice_get-get_or, MatchOption-at_none}
use Rattle.std.proofs.lemmas.Result.{IfOk-weaker, IfOk-from_err as fails}
use Rattle.c_tree.specs.Counts.{parts}
use Rattle.c_tree.specs.Types.{Function}
use Rattle.cheri_c_sem.specs.Types.{is_shift}
use Rattle.tac_ir.specs.WellFormed.{constant_fits}
use Rattle.tac_lower.specs.declared.conditions.Junction.{Junction}
use Rattle.tac_lower.specs.Nodes.{expression, kind_in, or_int, HasTwo, TruthNode, UnaryNode, CallNode, LibraryNode}
use Rattle.tac_lower.specs.Nodes.{IsScalar}
use Rattle.tac_lower.specs.Scenes.{frame_of}
use Rattle.tac_lower.specs.Services.{ServiceAsks}
use Rattle.tac_lower.specs.Tables.{is_some, type_at, IsPointed}
use Rattle.tac_lower.proofs.Called.{taken, call_lowered, call_value_lowered, service_lowered}
use Rattle.tac_lower.proofs.Calling.{ArgumentsTo, kinds_count, weights_heavy, places_small, service_small}
use Rattle.tac_lower.proofs.Calling.{arguments_none, arguments_more, argument_room, called_value, named_type}
use Rattle.tac_lower.proofs.Calling.{intrinsic_fits}
use Rattle.tac_lower.proofs.Constants.{zero_fits, one_fits, kinds_agree}
use Rattle.tac_lower.proofs.Keeping.{node_at, scalar_kind, first_pointer, second_pointer, change_fits, right_as}
use Rattle.tac_lower.proofs.Keeping.{change_as, not_node, unary_operand, pointer, two_pointers, two_values, some_temp}
use Rattle.tac_lower.proofs.Keeping.{maybe_kept, maybe_kind, maybe_same, result_as, destination_kept}
use Rattle.tac_lower.proofs.Keeping.{destination_opened, tail_pushed, tail_part}
use Rattle.tac_lower.proofs.Services.{library_fits, exit_fits}
use Rattle.tac_emit.proofs.Spending.{forked_spent, labelled_spent}
use Rattle.tac_lower.proofs.Spending.{nothing, plainly, after, and}
use Rattle.tac_lower.proofs.Spending.{within, extra_small, extra_none, in_fresh, in_own, owned, last, last_and}
use Rattle.tac_lower.proofs.Spending.{last_pushed, last_fresh, last_given}
use Rattle.tac_lower.proofs.Steps.{start, both, grew, at_most, still, as_kind, room, less_room, still_open, heavy}
use Rattle.tac_lower.proofs.Steps.{tail, tail_grew, tail_stands, fork, label, opened, turned, first_open, second_open}
use Rattle.tac_lower.proofs.Steps.{others_open, opened_has, opened_room}
use Rattle.tac_emit.proofs.Wells.{grown_then, kept}
use Rattle.tac_lower.proofs.Deriving.{operand_held, operand_made, operand_in_held, operand_in_there, pair_both}
use Rattle.tac_lower.proofs.Deriving.{value_constant, value_no_node, value_no_value, value_integer, value_capability}
use Rattle.tac_lower.proofs.Deriving.{value_comma, value_comparison, value_choice}
use Rattle.tac_emit.proofs.Emitting.{one_emits}
use Rattle.tac_lower.proofs.Reading.{value_signed, value_read, value_loaded, value_not}
use Rattle.tac_lower.specs.Trees.{Signs, setting, HasScalar, IsNode, joined, ShowsArguments}
use Rattle.tac_lower.proofs.Below.{load as below_load, comma_right as below_comma}
use Rattle.tac_lower.proofs.Nodes.{loads, commas}
use Rattle.lower_runs.specs.Expressions.{place_global, place_literal, place_function}
use Rattle.tac_lower.proofs.Unplaced.{another, never_place, none_place}
use Rattle.tac_lower.proofs.Structs.{plain_own, plain_none, copy_chosen, copy_comma, copy_plain, copy_read}
use Rattle.tac_lower.proofs.Structs.{struct_assigned}
use Rattle.tac_lower.proofs.Pointing.{value_pointer, value_part, no_place, place_comma, place_chosen, place_named}
use Rattle.tac_lower.proofs.Pointing.{place_pointed, place_read, place_stored, place_part, place_part_made}
use Rattle.tac_lower.proofs.Pointing.{pointer_held, pointer_read, pointer_object, pointer_made}
use Rattle.tac_lower.proofs.Assigning.{given_is, points_there, value_distance, sum_first, sum_second, value_moved}
use Rattle.tac_lower.proofs.Assigning.{value_moved_right, value_displaced, value_displaced_right}
use Rattle.tac_lower.proofs.Assigned.{no_copies, assigns_record, assigned_plain, assigned_own, assigns_variable}
use Rattle.tac_lower.proofs.Assigned.{assigns_object, compounds_variable, compounds_object, steps_are, steps_place}
use Rattle.tac_lower.proofs.Junctions.{effect_choice, effect_guarded, place_effect_choice, effect_comma}
use Rattle.tac_lower.proofs.Junctions.{place_effect_comma}
use Rattle.tac_lower.proofs.Branching.{condition_branch, condition_constant, condition_no_node, condition_opposite}
use Rattle.tac_lower.proofs.Branching.{condition_through, condition_around, value_truth, opposite_of}
use Rattle.tac_lower.proofs.Converting.{value_dropped, value_kept, value_converted, none_is, effect_converted}
use Rattle.tac_lower.proofs.Converting.{place_effect_converted}
use Rattle.tac_lower.proofs.Effects.{effect_no_node, place_effect_no_node, effect_leaf, place_effect_leaf, leaf_of}
use Rattle.tac_lower.proofs.Effects.{worked_of, worked_no_place, place_effect_never, effect_of_value, effect_changed}
use Rattle.tac_lower.proofs.Effects.{effect_called, effect_deref, place_effect_deref, effect_member}
use Rattle.tac_lower.proofs.Effects.{place_effect_member, effect_assigned, place_effect_assigned, effect_unread}
use Rattle.tac_lower.proofs.Effects.{place_effect_unread, place_effect_read, effect_variable, effect_read}
use Rattle.tac_lower.proofs.Wholes.{has_converted, has_compound, whole_load, whole_assign, both_weaker}
use Rattle.tac_lower.proofs.Wholes.{is_node, has_worked}
use Rattle.tac_lower.proofs.Valued.{place_of, never_value, value_changed, value_called}
use Rattle.tac_lower.proofs.Passing.{ArgumentsSo, arguments_start, arguments_step, arguments_end, dropped}
use Rattle.tac_lower.proofs.Callees.{call_named, call_by_value}
use Rattle.tac_lower.proofs.Served.{is_served, call_served, has_length, intrinsic_serves, library_serves}
use Rattle.tac_lower.specs.Callees.{service_as}

pub conditions::condition-returns-in_default : goal.conditions::condition-returns-in_default
conditions::condition-returns-in_default t c =
    record {
      lowered = tail_grew _ _ c.jump_if.result (start c.requires.scene) c.jump_if.ensures.grown c.jump_if.ensures.adds
          (omega arith);
      spends = last_and _ _ _ _ c.jump_if.result nothing c.jump_if.ensures.spent
          (omega (arith, heavy (expression c.args.cx.p.now c.args.k)))
          (omega (arith, heavy (expression c.args.cx.p.now c.args.k)))
          (omega arith);
      is = IfOk-weaker c.jump_if.result _ _ (λ r f. condition_no_node _ c.requires.ordered
          c.requires.scene.ready.ordered
          c.in_default.ensures f) c.jump_if.ensures.emits;
    }

pub conditions::condition-returns-in-Constant : goal.conditions::condition-returns-in-Constant
conditions::condition-returns-in-Constant t c =
    record {
      lowered = tail_grew _ _ c.jump_if-in-Constant.result
          (start c.requires.scene) c.jump_if-in-Constant.ensures.grown c.jump_if-in-Constant.ensures.adds (omega
          arith);
      spends = last_and _ _ _ _ c.jump_if-in-Constant.result nothing c.jump_if-in-Constant.ensures.spent
          (omega (arith, heavy (expression c.args.cx.p.now c.args.k)))
          (omega (arith, heavy (expression c.args.cx.p.now c.args.k)))
          (omega arith);
      is = (let n = node_at c.args.cx.d.now c.requires.scene.ready c.requires.typed c.in-Some.ensures c.in-Constant.is
          in
          IfOk-weaker c.jump_if-in-Constant.result _ _
          (λ r f. condition_constant _ c.requires.ordered c.requires.scene.ready.ordered
          (record { node = _; there = c.in-Some.ensures; is = c.in-Constant.is }) n.is n.fits f)
          c.jump_if-in-Constant.ensures.emits);
    }

pub conditions::condition-opposite_condition-requires : goal.conditions::condition-opposite_condition-requires
conditions::condition-opposite_condition-requires t c =
    let below-0 : c.in-Unary-LogicalNot-default.a < c.args.k =
    below.unary c.args.cx.p.now c.args.k _ _ _ c.requires.ordered c.in-Some.ensures
    c.in-Unary-LogicalNot-default.is in (
      search rules,
      (
        c.requires.ordered,
        (
          below-0,
          (
            c.requires.scene,
            (
              unary_operand (frame_of c.args.cx.p.now c.args.cx.d.now) c.args.k c.in-Unary-LogicalNot-default.a
                  c.in-Unary-LogicalNot-default.field-0 (node_at c.args.cx.d.now c.requires.scene.ready
                  c.requires.typed
                  c.in-Some.ensures c.in-Unary-LogicalNot-default.is),
              (c.requires.open, c.requires.room),
            ),
          ),
        ),
      ),
    )

pub conditions::condition-joined_condition-requires : goal.conditions::condition-joined_condition-requires
conditions::condition-joined_condition-requires t c =
    let below-0 : c.in-And.a < c.args.k =
    below.and_left c.args.cx.p.now c.args.k _ _ _ c.requires.ordered c.in-Some.ensures c.in-And.is in
    let below-1 : c.in-And.b < c.args.k =
    below.and_right c.args.cx.p.now c.args.k _ _ _ c.requires.ordered c.in-Some.ensures c.in-And.is in (
      search rules,
      (
        c.requires.ordered,
        (
          (search rules),
          (
            (search rules),
            (
              c.requires.scene,
              (
                subst (λ (z : Junction).
                    HasTwo (frame_of c.args.cx.p.now c.args.cx.d.now) c.args.k z.a z.b) (sym c.and.ensures)
                    (node_at c.args.cx.d.now c.requires.scene.ready c.requires.typed c.in-Some.ensures
                    c.in-And.is).operands,
                (c.requires.open, less_room c.requires.room (omega arith)),
              ),
            ),
          ),
        ),
      ),
    )

pub conditions::condition-joined_condition-requires-in-Or : goal.conditions::condition-joined_condition-requires-in-Or
conditions::condition-joined_condition-requires-in-Or t c =
    let below-0 : c.in-Or.a < c.args.k =
    below.or_left c.args.cx.p.now c.args.k _ _ _ c.requires.ordered c.in-Some.ensures c.in-Or.is in
    let below-1 : c.in-Or.b < c.args.k =
    below.or_right c.args.cx.p.now c.args.k _ _ _ c.requires.ordered c.in-Some.ensures c.in-Or.is in (
      search rules,
      (
        c.requires.ordered,
        (
          (search rules),
          (
            (search rules),
            (
              c.requires.scene,
              (
                subst (λ (z : Junction).
                    HasTwo (frame_of c.args.cx.p.now c.args.cx.d.now) c.args.k z.a z.b) (sym c.or.ensures)
                    (node_at c.args.cx.d.now c.requires.scene.ready c.requires.typed c.in-Some.ensures
                    c.in-Or.is).operands,
                (c.requires.open, less_room c.requires.room (omega arith)),
              ),
            ),
          ),
        ),
      ),
    )

pub conditions::condition-returns-in-And : goal.conditions::condition-returns-in-And
conditions::condition-returns-in-And t c =
    record {
      lowered = tail _ _ c.joined_condition.result (start c.requires.scene) c.joined_condition.ensures.lowered (omega
          arith);
      spends = last _ _ _ _ c.joined_condition.result nothing c.joined_condition.ensures.spends
          (omega (arith, heavy (expression c.args.cx.p.now c.args.k)))
          (omega (arith, heavy (expression c.args.cx.p.now c.args.k)))
          (omega arith);
      is = (let n = node_at c.args.cx.d.now c.requires.scene.ready c.requires.typed c.in-Some.ensures c.in-And.is in
          IfOk-weaker c.joined_condition.result _ _
          (λ r h. h n.is
          (subst (λ (j : Junction). HasScalar c.args.cx.p.now j.a) (sym c.and.ensures)
          (record { kind = n.left_kind; is = n.left }))
          (subst (λ (j : Junction). HasScalar c.args.cx.p.now j.b) (sym c.and.ensures)
          (record { kind = n.right_kind; is = n.right }))
          (subst (λ (j : Junction). IsNode c.args.cx.p.now c.args.k (joined j.both j.a j.b)) (sym c.and.ensures)
          (record { node = _; there = c.in-Some.ensures; is = c.in-And.is }))) c.joined_condition.ensures.is);
    }

pub conditions::condition-returns-in-Or : goal.conditions::condition-returns-in-Or
conditions::condition-returns-in-Or t c =
    record {
      lowered = tail _ _ c.joined_condition-in-Or.result (start c.requires.scene)
          c.joined_condition-in-Or.ensures.lowered
          (omega arith);
      spends = last _ _ _ _ c.joined_condition-in-Or.result nothing c.joined_condition-in-Or.ensures.spends
          (omega (arith, heavy (expression c.args.cx.p.now c.args.k)))
          (omega (arith, heavy (expression c.args.cx.p.now c.args.k)))
          (omega arith);
      is = (let n = node_at c.args.cx.d.now c.requires.scene.ready c.requires.typed c.in-Some.ensures c.in-Or.is in
          IfOk-weaker c.joined_condition-in-Or.result _ _
          (λ r h. h n.is
          (subst (λ (j : Junction). HasScalar c.args.cx.p.now j.a) (sym c.or.ensures)
          (record { kind = n.left_kind; is = n.left }))
          (subst (λ (j : Junction). HasScalar c.args.cx.p.now j.b) (sym c.or.ensures)
          (record { kind = n.right_kind; is = n.right }))
          (subst (λ (j : Junction). IsNode c.args.cx.p.now c.args.k (joined j.both j.a j.b)) (sym c.or.ensures)
          (record { node = _; there = c.in-Some.ensures; is = c.in-Or.is }))) c.joined_condition-in-Or.ensures.is);
    }

pub conditions::condition-branch-out-requires-clause-open : goal.conditions::condition-branch-out-requires-clause-open
conditions::condition-branch-out-requires-clause-open t c =
    still_open c.requires.open c.in_ok-on-in_default-kind.ensures.lowered

pub conditions::condition-branch-out-requires-clause-temp : goal.conditions::condition-branch-out-requires-clause-temp
conditions::condition-branch-out-requires-clause-temp t c = some_temp c.in_ok-on-in_default-kind.ensures.has

pub conditions::condition-returns-in_ok-on-in_default-kind :
    goal.conditions::condition-returns-in_ok-on-in_default-kind
conditions::condition-returns-in_ok-on-in_default-kind t c =
    record {
      lowered = tail_grew _ _ c.branch-out.result c.in_ok-on-in_default-kind.ensures.lowered c.branch-out.ensures.grown
          c.branch-out.ensures.adds (omega arith);
      spends = last_and _ _ _ _ c.branch-out.result c.in_ok-on-in_default-kind.ensures.spends
          c.branch-out.ensures.spent
          (omega (arith, heavy (expression c.args.cx.p.now c.args.k)))
          (omega (arith, heavy (expression c.args.cx.p.now c.args.k)))
          (omega arith);
      is = IfOk-weaker c.branch-out.result _ _
          (λ r f. condition_branch _ c.requires.ordered c.requires.scene.ready.ordered
          c.in_ok-on-in_default-kind.ensures.has c.in_ok-on-in_default-kind.ensures.is f) c.branch-out.ensures.emits;
    }

pub conditions::opposite_condition-condition-requires : goal.conditions::opposite_condition-condition-requires
conditions::opposite_condition-condition-requires t c = (
  search rules,
  (
    c.requires.ordered,
    (
      c.requires.scene,
      (
        c.requires.node.operand,
        (c.requires.open, less_room c.requires.room (omega (arith, c.requires.node.weight))),
      ),
    ),
  ),
)

pub conditions::opposite_condition-returns : goal.conditions::opposite_condition-returns
conditions::opposite_condition-returns t c =
    record {
      lowered = tail _ _ c.condition.result (start c.requires.scene) c.condition.ensures.lowered
          (omega (arith, c.requires.node.weight));
      spends = last _ _ _ _ c.condition.result nothing c.condition.ensures.spends
          (omega (
            arith,
            c.requires.node.weight,
            heavy (expression c.args.cx.p.now c.args.k),
            heavy (expression c.args.cx.p.now c.args.a),
          ))
          (omega (
            arith,
            c.requires.node.weight,
            heavy (expression c.args.cx.p.now c.args.k),
            heavy (expression c.args.cx.p.now c.args.a),
          ))
          (omega (arith, c.requires.node.copies));
      is = IfOk-weaker c.condition.result _ _
          (λ r h s v n. condition_opposite _ c.requires.ordered c.requires.scene.ready.ordered s v n h)
          c.condition.ensures.is;
    }

pub conditions::joined_condition-condition-requires : goal.conditions::joined_condition-condition-requires
conditions::joined_condition-condition-requires t c = (
  search rules,
  (
    c.requires.ordered,
    (
      c.requires.scene,
      (
        c.requires.node.left,
        (c.requires.open, less_room c.requires.room (omega (arith, c.requires.node.weight))),
      ),
    ),
  ),
)

pub conditions::joined_condition-condition-requires-2 : goal.conditions::joined_condition-condition-requires-2
conditions::joined_condition-condition-requires-2 t c = (
  search rules,
  (
    c.requires.ordered,
    (
      c.in_ok-condition.ensures.lowered.scene,
      (
        c.requires.node.right,
        (
          still_open c.requires.open c.in_ok-condition.ensures.lowered,
          room c.requires.room c.in_ok-condition.ensures.lowered (omega (arith, c.requires.node.weight)),
        ),
      ),
    ),
  ),
)

pub conditions::joined_condition-returns : goal.conditions::joined_condition-returns
conditions::joined_condition-returns t c =
    record {
      lowered = tail _ _ c.condition-2.result c.in_ok-condition.ensures.lowered c.condition-2.ensures.lowered
          (omega (arith, c.requires.node.weight));
      spends = last _ _ _ _ c.condition-2.result c.in_ok-condition.ensures.spends c.condition-2.ensures.spends
          (omega (
            arith,
            c.requires.node.weight,
            heavy (expression c.args.cx.p.now c.args.k),
            heavy (expression c.args.cx.p.now c.args.j.a),
            heavy (expression c.args.cx.p.now c.args.j.b),
          ))
          (omega (
            arith,
            c.requires.node.weight,
            heavy (expression c.args.cx.p.now c.args.k),
            heavy (expression c.args.cx.p.now c.args.j.a),
            heavy (expression c.args.cx.p.now c.args.j.b),
          ))
          (omega (arith, c.requires.node.copies));
      is = (let e = opposite_of c.args.j.both c.args.jump.when c.if-j-jump.false in
          IfOk-weaker c.condition-2.result _ _
          (λ r h s a b n. condition_through _ c.requires.ordered c.requires.scene.ready.ordered _ _ _ a b
          c.args.jump.when s
          (subst (λ z. IsNode c.args.cx.p.now c.args.k (joined z c.args.j.a c.args.j.b)) e n)
          c.in_ok-condition.ensures.is h) c.condition-2.ensures.is);
    }

pub conditions::joined_around-label-requires : goal.conditions::joined_around-label-requires
conditions::joined_around-label-requires t c =
    record { few = (omega (arith, c.requires.node.weight, c.requires.room.labels)) }

pub conditions::joined_around-condition-requires : goal.conditions::joined_around-condition-requires
conditions::joined_around-condition-requires t c = (
  search rules,
  (
    c.requires.ordered,
    (
      (label c.requires.scene c.label.ensures.labelled).scene,
      (
        c.requires.node.left,
        (
          first_open (label c.requires.scene c.label.ensures.labelled),
          opened_room c.requires.room (label c.requires.scene c.label.ensures.labelled)
              (omega (arith, c.requires.node.weight)),
        ),
      ),
    ),
  ),
)

pub conditions::joined_around-condition-requires-2 : goal.conditions::joined_around-condition-requires-2
conditions::joined_around-condition-requires-2 t c = (
  search rules,
  (
    c.requires.ordered,
    (
      c.in_ok-condition.ensures.lowered.scene,
      (
        c.requires.node.right,
        (
          others_open c.requires.open
              (opened (label c.requires.scene c.label.ensures.labelled) c.in_ok-condition.ensures.lowered),
          opened_room c.requires.room (opened (label c.requires.scene c.label.ensures.labelled)
              c.in_ok-condition.ensures.lowered) (omega (arith, c.requires.node.weight)),
        ),
      ),
    ),
  ),
)

pub conditions::joined_around-returns : goal.conditions::joined_around-returns
conditions::joined_around-returns t c =
    record {
      lowered = tail_stands _ c.stand.result (opened (opened
          (label c.requires.scene c.label.ensures.labelled) c.in_ok-condition.ensures.lowered)
          c.in_ok-condition-2.ensures.lowered) c.stand.ensures.stands (omega (arith, c.requires.node.weight));
      spends = last_pushed _ _ c.stand.result (after (after
          (plainly (labelled_spent c.label.ensures.labelled)) c.in_ok-condition.ensures.spends)
          c.in_ok-condition-2.ensures.spends) c.stand.ensures.stands
          (omega (
            arith,
            c.requires.node.weight,
            heavy (expression c.args.cx.p.now c.args.k),
            heavy (expression c.args.cx.p.now c.args.j.a),
            heavy (expression c.args.cx.p.now c.args.j.b),
          ))
          (omega (
            arith,
            c.requires.node.weight,
            heavy (expression c.args.cx.p.now c.args.k),
            heavy (expression c.args.cx.p.now c.args.j.a),
            heavy (expression c.args.cx.p.now c.args.j.b),
          ))
          (omega (arith, c.requires.node.copies)) refl refl;
      is = IfOk-weaker c.stand.result _ _
          (λ r f s a b n. condition_around _ c.requires.ordered c.requires.scene.ready.ordered _ _ _ a b
          c.args.jump.when s
          (subst (λ z. IsNode c.args.cx.p.now c.args.k (joined z c.args.j.a c.args.j.b)) c.requires.around n)
          c.label.ensures.labelled c.in_ok-condition.ensures.is c.in_ok-condition-2.ensures.is (one_emits _ _ _ refl
          f))
          c.stand.ensures.stands;
    }

pub places::pointer-operand-requires : goal.places::pointer-operand-requires
places::pointer-operand-requires t c =
    let below-0 : c.in-Deref.a < c.args.k =
    below.deref c.args.cx.p.now c.args.k _ _ c.requires.ordered c.in-Some.ensures c.in-Deref.is in (
      search rules,
      (
        c.requires.ordered,
        (
          c.requires.scene,
          (
            (node_at c.args.cx.d.now c.requires.scene.ready c.requires.typed c.in-Some.ensures
                c.in-Deref.is).operands.operand,
            less_room c.requires.room (omega (
              arith,
              (node_at c.args.cx.d.now c.requires.scene.ready c.requires.typed c.in-Some.ensures
                  c.in-Deref.is).operands.weight,
            )),
          ),
        ),
      ),
    )

pub places::pointer-returns-in-Deref : goal.places::pointer-returns-in-Deref
places::pointer-returns-in-Deref t c =
    record {
      has = IfOk-weaker c.operand.result _ _ (λ t h. as_kind h
          (scalar_kind (node_at c.args.cx.d.now c.requires.scene.ready c.requires.typed c.in-Some.ensures
          c.in-Deref.is).operand)) c.operand.ensures.has;
      lowered = tail _ _ c.operand.result (start c.requires.scene) c.operand.ensures.lowered
          (omega (
            arith,
            (node_at c.args.cx.d.now c.requires.scene.ready c.requires.typed c.in-Some.ensures
                c.in-Deref.is).operands.weight,
          ));
      spends = last _ _ _ _ c.operand.result nothing c.operand.ensures.spends
          (omega (
            arith,
            (node_at c.args.cx.d.now c.requires.scene.ready c.requires.typed c.in-Some.ensures
                c.in-Deref.is).operands.weight,
            heavy (expression c.args.cx.p.now c.args.k),
            heavy (expression c.args.cx.p.now c.in-Deref.a),
          ))
          (omega (
            arith,
            (node_at c.args.cx.d.now c.requires.scene.ready c.requires.typed c.in-Some.ensures
                c.in-Deref.is).operands.weight,
            heavy (expression c.args.cx.p.now c.args.k),
            heavy (expression c.args.cx.p.now c.in-Deref.a),
          ))
          (omega (
            arith,
            (node_at c.args.cx.d.now c.requires.scene.ready c.requires.typed c.in-Some.ensures
                c.in-Deref.is).operands.copies,
          ));
      is = IfOk-weaker c.operand.result _ _
          (λ v h. pointer_held _ c.requires.ordered c.requires.scene.ready.ordered c.args.cx.d.now c.args.later
          (record { node = _; there = c.in-Some.ensures; is = c.in-Deref.is })
          (node_at c.args.cx.d.now c.requires.scene.ready c.requires.typed c.in-Some.ensures c.in-Deref.is) h)
          c.operand.ensures.is;
    }

pub places::pointer-pointer-requires : goal.places::pointer-pointer-requires
places::pointer-pointer-requires t c =
    let below-0 : c.in-Load.a < c.args.k =
    below.load c.args.cx.p.now c.args.k _ _ c.requires.ordered c.in-Some.ensures c.in-Load.is in (
      search rules,
      (
        c.requires.ordered,
        (
          c.requires.scene,
          (
            (node_at c.args.cx.d.now c.requires.scene.ready c.requires.typed c.in-Some.ensures
                c.in-Load.is).operands.operand,
            less_room c.requires.room (omega (
              arith,
              (node_at c.args.cx.d.now c.requires.scene.ready c.requires.typed c.in-Some.ensures
                  c.in-Load.is).operands.weight,
            )),
          ),
        ),
      ),
    )

pub places::pointer-returns-in-Load : goal.places::pointer-returns-in-Load
places::pointer-returns-in-Load t c =
    record {
      has = search rules;
      lowered = tail _ _ c.pointer.result (start c.requires.scene) c.pointer.ensures.lowered
          (omega (
            arith,
            (node_at c.args.cx.d.now c.requires.scene.ready c.requires.typed c.in-Some.ensures
                c.in-Load.is).operands.weight,
          ));
      spends = last _ _ _ _ c.pointer.result nothing c.pointer.ensures.spends
          (omega (
            arith,
            (node_at c.args.cx.d.now c.requires.scene.ready c.requires.typed c.in-Some.ensures
                c.in-Load.is).operands.weight,
            heavy (expression c.args.cx.p.now c.args.k),
            heavy (expression c.args.cx.p.now c.in-Load.a),
          ))
          (omega (
            arith,
            (node_at c.args.cx.d.now c.requires.scene.ready c.requires.typed c.in-Some.ensures
                c.in-Load.is).operands.weight,
            heavy (expression c.args.cx.p.now c.args.k),
            heavy (expression c.args.cx.p.now c.in-Load.a),
          ))
          (omega (
            arith,
            (node_at c.args.cx.d.now c.requires.scene.ready c.requires.typed c.in-Some.ensures
                c.in-Load.is).operands.copies,
          ));
      is = (let n = node_at c.args.cx.d.now c.requires.scene.ready c.requires.typed c.in-Some.ensures c.in-Load.is in
          IfOk-weaker c.pointer.result _ _
          (λ v h. pointer_read _ c.requires.ordered c.requires.scene.ready.ordered _ c.args.later
          (below_load c.args.cx.p.now c.args.k _ c.in-Load.a c.requires.ordered c.in-Some.ensures c.in-Load.is)
          n.operands.operand
          (loads (frame_of c.args.cx.p.now c.args.cx.d.now) c.requires.scene.ready.ordered c.args.k _ c.in-Some.ensures
          c.requires.typed c.in-Load.a c.in-Load.is)
          (record { node = _; there = c.in-Some.ensures; is = c.in-Load.is }) h) c.pointer.ensures.is);
    }

pub places::pointer-returns-in-Some-pointer_to_variable : goal.places::pointer-returns-in-Some-pointer_to_variable
places::pointer-returns-in-Some-pointer_to_variable t c =
    record {
      has = c.in-Some-pointer_to_variable.ensures.has _ _ c.requires.scene.housed;
      lowered = at_most (start c.requires.scene) (omega arith);
      spends = within nothing (omega (arith, heavy (expression c.args.cx.p.now c.args.k)))
          (omega (arith, heavy (expression c.args.cx.p.now c.args.k)))
          (omega arith);
      is = pointer_object _ c.requires.ordered c.requires.scene.ready.ordered c.args.later _
          (record { node = _; there = c.in-Some.ensures; is = c.in-Var.is })
          c.in-Some-pointer_to_variable.ensures.stands.1;
    }

pub places::fresh_place-temp-requires : goal.places::fresh_place-temp-requires
places::fresh_place-temp-requires t c =
    record { room = less_room c.requires.room (omega (arith, heavy (expression c.args.cx.p.now c.args.k))) }

pub places::fresh_place-place-requires : goal.places::fresh_place-place-requires
places::fresh_place-place-requires t c = (
  search rules,
  (
    c.requires.ordered,
    (
      (grew (start c.requires.scene) c.in_ok-t.ensures.grown c.in_ok-t.ensures.adds).scene,
      (
        c.requires.typed,
        (
          (search rules),
          room c.requires.room (grew (start c.requires.scene) c.in_ok-t.ensures.grown c.in_ok-t.ensures.adds)
              (omega (arith, heavy (expression c.args.cx.p.now c.args.k))),
        ),
      ),
    ),
  ),
)

pub places::fresh_place-returns : goal.places::fresh_place-returns
places::fresh_place-returns t c =
    record {
      has = still c.in_ok-t.ensures.has c.in_ok-place.ensures.lowered;
      lowered = at_most (both (grew (start c.requires.scene) c.in_ok-t.ensures.grown c.in_ok-t.ensures.adds)
          c.in_ok-place.ensures.lowered) (omega (arith, heavy (expression c.args.cx.p.now c.args.k)));
      spends = within (after (and nothing c.in_ok-t.ensures.spent) c.in_ok-place.ensures.spends)
          (omega (arith, heavy (expression c.args.cx.p.now c.args.k), heavy (expression c.args.cx.p.now c.args.k)))
          (omega (arith, heavy (expression c.args.cx.p.now c.args.k), heavy (expression c.args.cx.p.now c.args.k)))
          (omega arith);
      is = (λ later.
          pointer_made _ c.requires.ordered c.requires.scene.ready.ordered later c.in_ok-t.ensures.next
          c.in_ok-t.ensures.emits c.in_ok-place.ensures.is);
    }

pub places::place-returns-in_default : goal.places::place-returns-in_default
places::place-returns-in_default t c =
    record {
      lowered = tail_grew _ _ c.constant.result (start c.requires.scene) c.constant.ensures.grown
          c.constant.ensures.adds
          (omega arith);
      spends = last_and _ _ _ _ c.constant.result nothing (c.constant.ensures.short refl)
          (omega (arith, heavy (expression c.args.cx.p.now c.args.k)))
          (omega (arith, heavy (expression c.args.cx.p.now c.args.k)))
          (omega arith);
      is = IfOk-weaker c.constant.result _ _
          (λ r f. no_place _ c.requires.ordered c.requires.scene.ready.ordered
          (none_place (setting c.args.cx) c.requires.ordered c.requires.scene.ready.ordered c.args.k
          c.in_default.ensures) f)
          c.constant.ensures.emits;
    }

pub places::place-returns-in-Var : goal.places::place-returns-in-Var
places::place-returns-in-Var t c =
    record {
      lowered = tail _ _ c.variable_pointer.result (start c.requires.scene) c.variable_pointer.ensures.lowered (omega
          arith);
      spends = last_and _ _ _ _ c.variable_pointer.result nothing c.variable_pointer.ensures.spent
          (omega (arith, heavy (expression c.args.cx.p.now c.args.k)))
          (omega (arith, heavy (expression c.args.cx.p.now c.args.k)))
          (omega arith);
      is = IfOk-weaker c.variable_pointer.result _ _
          (λ r h. h _ (record { node = _; there = c.in-Some.ensures; is = c.in-Var.is })
          (node_at c.args.cx.d.now c.requires.scene.ready c.requires.typed c.in-Some.ensures c.in-Var.is))
          c.variable_pointer.ensures.is;
    }

pub places::place-returns-in-Global : goal.places::place-returns-in-Global
places::place-returns-in-Global t c =
    record {
      lowered = tail_part _ c.global.result (instr.Global c.args.to c.in-Global.g false) (start c.requires.scene) (
        c.requires.to,
        (node_at c.args.cx.d.now c.requires.scene.ready c.requires.typed c.in-Some.ensures
            c.in-Global.is).there,
      ) c.global.ensures.pushed (omega arith);
      spends = last_pushed _ (instr.Global c.args.to c.in-Global.g false) c.global.result nothing
          c.global.ensures.pushed
          (omega (arith, heavy (expression c.args.cx.p.now c.args.k), extra_small c.args.cx.fixed (Some c.args.to)))
          (omega (arith, heavy (expression c.args.cx.p.now c.args.k), extra_small c.args.cx.fixed (Some c.args.to)))
          (omega arith) refl refl;
      is = IfOk-weaker c.global.result _ _
          (λ r h. place_named _ c.requires.ordered c.requires.scene.ready.ordered
          (record { node = _; there = c.in-Some.ensures; is = c.in-Global.is })
          (λ g kinds m. place_global) (one_emits _ _ _ refl h)) c.global.ensures.pushed;
    }

pub places::place-returns-in-Literal : goal.places::place-returns-in-Literal
places::place-returns-in-Literal t c =
    record {
      lowered = tail_part _ c.global-in-Literal.result (instr.Global c.args.to c.in-Literal.n true) (start
          c.requires.scene) (
            c.requires.to,
            (node_at c.args.cx.d.now c.requires.scene.ready c.requires.typed c.in-Some.ensures
                c.in-Literal.is).there,
          ) c.global-in-Literal.ensures.pushed (omega arith);
      spends = last_pushed _ (instr.Global c.args.to c.in-Literal.n true) c.global-in-Literal.result nothing
          c.global-in-Literal.ensures.pushed (omega
          (arith, heavy (expression c.args.cx.p.now c.args.k), extra_small c.args.cx.fixed (Some c.args.to)))
          (omega (arith, heavy (expression c.args.cx.p.now c.args.k), extra_small c.args.cx.fixed (Some c.args.to)))
          (omega arith) refl refl;
      is = IfOk-weaker c.global-in-Literal.result _ _
          (λ r h. place_named _ c.requires.ordered c.requires.scene.ready.ordered
          (record { node = _; there = c.in-Some.ensures; is = c.in-Literal.is })
          (λ g kinds m. place_literal) (one_emits _ _ _ refl h)) c.global-in-Literal.ensures.pushed;
    }

pub places::place-returns-in-Fun : goal.places::place-returns-in-Fun
places::place-returns-in-Fun t c =
    record {
      lowered = tail_part _ c.function.result (instr.Function c.args.to c.in-Fun.f) (start c.requires.scene) (
        c.requires.to,
        slice_get_within _ _ _ (node_at c.args.cx.d.now c.requires.scene.ready c.requires.typed
            c.in-Some.ensures c.in-Fun.is).there,
      ) c.function.ensures.pushed (omega arith);
      spends = last_pushed _ (instr.Function c.args.to c.in-Fun.f) c.function.result nothing c.function.ensures.pushed
          (omega (arith, heavy (expression c.args.cx.p.now c.args.k), extra_small c.args.cx.fixed (Some c.args.to)))
          (omega (arith, heavy (expression c.args.cx.p.now c.args.k), extra_small c.args.cx.fixed (Some c.args.to)))
          (omega arith) refl refl;
      is = IfOk-weaker c.function.result _ _
          (λ r h. place_named _ c.requires.ordered c.requires.scene.ready.ordered
          (record { node = _; there = c.in-Some.ensures; is = c.in-Fun.is })
          (λ g kinds m. place_function) (one_emits _ _ _ refl h)) c.function.ensures.pushed;
    }

pub places::place-value-requires : goal.places::place-value-requires
places::place-value-requires t c =
    let below-0 : c.in-Deref.a < c.args.k =
    below.deref c.args.cx.p.now c.args.k _ _ c.requires.ordered c.in-Some.ensures c.in-Deref.is in (
      search rules,
      (
        c.requires.ordered,
        (
          c.requires.scene,
          (
            (node_at c.args.cx.d.now c.requires.scene.ready c.requires.typed c.in-Some.ensures
                c.in-Deref.is).operands.operand,
            (
              as_kind c.requires.to (sym (scalar_kind
                  (node_at c.args.cx.d.now c.requires.scene.ready c.requires.typed c.in-Some.ensures
                  c.in-Deref.is).operand)),
              less_room c.requires.room (omega (
                arith,
                (node_at c.args.cx.d.now c.requires.scene.ready c.requires.typed c.in-Some.ensures
                    c.in-Deref.is).operands.weight,
              )),
            ),
          ),
        ),
      ),
    )

pub places::place-returns-in-Deref : goal.places::place-returns-in-Deref
places::place-returns-in-Deref t c =
    record {
      lowered = tail _ _ c.value.result (start c.requires.scene) c.value.ensures.lowered
          (omega (
            arith,
            (node_at c.args.cx.d.now c.requires.scene.ready c.requires.typed c.in-Some.ensures
                c.in-Deref.is).operands.weight,
          ));
      spends = last _ _ _ _ c.value.result nothing c.value.ensures.spends
          (omega (
            arith,
            (node_at c.args.cx.d.now c.requires.scene.ready c.requires.typed c.in-Some.ensures
                c.in-Deref.is).operands.weight,
            heavy (expression c.args.cx.p.now c.args.k),
            heavy (expression c.args.cx.p.now c.in-Deref.a),
            extra_small c.args.cx.fixed (Some c.args.to),
          ))
          (omega (
            arith,
            (node_at c.args.cx.d.now c.requires.scene.ready c.requires.typed c.in-Some.ensures
                c.in-Deref.is).operands.weight,
            heavy (expression c.args.cx.p.now c.args.k),
            heavy (expression c.args.cx.p.now c.in-Deref.a),
            extra_small c.args.cx.fixed (Some c.args.to),
          ))
          (omega (
            arith,
            (node_at c.args.cx.d.now c.requires.scene.ready c.requires.typed c.in-Some.ensures
                c.in-Deref.is).operands.copies,
          ));
      is = IfOk-weaker c.value.result _ _
          (λ r h. place_pointed _ c.requires.ordered c.requires.scene.ready.ordered c.args.cx.d.now
          (record { node = _; there = c.in-Some.ensures; is = c.in-Deref.is })
          (node_at c.args.cx.d.now c.requires.scene.ready c.requires.typed c.in-Some.ensures c.in-Deref.is) h)
          c.value.ensures.is;
    }

pub places::place-member-requires : goal.places::place-member-requires
places::place-member-requires t c =
    let below-0 : c.in-Member.a < c.args.k =
    below.member c.args.cx.p.now c.args.k _ _ _ c.requires.ordered c.in-Some.ensures c.in-Member.is in (
      search rules,
      (
        c.requires.ordered,
        (
          below-0,
          (
            c.requires.scene,
            (
              (node_at c.args.cx.d.now c.requires.scene.ready c.requires.typed c.in-Some.ensures c.in-Member.is),
              (c.requires.to, c.requires.room),
            ),
          ),
        ),
      ),
    )

pub places::place-place-requires : goal.places::place-place-requires
places::place-place-requires t c =
    let below-0 : c.in-Load.a < c.args.k =
    below.load c.args.cx.p.now c.args.k _ _ c.requires.ordered c.in-Some.ensures c.in-Load.is in (
      search rules,
      (
        c.requires.ordered,
        (
          c.requires.scene,
          (
            (node_at c.args.cx.d.now c.requires.scene.ready c.requires.typed c.in-Some.ensures
                c.in-Load.is).operands.operand,
            (
              c.requires.to,
              less_room c.requires.room
                  (omega (
                    arith,
                    (node_at c.args.cx.d.now c.requires.scene.ready c.requires.typed c.in-Some.ensures
                        c.in-Load.is).operands.weight,
                  )),
            ),
          ),
        ),
      ),
    )

pub places::place-returns-in-Load : goal.places::place-returns-in-Load
places::place-returns-in-Load t c =
    record {
      lowered = tail _ _ c.place.result (start c.requires.scene) c.place.ensures.lowered
          (omega (
            arith,
            (node_at c.args.cx.d.now c.requires.scene.ready c.requires.typed c.in-Some.ensures
                c.in-Load.is).operands.weight,
          ));
      spends = last _ _ _ _ c.place.result nothing c.place.ensures.spends
          (omega (
            arith,
            (node_at c.args.cx.d.now c.requires.scene.ready c.requires.typed c.in-Some.ensures
                c.in-Load.is).operands.weight,
            heavy (expression c.args.cx.p.now c.args.k),
            heavy (expression c.args.cx.p.now c.in-Load.a),
            extra_small c.args.cx.fixed (Some c.args.to),
          ))
          (omega (
            arith,
            (node_at c.args.cx.d.now c.requires.scene.ready c.requires.typed c.in-Some.ensures
                c.in-Load.is).operands.weight,
            heavy (expression c.args.cx.p.now c.args.k),
            heavy (expression c.args.cx.p.now c.in-Load.a),
            extra_small c.args.cx.fixed (Some c.args.to),
          ))
          (omega (
            arith,
            (node_at c.args.cx.d.now c.requires.scene.ready c.requires.typed c.in-Some.ensures
                c.in-Load.is).operands.copies,
          ));
      is = (let n = node_at c.args.cx.d.now c.requires.scene.ready c.requires.typed c.in-Some.ensures c.in-Load.is in
          IfOk-weaker c.place.result _ _
          (λ v h. place_read _ c.requires.ordered c.requires.scene.ready.ordered _
          (below_load c.args.cx.p.now c.args.k _ c.in-Load.a c.requires.ordered c.in-Some.ensures c.in-Load.is)
          n.operands.operand
          (loads (frame_of c.args.cx.p.now c.args.cx.d.now) c.requires.scene.ready.ordered c.args.k _ c.in-Some.ensures
          c.requires.typed c.in-Load.a c.in-Load.is)
          (record { node = _; there = c.in-Some.ensures; is = c.in-Load.is }) h) c.place.ensures.is);
    }

pub places::place-place_behind-requires : goal.places::place-place_behind-requires
places::place-place_behind-requires t c =
    let below-0 : c.in-Comma.a < c.args.k =
    below.comma_left c.args.cx.p.now c.args.k _ _ _ c.requires.ordered c.in-Some.ensures c.in-Comma.is in
    let below-1 : c.in-Comma.b < c.args.k =
    below.comma_right c.args.cx.p.now c.args.k _ _ _ c.requires.ordered c.in-Some.ensures c.in-Comma.is in (
      search rules,
      (
        c.requires.ordered,
        (
          below-0,
          (
            below-1,
            (
              c.requires.scene,
              (
                (node_at c.args.cx.d.now c.requires.scene.ready c.requires.typed c.in-Some.ensures
                    c.in-Comma.is).operands,
                (c.requires.to, c.requires.room),
              ),
            ),
          ),
        ),
      ),
    )

pub places::place-place_choice-requires : goal.places::place-place_choice-requires
places::place-place_choice-requires t c =
    let below-0 : c.in-Conditional.c < c.args.k =
    below.conditional_test c.args.cx.p.now c.args.k _ _ _ _ c.requires.ordered c.in-Some.ensures
    c.in-Conditional.is in
    let below-1 : c.in-Conditional.a < c.args.k =
    below.conditional_left c.args.cx.p.now c.args.k _ _ _ _ c.requires.ordered c.in-Some.ensures
    c.in-Conditional.is in
    let below-2 : c.in-Conditional.b < c.args.k =
    below.conditional_right c.args.cx.p.now c.args.k _ _ _ _ c.requires.ordered c.in-Some.ensures
    c.in-Conditional.is in (
      search rules,
      (
        c.requires.ordered,
        (
          below-0,
          (
            below-1,
            (
              below-2,
              (
                c.requires.scene,
                (
                  (node_at c.args.cx.d.now c.requires.scene.ready c.requires.typed c.in-Some.ensures
                      c.in-Conditional.is).operands,
                  (c.requires.to, c.requires.room),
                ),
              ),
            ),
          ),
        ),
      ),
    )

pub places::place-struct_assignment-requires : goal.places::place-struct_assignment-requires
places::place-struct_assignment-requires t c =
    let below-0 : c.in-Assign.a < c.args.k =
    below.assign_left c.args.cx.p.now c.args.k _ _ _ c.requires.ordered c.in-Some.ensures c.in-Assign.is in
    let below-1 : c.in-Assign.b < c.args.k =
    below.assign_right c.args.cx.p.now c.args.k _ _ _ c.requires.ordered c.in-Some.ensures c.in-Assign.is in (
      search rules,
      (
        c.requires.ordered,
        (
          below-0,
          (
            below-1,
            (
              c.requires.scene,
              (
                node_at c.args.cx.d.now c.requires.scene.ready c.requires.typed c.in-Some.ensures c.in-Assign.is,
                c.requires.room,
              ),
            ),
          ),
        ),
      ),
    )

pub places::place-transfer-requires : goal.places::place-transfer-requires
places::place-transfer-requires t c =
    record {
      same = two_values (still c.requires.to c.in_ok-t-in-Assign.ensures.lowered) c.in_ok-t-in-Assign.ensures.has;
    }

pub places::place-returns-in_ok-t-in-Assign : goal.places::place-returns-in_ok-t-in-Assign
places::place-returns-in_ok-t-in-Assign t c =
    record {
      lowered = tail_grew _ _ c.transfer.result c.in_ok-t-in-Assign.ensures.lowered c.transfer.ensures.grown
          c.transfer.ensures.adds
          (omega arith);
      spends = last_and _ _ _ _ c.transfer.result c.in_ok-t-in-Assign.ensures.spends c.transfer.ensures.spent
          (omega (
            arith,
            heavy (expression c.args.cx.p.now c.args.k),
            heavy (expression c.args.cx.p.now c.in-Assign.a),
            heavy (expression c.args.cx.p.now c.in-Assign.b),
            extra_small c.args.cx.fixed (Some c.args.to),
          ))
          (omega (
            arith,
            heavy (expression c.args.cx.p.now c.args.k),
            heavy (expression c.args.cx.p.now c.in-Assign.a),
            heavy (expression c.args.cx.p.now c.in-Assign.b),
            extra_small c.args.cx.fixed (Some c.args.to),
          ))
          (omega arith);
      is = IfOk-weaker c.transfer.result _ _
          (λ r f. place_stored _ c.requires.ordered c.requires.scene.ready.ordered
          (c.in_ok-t-in-Assign.ensures.is (record { node = _; there = c.in-Some.ensures; is = c.in-Assign.is })) f)
          c.transfer.ensures.emits;
    }

pub places::place-returns-in_default-kind : goal.places::place-returns-in_default-kind
places::place-returns-in_default-kind t c =
    record {
      lowered = tail_grew _ _ c.constant-in_default-kind.result
          (start c.requires.scene) c.constant-in_default-kind.ensures.grown c.constant-in_default-kind.ensures.adds
          (omega arith);
      spends = last_and _ _ _ _ c.constant-in_default-kind.result nothing (c.constant-in_default-kind.ensures.short
          refl)
          (omega (arith, heavy (expression c.args.cx.p.now c.args.k)))
          (omega (arith, heavy (expression c.args.cx.p.now c.args.k)))
          (omega arith);
      is = (let s = setting c.args.cx in
          let r = c.requires.scene.ready.ordered in
          let i = c.in_default-kind in
          let other = another s c.requires.ordered r c.in-Some.e.now.kind i.not-Literal i.not-Var i.not-Global
          i.not-Fun
          i.not-Load i.not-Deref i.not-Member i.not-Conditional i.not-Comma i.not-Assign in
          IfOk-weaker c.constant-in_default-kind.result _ _
          (λ r f. no_place _ c.requires.ordered c.requires.scene.ready.ordered
          (never_place s c.requires.ordered c.requires.scene.ready.ordered _ c.in-Some.e.now.kind
          c.requires.typed (record { node = _; there = c.in-Some.ensures; is = refl }) other) f)
          c.constant-in_default-kind.ensures.emits);
    }

pub places::place_behind-effect-requires : goal.places::place_behind-effect-requires
places::place_behind-effect-requires t c = (
  search rules,
  (
    c.requires.ordered,
    (
      c.requires.scene,
      (
        c.requires.node.left,
        less_room c.requires.room (omega (arith, c.requires.node.weight)),
      ),
    ),
  ),
)

pub places::place_behind-place-requires : goal.places::place_behind-place-requires
places::place_behind-place-requires t c = (
  search rules,
  (
    c.requires.ordered,
    (
      c.in_ok-effect.ensures.lowered.scene,
      (
        c.requires.node.right,
        (
          still c.requires.to c.in_ok-effect.ensures.lowered,
          room c.requires.room c.in_ok-effect.ensures.lowered (omega (arith, c.requires.node.weight)),
        ),
      ),
    ),
  ),
)

pub places::place_behind-returns : goal.places::place_behind-returns
places::place_behind-returns t c =
    record {
      lowered = tail _ _ c.place.result c.in_ok-effect.ensures.lowered c.place.ensures.lowered
          (omega (arith, c.requires.node.weight));
      spends = last _ _ _ _ c.place.result c.in_ok-effect.ensures.spends c.place.ensures.spends
          (omega (
            arith,
            c.requires.node.weight,
            heavy (expression c.args.cx.p.now c.args.k),
            heavy (expression c.args.cx.p.now c.args.a),
            heavy (expression c.args.cx.p.now c.args.b),
            extra_small c.args.cx.fixed (Some c.args.to),
          ))
          (omega (
            arith,
            c.requires.node.weight,
            heavy (expression c.args.cx.p.now c.args.k),
            heavy (expression c.args.cx.p.now c.args.a),
            heavy (expression c.args.cx.p.now c.args.b),
            extra_small c.args.cx.fixed (Some c.args.to),
          ))
          (omega (arith, c.requires.node.copies));
      is = IfOk-weaker c.place.result _ _
          (λ r h n. place_comma _ c.requires.ordered c.requires.scene.ready.ordered _ c.requires.node.right n
          c.in_ok-effect.ensures.is h) c.place.ensures.is;
    }

pub places::place_choice-fork-fork-requires : goal.places::place_choice-fork-fork-requires
places::place_choice-fork-fork-requires t c =
    record { few = (omega (arith, c.requires.node.weight, c.requires.room.labels)) }

pub places::place_choice-condition-requires : goal.places::place_choice-condition-requires
places::place_choice-condition-requires t c = (
  search rules,
  (
    c.requires.ordered,
    (
      (fork c.requires.scene c.fork-fork.ensures.forked).scene,
      (
        c.requires.node.first,
        (
          second_open (fork c.requires.scene c.fork-fork.ensures.forked),
          opened_room c.requires.room (fork c.requires.scene c.fork-fork.ensures.forked)
              (omega (arith, c.requires.node.weight)),
        ),
      ),
    ),
  ),
)

pub places::place_choice-place-requires : goal.places::place_choice-place-requires
places::place_choice-place-requires t c = (
  search rules,
  (
    c.requires.ordered,
    (
      c.in_ok-condition.ensures.lowered.scene,
      (
        c.requires.node.second,
        (
          opened_has c.requires.to
              (opened (fork c.requires.scene c.fork-fork.ensures.forked) c.in_ok-condition.ensures.lowered),
          opened_room c.requires.room (opened (fork c.requires.scene c.fork-fork.ensures.forked)
              c.in_ok-condition.ensures.lowered) (omega (arith, c.requires.node.weight)),
        ),
      ),
    ),
  ),
)

pub places::place_choice-turn_fork-requires : goal.places::place_choice-turn_fork-requires
places::place_choice-turn_fork-requires t c =
    record {
      end = first_open (opened (opened
          (fork c.requires.scene c.fork-fork.ensures.forked) c.in_ok-condition.ensures.lowered)
          c.in_ok-place.ensures.lowered);
    }

pub places::place_choice-place-requires-2 : goal.places::place_choice-place-requires-2
places::place_choice-place-requires-2 t c = (
  search rules,
  (
    c.requires.ordered,
    (
      (turned (opened (opened (fork c.requires.scene c.fork-fork.ensures.forked)
          c.in_ok-condition.ensures.lowered) c.in_ok-place.ensures.lowered) c.in_ok-turn_fork.ensures.turned
          c.in_ok-turn_fork.ensures.adds).scene,
      (
        c.requires.node.third,
        (
          opened_has c.requires.to
              (turned (opened (opened (fork c.requires.scene c.fork-fork.ensures.forked)
              c.in_ok-condition.ensures.lowered) c.in_ok-place.ensures.lowered) c.in_ok-turn_fork.ensures.turned
              c.in_ok-turn_fork.ensures.adds),
          opened_room c.requires.room (turned (opened
              (opened (fork c.requires.scene c.fork-fork.ensures.forked) c.in_ok-condition.ensures.lowered)
              c.in_ok-place.ensures.lowered) c.in_ok-turn_fork.ensures.turned c.in_ok-turn_fork.ensures.adds)
              (omega (arith, c.requires.node.weight)),
        ),
      ),
    ),
  ),
)

pub places::place_choice-returns : goal.places::place_choice-returns
places::place_choice-returns t c =
    record {
      lowered = tail_stands _ c.join_fork.result (opened (turned
          (opened (opened (fork c.requires.scene c.fork-fork.ensures.forked) c.in_ok-condition.ensures.lowered)
          c.in_ok-place.ensures.lowered) c.in_ok-turn_fork.ensures.turned c.in_ok-turn_fork.ensures.adds)
          c.in_ok-place-2.ensures.lowered) c.join_fork.ensures.stands (omega (arith, c.requires.node.weight));
      spends = last_pushed _ _ c.join_fork.result (after
          (and (after (after (plainly (forked_spent c.fork-fork.ensures.forked)) c.in_ok-condition.ensures.spends)
          c.in_ok-place.ensures.spends) c.in_ok-turn_fork.ensures.spent) c.in_ok-place-2.ensures.spends)
          c.join_fork.ensures.stands (omega (
            arith,
            c.requires.node.weight,
            heavy (expression c.args.cx.p.now c.args.k),
            heavy (expression c.args.cx.p.now c.args.c),
            heavy (expression c.args.cx.p.now c.args.a),
            heavy (expression c.args.cx.p.now c.args.b),
            extra_small c.args.cx.fixed (Some c.args.to),
          ))
          (omega (
            arith,
            c.requires.node.weight,
            heavy (expression c.args.cx.p.now c.args.k),
            heavy (expression c.args.cx.p.now c.args.c),
            heavy (expression c.args.cx.p.now c.args.a),
            heavy (expression c.args.cx.p.now c.args.b),
            extra_small c.args.cx.fixed (Some c.args.to),
          ))
          (omega (arith, c.requires.node.copies)) refl refl;
      is = IfOk-weaker c.join_fork.result _ _
          (λ r f scalar n. place_chosen _ c.requires.ordered c.requires.scene.ready.ordered _ c.requires.node.second
          c.requires.node.third n scalar c.fork-fork.ensures.forked c.in_ok-condition.ensures.is
          c.in_ok-place.ensures.is
          c.in_ok-turn_fork.ensures.emits c.in_ok-place-2.ensures.is (one_emits _ _ _ refl f))
          c.join_fork.ensures.stands;
    }

pub places::member-offset-requires-clause-same : goal.places::member-offset-requires-clause-same
places::member-offset-requires-clause-same t c =
    two_pointers c.requires.to (c.in-Some.ensures.has _ c.requires.scene.housed)

pub places::member-returns-in-Some : goal.places::member-returns-in-Some
places::member-returns-in-Some t c =
    record {
      lowered = tail_grew _ _ c.offset.result (start c.requires.scene) c.offset.ensures.grown c.offset.ensures.adds
          (omega arith);
      spends = last_and _ _ _ _ c.offset.result nothing c.offset.ensures.spent
          (omega (arith, c.requires.node.weight, heavy (expression c.args.cx.p.now c.args.a)))
          (omega (arith, c.requires.node.weight, heavy (expression c.args.cx.p.now c.args.a)))
          (omega (arith, c.requires.node.copies));
      is = IfOk-weaker c.offset.result _ _
          (λ r f n. place_part _ c.requires.ordered c.requires.scene.ready.ordered n
          c.member_offset.ensures c.in-Some.ensures.is f) c.offset.ensures.emits;
    }

pub places::member-place-requires : goal.places::member-place-requires
places::member-place-requires t c = (
  search rules,
  (
    c.requires.ordered,
    (
      c.requires.scene,
      (
        c.requires.node.operand,
        (c.requires.to, less_room c.requires.room (omega (arith, c.requires.node.weight))),
      ),
    ),
  ),
)

pub places::member-offset-requires-in-None-clause-same : goal.places::member-offset-requires-in-None-clause-same
places::member-offset-requires-in-None-clause-same t c =
    two_pointers (still c.requires.to c.in_ok-place-in-None.ensures.lowered)
    (still c.requires.to c.in_ok-place-in-None.ensures.lowered)

pub places::member-returns-in_ok-place-in-None : goal.places::member-returns-in_ok-place-in-None
places::member-returns-in_ok-place-in-None t c =
    record {
      lowered = tail_grew _ _ c.offset-in-None.result c.in_ok-place-in-None.ensures.lowered
          c.offset-in-None.ensures.grown
          c.offset-in-None.ensures.adds (omega (arith, c.requires.node.weight));
      spends = last_and _ _ _ _ c.offset-in-None.result c.in_ok-place-in-None.ensures.spends
          c.offset-in-None.ensures.spent
          (omega (
            arith,
            c.requires.node.weight,
            heavy (expression c.args.cx.p.now c.args.k),
            heavy (expression c.args.cx.p.now c.args.a),
            extra_small c.args.cx.fixed (Some c.args.to),
          ))
          (omega (
            arith,
            c.requires.node.weight,
            heavy (expression c.args.cx.p.now c.args.k),
            heavy (expression c.args.cx.p.now c.args.a),
            extra_small c.args.cx.fixed (Some c.args.to),
          ))
          (omega (arith, c.requires.node.copies));
      is = IfOk-weaker c.offset-in-None.result _ _
          (λ r f n. place_part_made _ c.requires.ordered c.requires.scene.ready.ordered _ c.requires.node.operand n
          c.member_offset.ensures c.in_ok-place-in-None.ensures.is f) c.offset-in-None.ensures.emits;
    }

pub places::address-place-requires : goal.places::address-place-requires
places::address-place-requires t c = (
  search rules,
  (
    c.requires.ordered,
    (
      c.requires.scene,
      (
        c.requires.node.operands.operand,
        (
          (as_kind c.requires.to (scalar_kind c.requires.node.is)),
          less_room c.requires.room (omega (arith, c.requires.node.operands.weight)),
        ),
      ),
    ),
  ),
)

pub places::address-returns-in-None : goal.places::address-returns-in-None
places::address-returns-in-None t c =
    record {
      lowered = at_most c.in_ok-place.ensures.lowered (omega (arith, c.requires.node.operands.weight));
      spends = within c.in_ok-place.ensures.spends (omega (
        arith,
        c.requires.node.operands.weight,
        heavy (expression c.args.cx.p.now c.args.k),
        heavy (expression c.args.cx.p.now c.args.a),
        extra_small c.args.cx.fixed (Some c.args.to),
      ))
          (omega (
            arith,
            c.requires.node.operands.weight,
            heavy (expression c.args.cx.p.now c.args.k),
            heavy (expression c.args.cx.p.now c.args.a),
            extra_small c.args.cx.fixed (Some c.args.to),
          ))
          (omega (arith, c.requires.node.operands.copies));
      is = (λ at.
          value_pointer _ c.requires.ordered c.requires.scene.ready.ordered c.args.cx.d.now c.requires.node
          (c.in-None.ensures c.args.cx.d.now.vars c.requires.scene.ready) at c.in_ok-place.ensures.is);
    }

pub places::address-narrow_to_member-requires : goal.places::address-narrow_to_member-requires
places::address-narrow_to_member-requires t c = record {
  same = two_pointers (still (as_kind c.requires.to (scalar_kind c.requires.node.is)) c.in_ok-place.ensures.lowered)
      (still (as_kind c.requires.to (scalar_kind c.requires.node.is)) c.in_ok-place.ensures.lowered);
}

pub places::address-returns-in-Some : goal.places::address-returns-in-Some
places::address-returns-in-Some t c =
    record {
      lowered = tail_grew _ _ c.narrow_to_member.result c.in_ok-place.ensures.lowered c.narrow_to_member.ensures.grown
          c.narrow_to_member.ensures.adds
          (omega (arith, c.requires.node.operands.weight));
      spends = last_and _ _ _ _ c.narrow_to_member.result c.in_ok-place.ensures.spends c.narrow_to_member.ensures.spent
          (omega (
            arith,
            c.requires.node.operands.weight,
            heavy (expression c.args.cx.p.now c.args.k),
            heavy (expression c.args.cx.p.now c.args.a),
            extra_small c.args.cx.fixed (Some c.args.to),
          ))
          (omega (
            arith,
            c.requires.node.operands.weight,
            heavy (expression c.args.cx.p.now c.args.k),
            heavy (expression c.args.cx.p.now c.args.a),
            extra_small c.args.cx.fixed (Some c.args.to),
          ))
          (omega (arith, c.requires.node.operands.copies));
      is = IfOk-weaker c.narrow_to_member.result _ _
          (λ r f at. value_part _ c.requires.ordered c.requires.scene.ready.ordered c.args.cx.d.now _ c.requires.node
          c.requires.node.operands.operand (c.in-Some.ensures c.args.cx.d.now.vars c.requires.scene.ready)
          f.owns at c.in_ok-place.ensures.is f.emits) c.narrow_to_member.ensures.narrows;
    }

pub places::struct_assignment-pointer-requires : goal.places::struct_assignment-pointer-requires
places::struct_assignment-pointer-requires t c = (
  search rules,
  (
    c.requires.ordered,
    (
      c.requires.scene,
      (
        c.requires.node.operands.left,
        less_room c.requires.room (omega (arith, c.requires.node.operands.weight)),
      ),
    ),
  ),
)

pub places::struct_assignment-struct_copy-requires : goal.places::struct_assignment-struct_copy-requires
places::struct_assignment-struct_copy-requires t c = (
  search rules,
  (
    c.requires.ordered,
    (
      c.in_ok-t.ensures.lowered.scene,
      (
        c.requires.node.operands.right,
        (
          record {
            target = c.in_ok-t.ensures.has;
            units = rw (c.record_size-bytes.ensures, c.unit.ensures)
                (c.facts-facts.ensures.units c.requires.scene.ready);
          },
          room c.requires.room c.in_ok-t.ensures.lowered (omega (arith, c.requires.node.operands.weight)),
        ),
      ),
    ),
  ),
)

pub places::struct_assignment-returns : goal.places::struct_assignment-returns
places::struct_assignment-returns t c =
    record {
      has = still c.in_ok-t.ensures.has c.in_ok-struct_copy.ensures.lowered;
      lowered = at_most (both c.in_ok-t.ensures.lowered c.in_ok-struct_copy.ensures.lowered)
          (omega (arith, c.requires.node.operands.weight));
      spends = within (after c.in_ok-t.ensures.spends c.in_ok-struct_copy.ensures.spends)
          (omega (
            arith,
            c.requires.node.operands.weight,
            heavy (expression c.args.cx.p.now c.args.k),
            heavy (expression c.args.cx.p.now c.args.a),
            heavy (expression c.args.cx.p.now c.args.b),
          ))
          (omega (
            arith,
            c.requires.node.operands.weight,
            heavy (expression c.args.cx.p.now c.args.k),
            heavy (expression c.args.cx.p.now c.args.a),
            heavy (expression c.args.cx.p.now c.args.b),
          ))
          (omega (
            arith,
            c.requires.node.copies,
            c.facts-facts.ensures.copied c.requires.scene.ready,
            ap parts c.record_size-bytes.ensures,
          ));
      is = (λ n.
          struct_assigned _ c.requires.ordered c.requires.scene.ready.ordered c.args.cx.d.now _ c.requires.a_before
          c.requires.b_before c.requires.node.operands.left c.requires.node.operands.right c.requires.node
          (λ e there. c.facts-facts.ensures.fits e c.requires.scene.ready there) c.record_size-bytes.ensures
          c.unit.ensures
          c.written.ensures
          (c.place_pos.ensures _ c.requires.scene.ready.ordered c.requires.node.operands.left) n c.in_ok-t.ensures.is
          c.in_ok-struct_copy.ensures.is);
    }

pub places::struct_copy-chosen_copy-requires : goal.places::struct_copy-chosen_copy-requires
places::struct_copy-chosen_copy-requires t c =
    let below-0 : c.in-Conditional.c < c.args.k =
    below.conditional_test c.args.cx.p.now c.args.k _ _ _ _ c.requires.ordered c.in-Some.ensures
    c.in-Conditional.is in
    let below-1 : c.in-Conditional.a < c.args.k =
    below.conditional_left c.args.cx.p.now c.args.k _ _ _ _ c.requires.ordered c.in-Some.ensures
    c.in-Conditional.is in
    let below-2 : c.in-Conditional.b < c.args.k =
    below.conditional_right c.args.cx.p.now c.args.k _ _ _ _ c.requires.ordered c.in-Some.ensures
    c.in-Conditional.is in (
      search rules,
      (
        c.requires.ordered,
        (
          below-0,
          (
            below-1,
            (
              below-2,
              (
                c.requires.scene,
                (
                  node_at c.args.cx.d.now c.requires.scene.ready c.requires.typed c.in-Some.ensures
                      c.in-Conditional.is,
                  (c.requires.destination, c.requires.room),
                ),
              ),
            ),
          ),
        ),
      ),
    )

pub places::struct_copy-effect-requires : goal.places::struct_copy-effect-requires
places::struct_copy-effect-requires t c =
    let below-0 : c.in-Comma.a < c.args.k =
    below.comma_left c.args.cx.p.now c.args.k _ _ _ c.requires.ordered c.in-Some.ensures c.in-Comma.is in
    let below-1 : c.in-Comma.b < c.args.k =
    below.comma_right c.args.cx.p.now c.args.k _ _ _ c.requires.ordered c.in-Some.ensures c.in-Comma.is in (
      search rules,
      (
        c.requires.ordered,
        (
          c.requires.scene,
          (
            (node_at c.args.cx.d.now c.requires.scene.ready c.requires.typed c.in-Some.ensures
                c.in-Comma.is).operands.left,
            less_room c.requires.room (omega (
              arith,
              (node_at c.args.cx.d.now c.requires.scene.ready c.requires.typed c.in-Some.ensures
                  c.in-Comma.is).operands.weight,
            )),
          ),
        ),
      ),
    )

pub places::struct_copy-struct_copy-requires : goal.places::struct_copy-struct_copy-requires
places::struct_copy-struct_copy-requires t c =
    let below-0 : c.in-Comma.a < c.args.k =
    below.comma_left c.args.cx.p.now c.args.k _ _ _ c.requires.ordered c.in-Some.ensures c.in-Comma.is in
    let below-1 : c.in-Comma.b < c.args.k =
    below.comma_right c.args.cx.p.now c.args.k _ _ _ c.requires.ordered c.in-Some.ensures c.in-Comma.is in (
      search rules,
      (
        c.requires.ordered,
        (
          c.in_ok-effect-in-Comma.ensures.lowered.scene,
          (
            (node_at c.args.cx.d.now c.requires.scene.ready c.requires.typed c.in-Some.ensures
                c.in-Comma.is).operands.right,
            (
              destination_kept c.in_ok-effect-in-Comma.ensures.lowered c.requires.destination,
              room c.requires.room c.in_ok-effect-in-Comma.ensures.lowered
                  (omega (
                    arith,
                    (node_at c.args.cx.d.now c.requires.scene.ready c.requires.typed c.in-Some.ensures
                        c.in-Comma.is).operands.weight,
                  )),
            ),
          ),
        ),
      ),
    )

pub places::struct_copy-returns-in_ok-effect-in-Comma : goal.places::struct_copy-returns-in_ok-effect-in-Comma
places::struct_copy-returns-in_ok-effect-in-Comma t c =
    record {
      lowered = tail _ _ c.struct_copy.result c.in_ok-effect-in-Comma.ensures.lowered c.struct_copy.ensures.lowered
          (omega (
            arith,
            (node_at c.args.cx.d.now c.requires.scene.ready c.requires.typed c.in-Some.ensures
                c.in-Comma.is).operands.weight,
          ));
      spends = last _ _ _ _ c.struct_copy.result c.in_ok-effect-in-Comma.ensures.spends c.struct_copy.ensures.spends
          (omega (
            arith,
            (node_at c.args.cx.d.now c.requires.scene.ready c.requires.typed c.in-Some.ensures
                c.in-Comma.is).operands.weight,
            heavy (expression c.args.cx.p.now c.args.k),
            heavy (expression c.args.cx.p.now c.in-Comma.a),
            heavy (expression c.args.cx.p.now c.in-Comma.b),
          ))
          (omega (
            arith,
            (node_at c.args.cx.d.now c.requires.scene.ready c.requires.typed c.in-Some.ensures
                c.in-Comma.is).operands.weight,
            heavy (expression c.args.cx.p.now c.args.k),
            heavy (expression c.args.cx.p.now c.in-Comma.a),
            heavy (expression c.args.cx.p.now c.in-Comma.b),
          ))
          (omega (
            arith,
            (node_at c.args.cx.d.now c.requires.scene.ready c.requires.typed c.in-Some.ensures
                c.in-Comma.is).operands.copies,
          ));
      is = IfOk-weaker c.struct_copy.result _ _
          (λ r h. copy_comma _ c.requires.ordered c.requires.scene.ready.ordered
          (below_comma c.args.cx.p.now c.args.k _ _ c.in-Comma.b c.requires.ordered c.in-Some.ensures c.in-Comma.is)
          (commas (frame_of c.args.cx.p.now c.args.cx.d.now) c.requires.scene.ready.ordered c.args.k _
          c.in-Some.ensures
          c.requires.typed _ c.in-Comma.b c.in-Comma.is)
          (record { node = _; there = c.in-Some.ensures; is = c.in-Comma.is }) c.in_ok-effect-in-Comma.ensures.is h)
          c.struct_copy.ensures.is;
    }

pub places::struct_copy-struct_copy-requires-in-Load : goal.places::struct_copy-struct_copy-requires-in-Load
places::struct_copy-struct_copy-requires-in-Load t c =
    let below-0 : c.in-Load.a < c.args.k =
    below.load c.args.cx.p.now c.args.k _ _ c.requires.ordered c.in-Some.ensures c.in-Load.is in (
      search rules,
      (
        c.requires.ordered,
        (
          c.requires.scene,
          (
            (node_at c.args.cx.d.now c.requires.scene.ready c.requires.typed c.in-Some.ensures
                c.in-Load.is).operands.operand,
            (
              c.requires.destination,
              less_room c.requires.room
                  (omega (
                    arith,
                    (node_at c.args.cx.d.now c.requires.scene.ready c.requires.typed c.in-Some.ensures
                        c.in-Load.is).operands.weight,
                  )),
            ),
          ),
        ),
      ),
    )

pub places::struct_copy-returns-in-Load : goal.places::struct_copy-returns-in-Load
places::struct_copy-returns-in-Load t c =
    record {
      lowered = tail _ _ c.struct_copy-in-Load.result (start c.requires.scene) c.struct_copy-in-Load.ensures.lowered
          (omega (
            arith,
            (node_at c.args.cx.d.now c.requires.scene.ready c.requires.typed c.in-Some.ensures
                c.in-Load.is).operands.weight,
          ));
      spends = last _ _ _ _ c.struct_copy-in-Load.result nothing c.struct_copy-in-Load.ensures.spends
          (omega (
            arith,
            (node_at c.args.cx.d.now c.requires.scene.ready c.requires.typed c.in-Some.ensures
                c.in-Load.is).operands.weight,
            heavy (expression c.args.cx.p.now c.args.k),
            heavy (expression c.args.cx.p.now c.in-Load.a),
          ))
          (omega (
            arith,
            (node_at c.args.cx.d.now c.requires.scene.ready c.requires.typed c.in-Some.ensures
                c.in-Load.is).operands.weight,
            heavy (expression c.args.cx.p.now c.args.k),
            heavy (expression c.args.cx.p.now c.in-Load.a),
          ))
          (omega (
            arith,
            (node_at c.args.cx.d.now c.requires.scene.ready c.requires.typed c.in-Some.ensures
                c.in-Load.is).operands.copies,
          ));
      is = IfOk-weaker c.struct_copy-in-Load.result _ _
          (λ r h. copy_read _ c.requires.ordered c.requires.scene.ready.ordered
          (below_load c.args.cx.p.now c.args.k _ c.in-Load.a c.requires.ordered c.in-Some.ensures c.in-Load.is)
          (loads (frame_of c.args.cx.p.now c.args.cx.d.now) c.requires.scene.ready.ordered c.args.k _ c.in-Some.ensures
          c.requires.typed c.in-Load.a c.in-Load.is)
          (record { node = _; there = c.in-Some.ensures; is = c.in-Load.is }) h) c.struct_copy-in-Load.ensures.is;
    }

pub places::chosen_copy-fork-fork-requires : goal.places::chosen_copy-fork-fork-requires
places::chosen_copy-fork-fork-requires t c =
    record { few = (omega (arith, c.requires.node.operands.weight, c.requires.room.labels)) }

pub places::chosen_copy-condition-requires : goal.places::chosen_copy-condition-requires
places::chosen_copy-condition-requires t c = (
  search rules,
  (
    c.requires.ordered,
    (
      (fork c.requires.scene c.fork-fork.ensures.forked).scene,
      (
        c.requires.node.operands.first,
        (
          second_open (fork c.requires.scene c.fork-fork.ensures.forked),
          opened_room c.requires.room (fork c.requires.scene c.fork-fork.ensures.forked)
              (omega (arith, c.requires.node.operands.weight)),
        ),
      ),
    ),
  ),
)

pub places::chosen_copy-struct_copy-requires : goal.places::chosen_copy-struct_copy-requires
places::chosen_copy-struct_copy-requires t c = (
  search rules,
  (
    c.requires.ordered,
    (
      c.in_ok-condition.ensures.lowered.scene,
      (
        c.requires.node.operands.second,
        (
          destination_opened
              (opened (fork c.requires.scene c.fork-fork.ensures.forked) c.in_ok-condition.ensures.lowered)
              (c.limited-chosen.ensures.fits _ c.requires.destination),
          opened_room c.requires.room
              (opened (fork c.requires.scene c.fork-fork.ensures.forked) c.in_ok-condition.ensures.lowered)
              (omega (arith, c.requires.node.operands.weight)),
        ),
      ),
    ),
  ),
)

pub places::chosen_copy-turn_fork-requires : goal.places::chosen_copy-turn_fork-requires
places::chosen_copy-turn_fork-requires t c =
    record {
      end = first_open (opened (opened
          (fork c.requires.scene c.fork-fork.ensures.forked) c.in_ok-condition.ensures.lowered)
          c.in_ok-struct_copy.ensures.lowered);
    }

pub places::chosen_copy-struct_copy-requires-2 : goal.places::chosen_copy-struct_copy-requires-2
places::chosen_copy-struct_copy-requires-2 t c = (
  search rules,
  (
    c.requires.ordered,
    (
      (turned (opened (opened (fork c.requires.scene c.fork-fork.ensures.forked)
          c.in_ok-condition.ensures.lowered) c.in_ok-struct_copy.ensures.lowered) c.in_ok-turn_fork.ensures.turned
          c.in_ok-turn_fork.ensures.adds).scene,
      (
        c.requires.node.operands.third,
        (
          destination_opened
              (turned (opened (opened (fork c.requires.scene c.fork-fork.ensures.forked)
              c.in_ok-condition.ensures.lowered) c.in_ok-struct_copy.ensures.lowered) c.in_ok-turn_fork.ensures.turned
              c.in_ok-turn_fork.ensures.adds) (c.limited-chosen.ensures.fits _ c.requires.destination),
          opened_room c.requires.room (turned (opened
              (opened (fork c.requires.scene c.fork-fork.ensures.forked) c.in_ok-condition.ensures.lowered)
              c.in_ok-struct_copy.ensures.lowered) c.in_ok-turn_fork.ensures.turned c.in_ok-turn_fork.ensures.adds)
              (omega (arith, c.requires.node.operands.weight)),
        ),
      ),
    ),
  ),
)

pub places::chosen_copy-returns : goal.places::chosen_copy-returns
places::chosen_copy-returns t c =
    record {
      lowered = tail_stands _ c.join_fork.result (opened (turned
          (opened (opened (fork c.requires.scene c.fork-fork.ensures.forked) c.in_ok-condition.ensures.lowered)
          c.in_ok-struct_copy.ensures.lowered) c.in_ok-turn_fork.ensures.turned c.in_ok-turn_fork.ensures.adds)
          c.in_ok-struct_copy-2.ensures.lowered) c.join_fork.ensures.stands (omega (
            arith,
            c.requires.node.operands.weight,
          ));
      spends = last_pushed _ _ c.join_fork.result (after
          (and (after (after (plainly (forked_spent c.fork-fork.ensures.forked)) c.in_ok-condition.ensures.spends)
          c.in_ok-struct_copy.ensures.spends) c.in_ok-turn_fork.ensures.spent) c.in_ok-struct_copy-2.ensures.spends)
          c.join_fork.ensures.stands (omega (
            arith,
            c.requires.node.operands.weight,
            heavy (expression c.args.cx.p.now c.args.k),
            heavy (expression c.args.cx.p.now c.args.c),
            heavy (expression c.args.cx.p.now c.args.a),
            heavy (expression c.args.cx.p.now c.args.b),
          ))
          (omega (
            arith,
            c.requires.node.operands.weight,
            heavy (expression c.args.cx.p.now c.args.k),
            heavy (expression c.args.cx.p.now c.args.c),
            heavy (expression c.args.cx.p.now c.args.a),
            heavy (expression c.args.cx.p.now c.args.b),
          ))
          (omega (
            arith,
            c.requires.node.copies,
            c.facts.ensures.copied c.requires.scene.ready,
            c.limited-chosen.ensures.bytes,
            c.limited-chosen.ensures.value,
          )) refl refl;
      is = IfOk-weaker c.join_fork.result _ _
          (λ r f n. copy_chosen _ c.requires.ordered c.requires.scene.ready.ordered c.args.cx.d.now c.requires.a_before
          c.requires.b_before c.requires.node (λ e there. c.facts.ensures.fits e c.requires.scene.ready there)
          c.limited-chosen.ensures.same n c.fork-fork.ensures.forked c.in_ok-condition.ensures.is
          c.in_ok-struct_copy.ensures.is
          c.in_ok-turn_fork.ensures.emits c.in_ok-struct_copy-2.ensures.is (one_emits _ _ _ refl f))
          c.join_fork.ensures.stands;
    }

pub places::plain_copy-pointer-requires : goal.places::plain_copy-pointer-requires
places::plain_copy-pointer-requires t c = (
  search rules,
  (
    c.requires.ordered,
    (c.requires.scene, (c.requires.typed, less_room c.requires.room (omega arith))),
  ),
)

pub places::plain_copy-pointer-requires-2-clause-target : goal.places::plain_copy-pointer-requires-2-clause-target
places::plain_copy-pointer-requires-2-clause-target t c =
    (destination_kept c.in_ok-from.ensures.lowered c.requires.destination).target

pub places::plain_copy-pointer-requires-2-clause-room : goal.places::plain_copy-pointer-requires-2-clause-room
places::plain_copy-pointer-requires-2-clause-room t c = room c.requires.room c.in_ok-from.ensures.lowered (omega arith)

pub places::plain_copy-copy_units-requires-clause-from : goal.places::plain_copy-copy_units-requires-clause-from
places::plain_copy-copy_units-requires-clause-from t c =
    pointer (kept _ _ _ _ c.in_ok-from.ensures.has c.in_ok-to.ensures.grown)

pub places::plain_copy-copy_units-requires-clause-to : goal.places::plain_copy-copy_units-requires-clause-to
places::plain_copy-copy_units-requires-clause-to t c = pointer c.in_ok-to.ensures.has

pub places::plain_copy-copy_units-requires-clause-units : goal.places::plain_copy-copy_units-requires-clause-units
places::plain_copy-copy_units-requires-clause-units t c = c.requires.destination.units

pub places::plain_copy-returns : goal.places::plain_copy-returns
places::plain_copy-returns t c =
    record {
      lowered = tail_grew _ _ c.copy_units.result (grew c.in_ok-from.ensures.lowered c.in_ok-to.ensures.grown
          c.in_ok-to.ensures.adds) c.copy_units.ensures.grown c.copy_units.ensures.adds (omega arith);
      spends = last_and _ _ _ _ c.copy_units.result (and c.in_ok-from.ensures.spends c.in_ok-to.ensures.spent)
          c.copy_units.ensures.spent (omega (arith, heavy (expression c.args.cx.p.now c.args.k)))
          (omega (arith, heavy (expression c.args.cx.p.now c.args.k)))
          (omega arith);
      is = IfOk-weaker c.copy_units.result _ _
          (λ r f plain. copy_plain _ c.requires.ordered c.requires.scene.ready.ordered _ c.requires.typed
          (c.place_pos.ensures _ c.requires.scene.ready.ordered c.requires.typed) plain c.in_ok-from.ensures.is
          c.in_ok-to.ensures.is f) c.copy_units.ensures.emits;
    }

pub calls::call-named_function-requires-clause-typed : goal.calls::call-named_function-requires-clause-typed
calls::call-named_function-requires-clause-typed t c = c.requires.node.called

pub calls::call-arguments-requires : goal.calls::call-arguments-requires
calls::call-arguments-requires t c = (
  search rules,
  (
    c.requires.ordered,
    (
      c.requires.before,
      (
        c.requires.scene,
        (c.requires.node.arguments, less_room c.requires.room (omega (arith, c.requires.node.weight))),
      ),
    ),
  ),
)

pub calls::call-returns-in_ok-temps-in-Some : goal.calls::call-returns-in_ok-temps-in-Some
calls::call-returns-in_ok-temps-in-Some t c =
    record {
      lowered = tail_pushed _ c.call.result _ c.in_ok-temps-in-Some.ensures.lowered c.call.ensures.pushed
          (λ g. call_lowered _ _ _ _ _ _ c.in_ok-temps-in-Some.ensures.lowered.scene c.args.to c.in-Some.n
          c.in_ok-temps-in-Some.temps.items (map (kind_in c.args.cx.p.now) c.args.args.now) c.requires.node.result
          c.requires.node.takes (c.in-Some.ensures.signed _ _ c.requires.node.of) c.in_ok-temps-in-Some.ensures.kinds
          (taken c.args.cx.p.now c.requires.node.takes c.args.args.now c.requires.node.fit)
          (result_as c.args.to _ _ c.in_ok-temps-in-Some.ensures.lowered c.requires.node.gives c.requires.to) g)
          (omega (arith, c.requires.node.weight));
      spends = last_pushed _ _ c.call.result c.in_ok-temps-in-Some.ensures.spends c.call.ensures.pushed
          (omega (
            arith,
            c.requires.node.weight,
            weights_heavy c.args.cx.p.now c.args.args.now,
            kinds_count c.args.cx.p.now _ c.in_ok-temps-in-Some.temps.items c.args.args.now
                c.in_ok-temps-in-Some.ensures.kinds,
            places_small (length c.in_ok-temps-in-Some.temps.items),
          ))
          (omega (
            arith,
            c.requires.node.weight,
            weights_heavy c.args.cx.p.now c.args.args.now,
            kinds_count c.args.cx.p.now _ c.in_ok-temps-in-Some.temps.items c.args.args.now
                c.in_ok-temps-in-Some.ensures.kinds,
            places_small (length c.in_ok-temps-in-Some.temps.items),
          ))
          (omega (arith, c.requires.node.copies)) refl refl;
      is = IfOk-weaker c.call.result _ _
          (λ r f n. call_named _ c.requires.ordered c.requires.scene.ready c.args.cx.d.now _ _ _ n c.requires.node
          c.in-Some.n c.in-Some.ensures.names (c.in-Some.ensures.signed _ _ c.requires.node.of)
          c.in_ok-temps-in-Some.ensures.is (one_emits _ _ _ refl f)) c.call.ensures.pushed;
    }

pub calls::call-operand-requires : goal.calls::call-operand-requires
calls::call-operand-requires t c = (
  search rules,
  (
    c.requires.ordered,
    (
      c.requires.scene,
      (
        c.requires.node.called,
        less_room c.requires.room (omega (arith, c.requires.node.weight)),
      ),
    ),
  ),
)

pub calls::call-arguments-requires-in-None : goal.calls::call-arguments-requires-in-None
calls::call-arguments-requires-in-None t c = (
  search rules,
  (
    c.requires.ordered,
    (
      c.requires.before,
      (
        c.in_ok-v-in-None.ensures.lowered.scene,
        (
          c.requires.node.arguments,
          room c.requires.room c.in_ok-v-in-None.ensures.lowered (omega (arith, c.requires.node.weight)),
        ),
      ),
    ),
  ),
)

pub calls::call-returns-in_ok-temps-in-None : goal.calls::call-returns-in_ok-temps-in-None
calls::call-returns-in_ok-temps-in-None t c =
    record {
      lowered = tail_pushed _ c.call_value.result _ (both c.in_ok-v-in-None.ensures.lowered
          c.in_ok-temps-in-None.ensures.lowered)
          c.call_value.ensures.pushed (λ g. call_value_lowered _ _ _ _ _ _ c.in_ok-temps-in-None.ensures.lowered.scene
          c.args.to _ _ c.in_ok-temps-in-None.temps.items _
          (map (kind_in c.args.cx.p.now) c.args.args.now) c.requires.node.result c.requires.node.takes
          (called_value c.args.cx.p.now c.args.f c.requires.node.of
          (still c.in_ok-v-in-None.ensures.has c.in_ok-temps-in-None.ensures.lowered))
          (named_type c.requires.scene.ready (c.facts.ensures.pointed
          (Function c.requires.node.result c.requires.node.takes) c.requires.scene.ready c.requires.node.of)
          c.unwrap_or-of.ensures) c.in_ok-temps-in-None.ensures.kinds
          (taken c.args.cx.p.now c.requires.node.takes c.args.args.now c.requires.node.fit)
          (result_as c.args.to _ _ (both c.in_ok-v-in-None.ensures.lowered c.in_ok-temps-in-None.ensures.lowered)
          c.requires.node.gives c.requires.to) g) (omega (arith, c.requires.node.weight));
      spends = last_pushed _ _ c.call_value.result (after c.in_ok-v-in-None.ensures.spends
          c.in_ok-temps-in-None.ensures.spends)
          c.call_value.ensures.pushed (omega (
            arith,
            c.requires.node.weight,
            weights_heavy c.args.cx.p.now c.args.args.now,
            kinds_count c.args.cx.p.now _ c.in_ok-temps-in-None.temps.items c.args.args.now
                c.in_ok-temps-in-None.ensures.kinds,
            places_small (length c.in_ok-temps-in-None.temps.items),
            heavy (expression c.args.cx.p.now c.args.f),
          ))
          (omega (
            arith,
            c.requires.node.weight,
            weights_heavy c.args.cx.p.now c.args.args.now,
            kinds_count c.args.cx.p.now _ c.in_ok-temps-in-None.temps.items c.args.args.now
                c.in_ok-temps-in-None.ensures.kinds,
            places_small (length c.in_ok-temps-in-None.temps.items),
            heavy (expression c.args.cx.p.now c.args.f),
          ))
          (omega (arith, c.requires.node.copies)) refl refl;
      is = IfOk-weaker c.call_value.result _ _
          (λ r f n. call_by_value _ c.requires.ordered c.requires.scene.ready c.args.cx.d.now _ _ _ n c.requires.node
          c.written_by.ensures.spares (λ e h. c.unwrap_or-of.ensures ∙ c.facts.ensures.target e c.requires.scene.ready
          h)
          c.pos.ensures c.in_ok-v-in-None.ensures.is c.in_ok-temps-in-None.ensures.is (one_emits _ _ _ refl f))
          c.call_value.ensures.pushed;
    }

pub calls::library-arguments-requires : goal.calls::library-arguments-requires
calls::library-arguments-requires t c = (
  search rules,
  (
    c.requires.ordered,
    (
      c.requires.before,
      (
        c.requires.scene,
        (c.requires.node.arguments, less_room c.requires.room (omega (arith, c.requires.node.weight))),
      ),
    ),
  ),
)

pub calls::library-returns-in-Library : goal.calls::library-returns-in-Library
calls::library-returns-in-Library t c =
    record {
      lowered = tail_pushed _ c.service.result _ c.in_ok-temps.ensures.lowered c.service.ensures.pushed
          (λ g. service_lowered _ _ _ _ _ _ c.in_ok-temps.ensures.lowered.scene c.in-Library.op c.args.to _
          (library_fits c.args.cx.p.now _ c.in-Library.op c.requires.node.service.takes c.requires.node.service.gives
          c.args.args.now _ c.args.to c.args.k (subst
          (λ z. ServiceAsks z c.requires.node.service.takes c.requires.node.service.gives) c.in-Library.is
          (c.service_of.ensures.asks c.requires.node.service c.requires.node.there)) c.requires.node.fit
          c.requires.node.gives c.in_ok-temps.ensures.kinds
          (result_as c.args.to _ _ c.in_ok-temps.ensures.lowered refl c.requires.to)) g)
          (omega (arith, c.requires.node.weight));
      spends = last_pushed _ _ c.service.result c.in_ok-temps.ensures.spends c.service.ensures.pushed
          (omega (
            arith,
            c.requires.node.weight,
            weights_heavy c.args.cx.p.now c.args.args.now,
            service_small c.in-Library.op,
          )) (omega (
            arith,
            c.requires.node.weight,
            weights_heavy c.args.cx.p.now c.args.args.now,
            service_small c.in-Library.op,
          ))
          (omega (arith, c.requires.node.copies)) refl refl;
      is = (let p = c.args.cx.p.now in
          let asks = subst (λ z. ServiceAsks z c.requires.node.service.takes c.requires.node.service.gives)
          c.in-Library.is
          (c.service_of.ensures.asks c.requires.node.service c.requires.node.there) in
          let served = is_served p c.args.k c.requires.node.service.takes c.requires.node.service.gives c.args.args.now
          c.requires.node.fit c.requires.node.gives (called_services.Library c.in-Library.op) asks in
          IfOk-weaker c.service.result _ _
          (λ r f n. call_served _ c.requires.ordered c.requires.scene.ready.ordered
          (service_as (called_services.Library c.in-Library.op)) n
          (sym (ap service_as c.in-Library.is) ∙ c.service_of.ensures.is) served c.in_ok-temps.ensures.is
          (library_serves c.in-Library.op _ _ _ asks (one_emits _ _ _ refl f))) c.service.ensures.pushed);
    }

pub calls::library-returns-in-Exit : goal.calls::library-returns-in-Exit
calls::library-returns-in-Exit t c =
    record {
      lowered = tail_pushed _ c.service-in-Exit.result _ c.in_ok-temps.ensures.lowered c.service-in-Exit.ensures.pushed
          (λ g. service_lowered _ _ _ _ _ _ c.in_ok-temps.ensures.lowered.scene lib.Exit None _
          (exit_fits c.args.cx.p.now _ c.requires.node.service.takes c.requires.node.service.gives c.args.args.now _
          (subst (λ z. ServiceAsks z c.requires.node.service.takes c.requires.node.service.gives) c.in-Exit.is
          (c.service_of.ensures.asks c.requires.node.service c.requires.node.there)) c.requires.node.fit
          c.in_ok-temps.ensures.kinds) g) (omega (arith, c.requires.node.weight));
      spends = last_pushed _ _ c.service-in-Exit.result c.in_ok-temps.ensures.spends c.service-in-Exit.ensures.pushed
          (omega (arith, c.requires.node.weight, weights_heavy c.args.cx.p.now c.args.args.now))
          (omega (arith, c.requires.node.weight, weights_heavy c.args.cx.p.now c.args.args.now))
          (omega (arith, c.requires.node.copies)) refl refl;
      is = (let p = c.args.cx.p.now in
          let asks = subst (λ z. ServiceAsks z c.requires.node.service.takes c.requires.node.service.gives)
          c.in-Exit.is
          (c.service_of.ensures.asks c.requires.node.service c.requires.node.there) in
          let served = is_served p c.args.k c.requires.node.service.takes c.requires.node.service.gives c.args.args.now
          c.requires.node.fit c.requires.node.gives called_services.Exit asks in
          IfOk-weaker c.service-in-Exit.result _ _
          (λ r f n. call_served _ c.requires.ordered c.requires.scene.ready.ordered (service_as called_services.Exit) n
          (sym (ap service_as c.in-Exit.is) ∙ c.service_of.ensures.is) served c.in_ok-temps.ensures.is
          (one_emits _ _ _ refl f)) c.service-in-Exit.ensures.pushed);
    }

pub calls::library-intrinsic_value-requires : goal.calls::library-intrinsic_value-requires
calls::library-intrinsic_value-requires t c =
    record {
      fits = intrinsic_fits c.args.cx.p.now _ c.requires.node.service.takes c.requires.node.service.gives
          c.args.args.now c.in_ok-temps.temps.items c.args.k c.first_temp-a.result c.second_temp-b.result
          c.first_kind-kind.result c.requires.node.fit c.requires.node.gives c.in_ok-temps.ensures.kinds (cc)
          (cc) c.first_kind-kind.ensures.first c.in-Intrinsic.i c.args.to
          (subst (λ z. ServiceAsks z c.requires.node.service.takes c.requires.node.service.gives) c.in-Intrinsic.is
          (c.service_of.ensures.asks c.requires.node.service c.requires.node.there))
          (result_as c.args.to _ _ c.in_ok-temps.ensures.lowered refl c.requires.to);
    }

pub calls::library-returns-in-Intrinsic : goal.calls::library-returns-in-Intrinsic
calls::library-returns-in-Intrinsic t c =
    record {
      lowered = tail_grew _ _ c.intrinsic_value.result c.in_ok-temps.ensures.lowered c.intrinsic_value.ensures.grown
          c.intrinsic_value.ensures.adds (omega (arith, c.requires.node.weight));
      spends = last_and _ _ _ _ c.intrinsic_value.result c.in_ok-temps.ensures.spends c.intrinsic_value.ensures.spent
          (omega (arith, c.requires.node.weight, weights_heavy c.args.cx.p.now c.args.args.now))
          (omega (arith, c.requires.node.weight, weights_heavy c.args.cx.p.now c.args.args.now))
          (omega (arith, c.requires.node.copies));
      is = (let p = c.args.cx.p.now in
          let i = c.in-Intrinsic.i in
          let asks = subst (λ z. ServiceAsks z c.requires.node.service.takes c.requires.node.service.gives)
          c.in-Intrinsic.is
          (c.service_of.ensures.asks c.requires.node.service c.requires.node.there) in
          let served = is_served p c.args.k c.requires.node.service.takes c.requires.node.service.gives c.args.args.now
          c.requires.node.fit c.requires.node.gives (called_services.Intrinsic i) asks in
          let long = has_length p _ c.requires.node.service.takes c.requires.node.service.gives c.args.args.now
          c.in_ok-temps.temps.items c.second_temp-b.result i asks c.requires.node.fit c.in_ok-temps.ensures.kinds (cc)
          in
          IfOk-weaker c.intrinsic_value.result _ _
          (λ r f n. call_served _ c.requires.ordered c.requires.scene.ready.ordered
          (service_as (called_services.Intrinsic i)) n
          (sym (ap service_as c.in-Intrinsic.is) ∙ c.service_of.ensures.is) served c.in_ok-temps.ensures.is
          (intrinsic_serves i _ _ c.first_kind-kind.ensures.is (cc) (cc) f)) (c.intrinsic_value.ensures.emits long));
    }

pub calls::arguments-loop-a-init : goal.calls::arguments-loop-a-init
calls::arguments-loop-a-init t c = (
  subst (λ z. ArgumentsTo c.args.cx.fixed c.args.cx.p.now c.args.cx.d.now c.args.cx.types.now c.args.cx.homes.now
      c.args.out.now c.args.out.now [] z) (sym c.new-temps.ensures.items) (arguments_none c.requires.scene),
  subst (λ z. ArgumentsSo (setting c.args.cx) c.args.args.now c.args.out.now c.args.out.now c.args.args.now z
      c.in_ok-behind.behind.items) (sym c.new-temps.ensures.items)
      (arguments_start (setting c.args.cx) c.args.out.now c.in_ok-behind.ensures),
)

pub calls::arguments-operand-requires : goal.calls::arguments-operand-requires
calls::arguments-operand-requires t c =
    let below-0 : get_or c.args.args.now c.loop-a.a-index 0 < c.args.k =
    below.below c.args.k c.args.args.now c.loop-a.a-index 0 c.requires.before (omega arith) in (
      search rules,
      (
        c.requires.ordered,
        (
          c.loop-a.invariant.0.lowered.scene,
          (
            c.requires.typed.each c.loop-a.a-index (get_or c.args.args.now c.loop-a.a-index 0)
                (slice_get-get_or c.args.args.now c.loop-a.a-index 0 (omega arith)),
            argument_room c.args.args.now c.loop-a.a-index 0 c.requires.room c.loop-a.invariant.0 (omega arith),
          ),
        ),
      ),
    )

pub calls::arguments-loop-a-preserved : goal.calls::arguments-loop-a-preserved
calls::arguments-loop-a-preserved t c = (
  subst (λ z. ArgumentsTo c.args.cx.fixed c.args.cx.p.now c.args.cx.d.now c.args.cx.types.now c.args.cx.homes.now
      c.args.out.now c.operand.new.out z c.push.new.self.items)
      (sym (take_more c.args.args.now c.loop-a.a-index 0 (omega arith)))
      (subst (λ z. ArgumentsTo c.args.cx.fixed c.args.cx.p.now c.args.cx.d.now c.args.cx.types.now c.args.cx.homes.now
      c.args.out.now c.operand.new.out (take c.loop-a.a-index c.args.args.now
      ++ get_or c.args.args.now c.loop-a.a-index 0 ∷ []) z) (sym c.in_ok-push.ensures.items)
      (arguments_more (get_or c.args.args.now c.loop-a.a-index 0) _ c.loop-a.invariant.0 c.in_ok-t.ensures.has
      c.in_ok-t.ensures.lowered c.in_ok-t.ensures.spends)),
  let s = setting c.args.cx in
      let all = c.args.args.now in
      let left = subst (λ z. ArgumentsSo s all c.args.out.now c.loop-a.out z c.loop-a.temps.items
      c.loop-a.behind.items)
      (dropped all c.loop-a.a-index 0 (omega arith)) c.loop-a.invariant.1 in
      subst (λ z. ArgumentsSo s all c.args.out.now c.operand.new.out (drop (c.loop-a.a-index + 1) all) z
      c.pop.new.self.items) (sym c.in_ok-push.ensures.items)
      (arguments_step s left c.pop.ensures.items
      (λ e. omega (arith, c.loop-a.behind.ok.0, (MatchOption-at_none _ _ e c.pop.ensures.cases).0))
      (λ v e. c.unwrap_or-later.ensures ∙ ap (λ z. unwrap_or z write.Any) e) c.in_ok-t.ensures.is),
)

pub expressions::operand-returns-in-Some : goal.expressions::operand-returns-in-Some
expressions::operand-returns-in-Some t c =
    record {
      has = c.in-Some.ensures.has _ c.requires.scene.housed;
      lowered = at_most (start c.requires.scene) (omega arith);
      spends = within nothing (omega (arith, heavy (expression c.args.cx.p.now c.args.k)))
          (omega (arith, heavy (expression c.args.cx.p.now c.args.k)))
          (omega arith);
      is = operand_held _ _ c.in-Some.ensures.is;
    }

pub expressions::operand-temp-requires : goal.expressions::operand-temp-requires
expressions::operand-temp-requires t c =
    record { room = less_room c.requires.room (omega (arith, heavy (expression c.args.cx.p.now c.args.k))) }

pub expressions::operand-value-requires : goal.expressions::operand-value-requires
expressions::operand-value-requires t c = (
  search rules,
  (
    c.requires.ordered,
    (
      (grew (start c.requires.scene) c.in_ok-t-in-None.ensures.grown c.in_ok-t-in-None.ensures.adds).scene,
      (
        c.requires.typed,
        (
          as_kind c.in_ok-t-in-None.ensures.has (c.kind.ensures c.requires.scene.ready),
          room c.requires.room (grew (start c.requires.scene) c.in_ok-t-in-None.ensures.grown
              c.in_ok-t-in-None.ensures.adds) (omega (arith, heavy (expression c.args.cx.p.now c.args.k))),
        ),
      ),
    ),
  ),
)

pub expressions::operand-returns-in_ok-value-in-None : goal.expressions::operand-returns-in_ok-value-in-None
expressions::operand-returns-in_ok-value-in-None t c =
    record {
      has = as_kind (still c.in_ok-t-in-None.ensures.has c.in_ok-value-in-None.ensures.lowered)
          (c.kind.ensures c.requires.scene.ready);
      lowered = at_most (both (grew (start c.requires.scene) c.in_ok-t-in-None.ensures.grown
          c.in_ok-t-in-None.ensures.adds)
          c.in_ok-value-in-None.ensures.lowered) (omega (arith, heavy (expression c.args.cx.p.now c.args.k)));
      spends = within (in_fresh _ c.in_ok-t-in-None.ensures.next c.in_ok-t-in-None.ensures.spent
          c.in_ok-value-in-None.ensures.spends) (omega (arith, heavy (expression c.args.cx.p.now c.args.k)))
          (omega (arith, heavy (expression c.args.cx.p.now c.args.k)))
          (omega arith);
      is = operand_made _ _ c.in_ok-t-in-None.ensures.next c.in_ok-t-in-None.ensures.emits
          c.in_ok-value-in-None.ensures.is;
    }

pub expressions::operand_in-returns-in-Some : goal.expressions::operand_in-returns-in-Some
expressions::operand_in-returns-in-Some t c =
    record {
      holds = as_kind (c.in-Some.ensures.has _ c.requires.scene.housed) (sym (c.kind-kind.ensures
          c.requires.scene.ready));
      kind = c.kind-kind.ensures c.requires.scene.ready;
      lowered = at_most (start c.requires.scene) (omega arith);
      spends = within nothing (omega (
        arith,
        heavy (expression c.args.cx.p.now c.args.k),
        extra_small c.args.cx.fixed (Some c.args.to),
      ))
          (omega (arith, heavy (expression c.args.cx.p.now c.args.k), extra_small c.args.cx.fixed (Some c.args.to)))
          (omega arith);
      is = operand_in_held _ _ c.in-Some.ensures.is;
    }

pub expressions::operand_in-returns-in_ok-value-in-None : goal.expressions::operand_in-returns-in_ok-value-in-None
expressions::operand_in-returns-in_ok-value-in-None t c =
    record {
      holds = as_kind (still c.requires.to c.in_ok-value-in-None.ensures.lowered)
          (sym (c.kind-kind.ensures c.requires.scene.ready));
      kind = c.kind-kind.ensures c.requires.scene.ready;
      lowered = c.in_ok-value-in-None.ensures.lowered;
      spends = c.in_ok-value-in-None.ensures.spends;
      is = operand_in_there _ c.in_ok-value-in-None.ensures.is;
    }

pub expressions::held-returns : goal.expressions::held-returns
expressions::held-returns t c =
    record {
      holds = as_kind c.in_ok-temp.ensures.has (sym (c.kind.ensures c.requires.scene.ready));
      kind = c.kind.ensures c.requires.scene.ready;
      lowered = search rules;
      spends = search rules;
      is = search rules;
    }

pub expressions::pair-held-requires : goal.expressions::pair-held-requires
expressions::pair-held-requires t c = (
  search rules,
  (
    c.requires.ordered,
    (
      c.requires.scene,
      (
        c.requires.node.left,
        less_room c.requires.room (omega (arith, c.requires.node.weight)),
      ),
    ),
  ),
)

pub expressions::pair-held-requires-2 : goal.expressions::pair-held-requires-2
expressions::pair-held-requires-2 t c = (
  search rules,
  (
    c.requires.ordered,
    (
      c.in_ok-x.ensures.lowered.scene,
      (
        c.requires.node.right,
        room c.requires.room c.in_ok-x.ensures.lowered
            (omega (arith, c.requires.node.weight)),
      ),
    ),
  ),
)

pub expressions::pair-returns : goal.expressions::pair-returns
expressions::pair-returns t c =
    record {
      left = still c.in_ok-x.ensures.holds c.in_ok-y.ensures.lowered;
      right = c.in_ok-y.ensures.holds;
      left_kind = c.in_ok-x.ensures.kind;
      right_kind = c.in_ok-y.ensures.kind;
      lowered = at_most (both c.in_ok-x.ensures.lowered c.in_ok-y.ensures.lowered) (omega (
        arith,
        c.requires.node.weight,
      ));
      spends = within (after c.in_ok-x.ensures.spends c.in_ok-y.ensures.spends)
          (omega (
            arith,
            c.requires.node.weight,
            heavy (expression c.args.cx.p.now c.args.k),
            heavy (expression c.args.cx.p.now c.args.a),
            heavy (expression c.args.cx.p.now c.args.b),
          ))
          (omega (
            arith,
            c.requires.node.weight,
            heavy (expression c.args.cx.p.now c.args.k),
            heavy (expression c.args.cx.p.now c.args.a),
            heavy (expression c.args.cx.p.now c.args.b),
          ))
          (omega (arith, c.requires.node.copies));
      is = pair_both _ c.written.ensures c.in_ok-x.ensures.is c.in_ok-y.ensures.is;
    }

pub expressions::value-constant-requires-clause-to : goal.expressions::value-constant-requires-clause-to
expressions::value-constant-requires-clause-to t c =
    as_kind c.requires.to (sym (c.kind-kind.ensures c.requires.scene.ready))

pub expressions::value-constant-requires-clause-value : goal.expressions::value-constant-requires-clause-value
expressions::value-constant-requires-clause-value t c = zero_fits _

pub expressions::value-returns-in_default : goal.expressions::value-returns-in_default
expressions::value-returns-in_default t c =
    record {
      lowered = tail_grew _ _ c.constant.result (start c.requires.scene) c.constant.ensures.grown
          c.constant.ensures.adds
          (omega arith);
      spends = last_and _ _ _ _ c.constant.result nothing c.constant.ensures.spent
          (omega (arith, heavy (expression c.args.cx.p.now c.args.k), extra_small c.args.cx.fixed (Some c.args.to)))
          (omega (arith, heavy (expression c.args.cx.p.now c.args.k), extra_small c.args.cx.fixed (Some c.args.to)))
          (omega arith);
      is = IfOk-weaker c.constant.result _ _ (λ r f. value_no_node _ c.requires.ordered c.requires.scene.ready.ordered
          c.in_default.ensures f) c.constant.ensures.emits;
    }

pub expressions::value-constant-requires-in-Constant-clause-to :
    goal.expressions::value-constant-requires-in-Constant-clause-to
expressions::value-constant-requires-in-Constant-clause-to t c =
    as_kind c.requires.to (sym (c.kind-kind.ensures c.requires.scene.ready))

pub expressions::value-constant-requires-in-Constant-clause-value :
    goal.expressions::value-constant-requires-in-Constant-clause-value
expressions::value-constant-requires-in-Constant-clause-value t c =
    subst (λ z. constant_fits z c.in-Constant.n ≡ true)
    (sym ((c.kind-kind.ensures c.requires.scene.ready)
    ∙ scalar_kind (node_at c.args.cx.d.now c.requires.scene.ready c.requires.typed c.in-Some.ensures
    c.in-Constant.is).is)) (node_at c.args.cx.d.now c.requires.scene.ready c.requires.typed c.in-Some.ensures
    c.in-Constant.is).fits

pub expressions::value-returns-in-Constant : goal.expressions::value-returns-in-Constant
expressions::value-returns-in-Constant t c =
    record {
      lowered = tail_grew _ _ c.constant-in-Constant.result
          (start c.requires.scene) c.constant-in-Constant.ensures.grown c.constant-in-Constant.ensures.adds (omega
          arith);
      spends = last_and _ _ _ _ c.constant-in-Constant.result nothing c.constant-in-Constant.ensures.spent
          (omega (arith, heavy (expression c.args.cx.p.now c.args.k), extra_small c.args.cx.fixed (Some c.args.to)))
          (omega (arith, heavy (expression c.args.cx.p.now c.args.k), extra_small c.args.cx.fixed (Some c.args.to)))
          (omega arith);
      is = (let n = node_at c.args.cx.d.now c.requires.scene.ready c.requires.typed c.in-Some.ensures c.in-Constant.is
          in
          let kind = c.kind-kind.ensures c.requires.scene.ready in
          let fits = subst (λ z. constant_fits z c.in-Constant.n ≡ true) (sym (kind ∙ scalar_kind n.is)) n.fits in
          IfOk-weaker c.constant-in-Constant.result _ _
          (λ r f. value_constant _ c.requires.ordered c.requires.scene.ready.ordered
          (record { node = _; there = c.in-Some.ensures; is = c.in-Constant.is }) kind fits (omega arith) f)
          c.constant-in-Constant.ensures.emits);
    }

pub expressions::value-load-requires : goal.expressions::value-load-requires
expressions::value-load-requires t c =
    let below-0 : c.in-Load.a < c.args.k =
    below.load c.args.cx.p.now c.args.k _ _ c.requires.ordered c.in-Some.ensures c.in-Load.is in (
      search rules,
      (
        c.requires.ordered,
        (
          below-0,
          (
            c.requires.scene,
            (
              (node_at c.args.cx.d.now c.requires.scene.ready c.requires.typed c.in-Some.ensures c.in-Load.is),
              (c.requires.to, c.requires.room),
            ),
          ),
        ),
      ),
    )

pub expressions::value-address-requires : goal.expressions::value-address-requires
expressions::value-address-requires t c =
    let below-0 : c.in-Decay.a < c.args.k =
    below.decay c.args.cx.p.now c.args.k _ _ c.requires.ordered c.in-Some.ensures c.in-Decay.is in (
      search rules,
      (
        c.requires.ordered,
        (
          below-0,
          (
            c.requires.scene,
            (
              (node_at c.args.cx.d.now c.requires.scene.ready c.requires.typed c.in-Some.ensures c.in-Decay.is),
              (c.requires.to, c.requires.room),
            ),
          ),
        ),
      ),
    )

pub expressions::value-address-requires-in-Address : goal.expressions::value-address-requires-in-Address
expressions::value-address-requires-in-Address t c =
    let below-0 : c.in-Address.a < c.args.k =
    below.address c.args.cx.p.now c.args.k _ _ c.requires.ordered c.in-Some.ensures c.in-Address.is in (
      search rules,
      (
        c.requires.ordered,
        (
          below-0,
          (
            c.requires.scene,
            (
              (node_at c.args.cx.d.now c.requires.scene.ready c.requires.typed c.in-Some.ensures c.in-Address.is),
              (c.requires.to, c.requires.room),
            ),
          ),
        ),
      ),
    )

pub expressions::value-conversion-requires : goal.expressions::value-conversion-requires
expressions::value-conversion-requires t c =
    let below-0 : c.in-Convert.a < c.args.k =
    below.convert c.args.cx.p.now c.args.k _ _ c.requires.ordered c.in-Some.ensures c.in-Convert.is in (
      search rules,
      (
        c.requires.ordered,
        (
          below-0,
          (
            c.requires.scene,
            (
              (node_at c.args.cx.d.now c.requires.scene.ready c.requires.typed c.in-Some.ensures c.in-Convert.is),
              (c.requires.to, c.requires.room),
            ),
          ),
        ),
      ),
    )

pub expressions::value-unary-requires : goal.expressions::value-unary-requires
expressions::value-unary-requires t c =
    let below-0 : c.in-Unary.a < c.args.k =
    below.unary c.args.cx.p.now c.args.k _ _ _ c.requires.ordered c.in-Some.ensures c.in-Unary.is in (
      search rules,
      (
        c.requires.ordered,
        (
          below-0,
          (
            c.requires.scene,
            (
              (node_at c.args.cx.d.now c.requires.scene.ready c.requires.typed c.in-Some.ensures c.in-Unary.is),
              (c.requires.to, c.requires.room),
            ),
          ),
        ),
      ),
    )

pub expressions::value-integer-requires : goal.expressions::value-integer-requires
expressions::value-integer-requires t c =
    let below-0 : c.in-Int.a < c.args.k =
    below.int_left c.args.cx.p.now c.args.k _ _ _ _ c.requires.ordered c.in-Some.ensures c.in-Int.is in
    let below-1 : c.in-Int.b < c.args.k =
    below.int_right c.args.cx.p.now c.args.k _ _ _ _ c.requires.ordered c.in-Some.ensures c.in-Int.is in (
      search rules,
      (
        c.requires.ordered,
        (
          below-0,
          (
            below-1,
            (
              c.requires.scene,
              (
                (node_at c.args.cx.d.now c.requires.scene.ready c.requires.typed c.in-Some.ensures c.in-Int.is),
                (c.requires.to, c.requires.room),
              ),
            ),
          ),
        ),
      ),
    )

pub expressions::value-capability-requires : goal.expressions::value-capability-requires
expressions::value-capability-requires t c =
    let below-0 : c.in-Capability.a < c.args.k =
    below.capability_left c.args.cx.p.now c.args.k _ _ _ _ _ c.requires.ordered c.in-Some.ensures
    c.in-Capability.is in
    let below-1 : c.in-Capability.b < c.args.k =
    below.capability_right c.args.cx.p.now c.args.k _ _ _ _ _ c.requires.ordered c.in-Some.ensures
    c.in-Capability.is in (
      search rules,
      (
        c.requires.ordered,
        (
          below-0,
          (
            below-1,
            (
              c.requires.scene,
              (
                (node_at c.args.cx.d.now c.requires.scene.ready c.requires.typed c.in-Some.ensures c.in-Capability.is),
                (c.requires.to, c.requires.room),
              ),
            ),
          ),
        ),
      ),
    )

pub expressions::value-sum-requires : goal.expressions::value-sum-requires
expressions::value-sum-requires t c =
    let below-0 : c.in-Plus.a < c.args.k =
    below.plus_left c.args.cx.p.now c.args.k _ _ _ _ c.requires.ordered c.in-Some.ensures c.in-Plus.is in
    let below-1 : c.in-Plus.b < c.args.k =
    below.plus_right c.args.cx.p.now c.args.k _ _ _ _ c.requires.ordered c.in-Some.ensures c.in-Plus.is in (
      search rules,
      (
        c.requires.ordered,
        (
          below-0,
          (
            below-1,
            (
              c.requires.scene,
              (
                (node_at c.args.cx.d.now c.requires.scene.ready c.requires.typed c.in-Some.ensures c.in-Plus.is),
                (c.requires.to, c.requires.room),
              ),
            ),
          ),
        ),
      ),
    )

pub expressions::value-distance-requires : goal.expressions::value-distance-requires
expressions::value-distance-requires t c =
    let below-0 : c.in-Difference.a < c.args.k =
    below.difference_left c.args.cx.p.now c.args.k _ _ _ c.requires.ordered c.in-Some.ensures c.in-Difference.is
    in
    let below-1 : c.in-Difference.b < c.args.k =
    below.difference_right c.args.cx.p.now c.args.k _ _ _ c.requires.ordered c.in-Some.ensures
    c.in-Difference.is in (
      search rules,
      (
        c.requires.ordered,
        (
          below-0,
          (
            below-1,
            (
              c.requires.scene,
              (
                (node_at c.args.cx.d.now c.requires.scene.ready c.requires.typed c.in-Some.ensures c.in-Difference.is),
                (c.requires.to, c.requires.room),
              ),
            ),
          ),
        ),
      ),
    )

pub expressions::value-comparison-requires : goal.expressions::value-comparison-requires
expressions::value-comparison-requires t c =
    let below-0 : c.in-Compare.a < c.args.k =
    below.compare_left c.args.cx.p.now c.args.k _ _ _ _ c.requires.ordered c.in-Some.ensures c.in-Compare.is in
    let below-1 : c.in-Compare.b < c.args.k =
    below.compare_right c.args.cx.p.now c.args.k _ _ _ _ c.requires.ordered c.in-Some.ensures c.in-Compare.is in (
      search rules,
      (
        c.requires.ordered,
        (
          below-0,
          (
            below-1,
            (
              c.requires.scene,
              (
                (node_at c.args.cx.d.now c.requires.scene.ready c.requires.typed c.in-Some.ensures c.in-Compare.is),
                (c.requires.to, c.requires.room),
              ),
            ),
          ),
        ),
      ),
    )

pub expressions::value-choice-requires : goal.expressions::value-choice-requires
expressions::value-choice-requires t c =
    let below-0 : c.in-Conditional.c < c.args.k =
    below.conditional_test c.args.cx.p.now c.args.k _ _ _ _ c.requires.ordered c.in-Some.ensures
    c.in-Conditional.is in
    let below-1 : c.in-Conditional.a < c.args.k =
    below.conditional_left c.args.cx.p.now c.args.k _ _ _ _ c.requires.ordered c.in-Some.ensures
    c.in-Conditional.is in
    let below-2 : c.in-Conditional.b < c.args.k =
    below.conditional_right c.args.cx.p.now c.args.k _ _ _ _ c.requires.ordered c.in-Some.ensures
    c.in-Conditional.is in (
      search rules,
      (
        c.requires.ordered,
        (
          below-0,
          (
            below-1,
            (
              below-2,
              (
                c.requires.scene,
                (
                  (node_at c.args.cx.d.now c.requires.scene.ready c.requires.typed c.in-Some.ensures
                      c.in-Conditional.is),
                  (c.requires.to, c.requires.room),
                ),
              ),
            ),
          ),
        ),
      ),
    )

pub expressions::value-comma-requires : goal.expressions::value-comma-requires
expressions::value-comma-requires t c =
    let below-0 : c.in-Comma.a < c.args.k =
    below.comma_left c.args.cx.p.now c.args.k _ _ _ c.requires.ordered c.in-Some.ensures c.in-Comma.is in
    let below-1 : c.in-Comma.b < c.args.k =
    below.comma_right c.args.cx.p.now c.args.k _ _ _ c.requires.ordered c.in-Some.ensures c.in-Comma.is in (
      search rules,
      (
        c.requires.ordered,
        (
          below-0,
          (
            below-1,
            (
              c.requires.scene,
              (
                (node_at c.args.cx.d.now c.requires.scene.ready c.requires.typed c.in-Some.ensures c.in-Comma.is),
                (c.requires.to, c.requires.room),
              ),
            ),
          ),
        ),
      ),
    )

pub expressions::value-assignment-requires : goal.expressions::value-assignment-requires
expressions::value-assignment-requires t c =
    let below-0 : c.in-Assign.a < c.args.k =
    below.assign_left c.args.cx.p.now c.args.k _ _ _ c.requires.ordered c.in-Some.ensures c.in-Assign.is in
    let below-1 : c.in-Assign.b < c.args.k =
    below.assign_right c.args.cx.p.now c.args.k _ _ _ c.requires.ordered c.in-Some.ensures c.in-Assign.is in (
      search rules,
      (
        c.requires.ordered,
        (
          below-0,
          (
            below-1,
            (
              c.requires.scene,
              (
                (node_at c.args.cx.d.now c.requires.scene.ready c.requires.typed c.in-Some.ensures c.in-Assign.is),
                (c.requires.to, c.requires.room),
              ),
            ),
          ),
        ),
      ),
    )

pub expressions::value-step-requires : goal.expressions::value-step-requires
expressions::value-step-requires t c =
    let below-0 : c.in-Step.a < c.args.k =
    below.step c.args.cx.p.now c.args.k _ _ _ _ c.requires.ordered c.in-Some.ensures c.in-Step.is in (
      search rules,
      (
        c.requires.ordered,
        (
          below-0,
          (
            c.requires.scene,
            (
              (node_at c.args.cx.d.now c.requires.scene.ready c.requires.typed c.in-Some.ensures c.in-Step.is),
              (c.requires.to, c.requires.room),
            ),
          ),
        ),
      ),
    )

pub expressions::value-call-requires : goal.expressions::value-call-requires
expressions::value-call-requires t c =
    let below-0 : c.in-Call.f < c.args.k =
    below.called c.args.cx.p.now c.args.k _ _ _ c.requires.ordered c.in-Some.ensures c.in-Call.is in (
      search rules,
      (
        c.requires.ordered,
        (
          below-0,
          (
            below.call_arguments c.args.cx.p.now c.args.k _ _ _ _ c.requires.ordered c.in-Some.ensures
                c.in-Call.is c.as_slice.ensures,
            (
              c.requires.scene,
              (
                subst (λ z. CallNode
                    (frame_of c.args.cx.p.now c.args.cx.d.now) c.args.k c.in-Call.f z) (sym c.as_slice.ensures)
                    (node_at c.args.cx.d.now c.requires.scene.ready c.requires.typed c.in-Some.ensures c.in-Call.is),
                (c.asked.ensures.fits _ c.requires.to, c.requires.room),
              ),
            ),
          ),
        ),
      ),
    )

pub expressions::value-library-requires : goal.expressions::value-library-requires
expressions::value-library-requires t c = (
  search rules,
  (
    c.requires.ordered,
    (
      below.library_arguments c.args.cx.p.now c.args.k _ _ _ _ c.requires.ordered c.in-Some.ensures
          c.in-Library.is c.as_slice-in-Library.ensures,
      (
        c.requires.scene,
        (
          subst (λ z. LibraryNode
              (frame_of c.args.cx.p.now c.args.cx.d.now) c.args.k c.in-Library.n z) (sym c.as_slice-in-Library.ensures)
              (node_at c.args.cx.d.now c.requires.scene.ready c.requires.typed c.in-Some.ensures c.in-Library.is),
          (c.asked-in-Library.ensures.fits _ c.requires.to, c.requires.room),
        ),
      ),
    ),
  ),
)

pub expressions::value-truth-requires : goal.expressions::value-truth-requires
expressions::value-truth-requires t c =
    let below-0 : c.in-And.a < c.args.k =
    below.and_left c.args.cx.p.now c.args.k _ _ _ c.requires.ordered c.in-Some.ensures c.in-And.is in
    let below-1 : c.in-And.b < c.args.k =
    below.and_right c.args.cx.p.now c.args.k _ _ _ c.requires.ordered c.in-Some.ensures c.in-And.is in (
      search rules,
      (
        c.requires.ordered,
        (
          (search rules),
          (
            (search rules),
            (
              c.requires.scene,
              (
                subst (λ (z : Junction).
                    TruthNode (frame_of c.args.cx.p.now c.args.cx.d.now) c.args.k z.a z.b) (sym c.and.ensures)
                    (node_at c.args.cx.d.now c.requires.scene.ready c.requires.typed c.in-Some.ensures c.in-And.is),
                (c.requires.to, c.requires.room),
              ),
            ),
          ),
        ),
      ),
    )

pub expressions::value-truth-requires-in-Or : goal.expressions::value-truth-requires-in-Or
expressions::value-truth-requires-in-Or t c =
    let below-0 : c.in-Or.a < c.args.k =
    below.or_left c.args.cx.p.now c.args.k _ _ _ c.requires.ordered c.in-Some.ensures c.in-Or.is in
    let below-1 : c.in-Or.b < c.args.k =
    below.or_right c.args.cx.p.now c.args.k _ _ _ c.requires.ordered c.in-Some.ensures c.in-Or.is in (
      search rules,
      (
        c.requires.ordered,
        (
          (search rules),
          (
            (search rules),
            (
              c.requires.scene,
              (
                subst (λ (z : Junction).
                    TruthNode (frame_of c.args.cx.p.now c.args.cx.d.now) c.args.k z.a z.b) (sym c.or.ensures)
                    (node_at c.args.cx.d.now c.requires.scene.ready c.requires.typed c.in-Some.ensures c.in-Or.is),
                (c.requires.to, c.requires.room),
              ),
            ),
          ),
        ),
      ),
    )

pub expressions::value-compound-requires : goal.expressions::value-compound-requires
expressions::value-compound-requires t c =
    let below-0 : c.in-Compound.a < c.args.k =
    below.compound_left c.args.cx.p.now c.args.k _ _ _ _ _ c.requires.ordered c.in-Some.ensures c.in-Compound.is
    in
    let below-1 : c.in-Compound.b < c.args.k =
    below.compound_right c.args.cx.p.now c.args.k _ _ _ _ _ c.requires.ordered c.in-Some.ensures
    c.in-Compound.is in (
      search rules,
      (
        c.requires.ordered,
        (
          below-0,
          (
            below-1,
            (
              c.requires.scene,
              (
                (node_at c.args.cx.d.now c.requires.scene.ready c.requires.typed c.in-Some.ensures
                    c.in-Compound.is).operands,
                (
                  (node_at c.args.cx.d.now c.requires.scene.ready c.requires.typed c.in-Some.ensures
                      c.in-Compound.is).left,
                  (
                    change_fits c.args.cx.p.now c.in-Compound.op c.in-Compound.a c.in-Compound.b
                        c.in-Compound.of c.change_of-change.result c.change_of-change.ensures.op
                        (c.change_of-change.ensures.computed) (c.change_of-change.ensures.element)
                        (node_at c.args.cx.d.now c.requires.scene.ready c.requires.typed c.in-Some.ensures
                        c.in-Compound.is).fits,
                    (c.requires.to, c.requires.room),
                  ),
                ),
              ),
            ),
          ),
        ),
      ),
    )

pub expressions::value-constant-requires-in-Literal-clause-to :
    goal.expressions::value-constant-requires-in-Literal-clause-to
expressions::value-constant-requires-in-Literal-clause-to t c =
    as_kind c.requires.to (sym (c.kind-kind.ensures c.requires.scene.ready))

pub expressions::value-constant-requires-in-Literal-clause-value :
    goal.expressions::value-constant-requires-in-Literal-clause-value
expressions::value-constant-requires-in-Literal-clause-value t c = zero_fits _

pub expressions::value-returns-in-Literal : goal.expressions::value-returns-in-Literal
expressions::value-returns-in-Literal t c =
    record {
      lowered = tail_grew _ _ c.constant-in-Literal.result
          (start c.requires.scene) c.constant-in-Literal.ensures.grown c.constant-in-Literal.ensures.adds (omega
          arith);
      spends = last_and _ _ _ _ c.constant-in-Literal.result nothing c.constant-in-Literal.ensures.spent
          (omega (arith, heavy (expression c.args.cx.p.now c.args.k), extra_small c.args.cx.fixed (Some c.args.to)))
          (omega (arith, heavy (expression c.args.cx.p.now c.args.k), extra_small c.args.cx.fixed (Some c.args.to)))
          (omega arith);
      is = IfOk-weaker c.constant-in-Literal.result _ _
          (λ r f. value_no_value _ c.requires.ordered c.requires.scene.ready.ordered (is_node c.in-Some.ensures refl)
          (never_value (setting c.args.cx) _ (place_of _ c.in-Literal.is)) f) c.constant-in-Literal.ensures.emits;
    }

pub expressions::choice-fork-fork-requires : goal.expressions::choice-fork-fork-requires
expressions::choice-fork-fork-requires t c =
    record { few = (omega (arith, c.requires.node.operands.weight, c.requires.room.labels)) }

pub expressions::choice-condition-requires : goal.expressions::choice-condition-requires
expressions::choice-condition-requires t c = (
  search rules,
  (
    c.requires.ordered,
    (
      (fork c.requires.scene c.fork-fork.ensures.forked).scene,
      (
        c.requires.node.operands.first,
        (
          second_open (fork c.requires.scene c.fork-fork.ensures.forked),
          opened_room c.requires.room (fork c.requires.scene c.fork-fork.ensures.forked)
              (omega (arith, c.requires.node.operands.weight)),
        ),
      ),
    ),
  ),
)

pub expressions::choice-value-requires : goal.expressions::choice-value-requires
expressions::choice-value-requires t c = (
  search rules,
  (
    c.requires.ordered,
    (
      c.in_ok-condition.ensures.lowered.scene,
      (
        c.requires.node.operands.second,
        (
          as_kind (opened_has c.requires.to (opened
              (fork c.requires.scene c.fork-fork.ensures.forked) c.in_ok-condition.ensures.lowered))
              (sym (ap or_int c.requires.node.left)),
          opened_room c.requires.room (opened (fork c.requires.scene c.fork-fork.ensures.forked)
              c.in_ok-condition.ensures.lowered) (omega (arith, c.requires.node.operands.weight)),
        ),
      ),
    ),
  ),
)

pub expressions::choice-turn_fork-requires : goal.expressions::choice-turn_fork-requires
expressions::choice-turn_fork-requires t c =
    record {
      end = first_open (opened (opened
          (fork c.requires.scene c.fork-fork.ensures.forked) c.in_ok-condition.ensures.lowered)
          c.in_ok-value.ensures.lowered);
    }

pub expressions::choice-value-requires-2 : goal.expressions::choice-value-requires-2
expressions::choice-value-requires-2 t c = (
  search rules,
  (
    c.requires.ordered,
    (
      (turned (opened (opened (fork c.requires.scene c.fork-fork.ensures.forked)
          c.in_ok-condition.ensures.lowered) c.in_ok-value.ensures.lowered) c.in_ok-turn_fork.ensures.turned
          c.in_ok-turn_fork.ensures.adds).scene,
      (
        c.requires.node.operands.third,
        (
          as_kind (opened_has c.requires.to (turned
              (opened (opened (fork c.requires.scene c.fork-fork.ensures.forked) c.in_ok-condition.ensures.lowered)
              c.in_ok-value.ensures.lowered) c.in_ok-turn_fork.ensures.turned c.in_ok-turn_fork.ensures.adds))
              (sym (ap or_int c.requires.node.right)),
          opened_room c.requires.room (turned (opened
              (opened (fork c.requires.scene c.fork-fork.ensures.forked) c.in_ok-condition.ensures.lowered)
              c.in_ok-value.ensures.lowered) c.in_ok-turn_fork.ensures.turned c.in_ok-turn_fork.ensures.adds)
              (omega (arith, c.requires.node.operands.weight)),
        ),
      ),
    ),
  ),
)

pub expressions::choice-returns : goal.expressions::choice-returns
expressions::choice-returns t c =
    record {
      lowered = tail_stands _ c.join_fork.result (opened (turned
          (opened (opened (fork c.requires.scene c.fork-fork.ensures.forked) c.in_ok-condition.ensures.lowered)
          c.in_ok-value.ensures.lowered) c.in_ok-turn_fork.ensures.turned c.in_ok-turn_fork.ensures.adds)
          c.in_ok-value-2.ensures.lowered) c.join_fork.ensures.stands (omega (arith, c.requires.node.operands.weight));
      spends = last_pushed _ _ c.join_fork.result (after
          (and (after (after (plainly (forked_spent c.fork-fork.ensures.forked)) c.in_ok-condition.ensures.spends)
          c.in_ok-value.ensures.spends) c.in_ok-turn_fork.ensures.spent) c.in_ok-value-2.ensures.spends)
          c.join_fork.ensures.stands (omega (
            arith,
            c.requires.node.operands.weight,
            heavy (expression c.args.cx.p.now c.args.k),
            heavy (expression c.args.cx.p.now c.args.c),
            heavy (expression c.args.cx.p.now c.args.a),
            heavy (expression c.args.cx.p.now c.args.b),
            extra_small c.args.cx.fixed (Some c.args.to),
          ))
          (omega (
            arith,
            c.requires.node.operands.weight,
            heavy (expression c.args.cx.p.now c.args.k),
            heavy (expression c.args.cx.p.now c.args.c),
            heavy (expression c.args.cx.p.now c.args.a),
            heavy (expression c.args.cx.p.now c.args.b),
            extra_small c.args.cx.fixed (Some c.args.to),
          ))
          (omega (arith, c.requires.node.operands.copies)) refl refl;
      is = IfOk-weaker c.join_fork.result _ _
          (λ r f n. value_choice _ c.requires.ordered c.requires.scene.ready.ordered c.args.cx.d.now n c.requires.node
          c.fork-fork.ensures.forked c.in_ok-condition.ensures.is c.in_ok-value.ensures.is
          c.in_ok-turn_fork.ensures.emits
          c.in_ok-value-2.ensures.is (one_emits _ _ _ refl f)) c.join_fork.ensures.stands;
    }

pub expressions::comma-effect-requires : goal.expressions::comma-effect-requires
expressions::comma-effect-requires t c = (
  search rules,
  (
    c.requires.ordered,
    (
      c.requires.scene,
      (
        c.requires.node.operands.left,
        less_room c.requires.room (omega (arith, c.requires.node.operands.weight)),
      ),
    ),
  ),
)

pub expressions::comma-value-requires : goal.expressions::comma-value-requires
expressions::comma-value-requires t c = (
  search rules,
  (
    c.requires.ordered,
    (
      c.in_ok-effect.ensures.lowered.scene,
      (
        c.requires.node.operands.right,
        (
          as_kind (still c.requires.to c.in_ok-effect.ensures.lowered) (sym (ap or_int c.requires.node.right)),
          room c.requires.room c.in_ok-effect.ensures.lowered (omega (arith, c.requires.node.operands.weight)),
        ),
      ),
    ),
  ),
)

pub expressions::comma-returns : goal.expressions::comma-returns
expressions::comma-returns t c =
    record {
      lowered = tail _ _ c.value.result c.in_ok-effect.ensures.lowered c.value.ensures.lowered
          (omega (arith, c.requires.node.operands.weight));
      spends = last _ _ _ _ c.value.result c.in_ok-effect.ensures.spends c.value.ensures.spends
          (omega (
            arith,
            c.requires.node.operands.weight,
            heavy (expression c.args.cx.p.now c.args.k),
            heavy (expression c.args.cx.p.now c.args.a),
            heavy (expression c.args.cx.p.now c.args.b),
            extra_small c.args.cx.fixed (Some c.args.to),
          ))
          (omega (
            arith,
            c.requires.node.operands.weight,
            heavy (expression c.args.cx.p.now c.args.k),
            heavy (expression c.args.cx.p.now c.args.a),
            heavy (expression c.args.cx.p.now c.args.b),
            extra_small c.args.cx.fixed (Some c.args.to),
          ))
          (omega (arith, c.requires.node.operands.copies));
      is = IfOk-weaker c.value.result _ _
          (λ r h n. value_comma _ c.requires.ordered c.requires.scene.ready.ordered c.args.cx.d.now n c.requires.node
          c.in_ok-effect.ensures.is h) c.value.ensures.is;
    }

pub expressions::integer-pair-requires : goal.expressions::integer-pair-requires
expressions::integer-pair-requires t c = (
  search rules,
  (
    c.requires.ordered,
    (
      c.requires.a_before,
      (
        c.requires.b_before,
        (c.requires.scene, (c.requires.node.operands, less_room c.requires.room (omega arith))),
      ),
    ),
  ),
)

pub expressions::integer-whole-requires-clause-room : goal.expressions::integer-whole-requires-clause-room
expressions::integer-whole-requires-clause-room t c =
    room c.requires.room c.in_ok-x.ensures.lowered (omega (arith, c.requires.node.operands.weight))

pub expressions::integer-whole-requires-clause-to : goal.expressions::integer-whole-requires-clause-to
expressions::integer-whole-requires-clause-to t c =
    (as_kind (still c.requires.to c.in_ok-x.ensures.lowered)
    (scalar_kind c.requires.node.is
    ∙ ap kinds.Int (sym (c.int_kind.ensures _
    (c.kind.ensures c.requires.scene.ready ∙ scalar_kind c.requires.node.is)))))

pub expressions::integer-whole-requires-clause-a : goal.expressions::integer-whole-requires-clause-a
expressions::integer-whole-requires-clause-a t c =
    as_kind c.in_ok-x.ensures.left (c.in_ok-x.ensures.left_kind ∙ scalar_kind c.requires.node.left
    ∙ ap kinds.Int (sym (c.int_kind.ensures _
    (c.kind.ensures c.requires.scene.ready ∙ scalar_kind c.requires.node.is))))

pub expressions::integer-whole-requires-clause-y : goal.expressions::integer-whole-requires-clause-y
expressions::integer-whole-requires-clause-y t c = c.in_ok-x.ensures.right

pub expressions::integer-whole-requires-clause-right : goal.expressions::integer-whole-requires-clause-right
expressions::integer-whole-requires-clause-right t c =
    right_as (is_shift c.args.op) _ _ _ _ (sym
    (c.int_kind.ensures _ (c.kind.ensures c.requires.scene.ready ∙ scalar_kind c.requires.node.is)))
    (sym (c.in_ok-x.ensures.right_kind ∙ scalar_kind c.requires.node.right)) c.requires.node.right_fits

pub expressions::integer-returns : goal.expressions::integer-returns
expressions::integer-returns t c =
    record {
      lowered = tail_grew _ _ c.whole.result c.in_ok-x.ensures.lowered c.whole.ensures.grown c.whole.ensures.adds
          (omega (arith, c.requires.node.operands.weight));
      spends = last_and _ _ _ _ c.whole.result c.in_ok-x.ensures.spends c.whole.ensures.spent
          (omega (
            arith,
            c.requires.node.operands.weight,
            heavy (expression c.args.cx.p.now c.args.k),
            heavy (expression c.args.cx.p.now c.args.a),
            heavy (expression c.args.cx.p.now c.args.b),
            extra_small c.args.cx.fixed (Some c.args.to),
          ))
          (omega (
            arith,
            c.requires.node.operands.weight,
            heavy (expression c.args.cx.p.now c.args.k),
            heavy (expression c.args.cx.p.now c.args.a),
            heavy (expression c.args.cx.p.now c.args.b),
            extra_small c.args.cx.fixed (Some c.args.to),
          ))
          (omega (arith, c.requires.node.operands.copies));
      is = IfOk-weaker c.whole.result _ _
          (λ r f n. value_integer _ c.requires.ordered c.requires.scene.ready.ordered c.args.cx.d.now n c.requires.node
          (λ z e. c.int_kind.ensures z (c.kind.ensures c.requires.scene.ready ∙ e)) c.in_ok-x.ensures.right_kind
          c.in_ok-x.ensures.is f) c.whole.ensures.emits;
    }

pub expressions::capability-pair-requires : goal.expressions::capability-pair-requires
expressions::capability-pair-requires t c = (
  search rules,
  (
    c.requires.ordered,
    (
      c.requires.a_before,
      (
        c.requires.b_before,
        (c.requires.scene, (c.requires.node.operands, less_room c.requires.room (omega arith))),
      ),
    ),
  ),
)

pub expressions::capability-derived-requires-clause-room : goal.expressions::capability-derived-requires-clause-room
expressions::capability-derived-requires-clause-room t c =
    room c.requires.room c.in_ok-x.ensures.lowered (omega (arith, c.requires.node.operands.weight))

pub expressions::capability-derived-requires-clause-to : goal.expressions::capability-derived-requires-clause-to
expressions::capability-derived-requires-clause-to t c =
    (as_kind (still c.requires.to c.in_ok-x.ensures.lowered)
    (scalar_kind c.requires.node.is
    ∙ ap kinds.Cap (sym (c.is_signed-signed.ensures _
    (c.kind.ensures c.requires.scene.ready ∙ scalar_kind c.requires.node.is)))))

pub expressions::capability-derived-requires-clause-x : goal.expressions::capability-derived-requires-clause-x
expressions::capability-derived-requires-clause-x t c =
    as_kind c.in_ok-x.ensures.left (c.in_ok-x.ensures.left_kind ∙ scalar_kind c.requires.node.left
    ∙ ap kinds.Cap (sym (c.is_signed-signed.ensures _
    (c.kind.ensures c.requires.scene.ready ∙ scalar_kind c.requires.node.is))))

pub expressions::capability-derived-requires-clause-x_kind :
    goal.expressions::capability-derived-requires-clause-x_kind
expressions::capability-derived-requires-clause-x_kind t c =
    c.in_ok-x.ensures.left_kind ∙ scalar_kind c.requires.node.left
    ∙ ap kinds.Cap (sym (c.is_signed-signed.ensures _
    (c.kind.ensures c.requires.scene.ready ∙ scalar_kind c.requires.node.is)))

pub expressions::capability-derived-requires-clause-y : goal.expressions::capability-derived-requires-clause-y
expressions::capability-derived-requires-clause-y t c = c.in_ok-x.ensures.right

pub expressions::capability-returns : goal.expressions::capability-returns
expressions::capability-returns t c =
    record {
      lowered = tail_grew _ _ c.derived.result c.in_ok-x.ensures.lowered c.derived.ensures.grown c.derived.ensures.adds
          (omega (arith, c.requires.node.operands.weight));
      spends = last_and _ _ _ _ c.derived.result c.in_ok-x.ensures.spends c.derived.ensures.spent
          (omega (
            arith,
            c.requires.node.operands.weight,
            heavy (expression c.args.cx.p.now c.args.k),
            heavy (expression c.args.cx.p.now c.args.a),
            heavy (expression c.args.cx.p.now c.args.b),
            extra_small c.args.cx.fixed (Some c.args.to),
          ))
          (omega (
            arith,
            c.requires.node.operands.weight,
            heavy (expression c.args.cx.p.now c.args.k),
            heavy (expression c.args.cx.p.now c.args.a),
            heavy (expression c.args.cx.p.now c.args.b),
            extra_small c.args.cx.fixed (Some c.args.to),
          ))
          (omega (arith, c.requires.node.operands.copies));
      is = IfOk-weaker c.derived.result _ _
          (λ r f n. value_capability _ c.requires.ordered c.requires.scene.ready.ordered c.args.cx.d.now n
          c.requires.node
          (λ y e. c.is_signed-signed.ensures y (c.kind.ensures c.requires.scene.ready ∙ e))
          c.in_ok-x.ensures.right_kind
          c.in_ok-x.ensures.is f) c.derived.ensures.emits;
    }

pub expressions::distance-pair-requires : goal.expressions::distance-pair-requires
expressions::distance-pair-requires t c = (
  search rules,
  (
    c.requires.ordered,
    (
      c.requires.a_before,
      (
        c.requires.b_before,
        (c.requires.scene, (c.requires.node.operands, less_room c.requires.room (omega arith))),
      ),
    ),
  ),
)

pub expressions::distance-difference-requires-clause-room : goal.expressions::distance-difference-requires-clause-room
expressions::distance-difference-requires-clause-room t c =
    room c.requires.room c.in_ok-x.ensures.lowered (omega (arith, c.requires.node.operands.weight))

pub expressions::distance-difference-requires-clause-to : goal.expressions::distance-difference-requires-clause-to
expressions::distance-difference-requires-clause-to t c =
    (as_kind (still c.requires.to c.in_ok-x.ensures.lowered) (scalar_kind c.requires.node.is))

pub expressions::distance-difference-requires-clause-a : goal.expressions::distance-difference-requires-clause-a
expressions::distance-difference-requires-clause-a t c =
    as_kind c.in_ok-x.ensures.left (c.in_ok-x.ensures.left_kind ∙ scalar_kind c.requires.node.left)

pub expressions::distance-difference-requires-clause-b : goal.expressions::distance-difference-requires-clause-b
expressions::distance-difference-requires-clause-b t c =
    as_kind c.in_ok-x.ensures.right (c.in_ok-x.ensures.right_kind ∙ scalar_kind c.requires.node.right)

pub expressions::distance-returns : goal.expressions::distance-returns
expressions::distance-returns t c =
    record {
      lowered = tail_grew _ _ c.difference.result c.in_ok-x.ensures.lowered c.difference.ensures.grown
          c.difference.ensures.adds
          (omega (arith, c.requires.node.operands.weight));
      spends = last_and _ _ _ _ c.difference.result c.in_ok-x.ensures.spends c.difference.ensures.spent
          (omega (
            arith,
            c.requires.node.operands.weight,
            heavy (expression c.args.cx.p.now c.args.k),
            heavy (expression c.args.cx.p.now c.args.a),
            heavy (expression c.args.cx.p.now c.args.b),
            extra_small c.args.cx.fixed (Some c.args.to),
          ))
          (omega (
            arith,
            c.requires.node.operands.weight,
            heavy (expression c.args.cx.p.now c.args.k),
            heavy (expression c.args.cx.p.now c.args.a),
            heavy (expression c.args.cx.p.now c.args.b),
            extra_small c.args.cx.fixed (Some c.args.to),
          ))
          (omega (arith, c.requires.node.operands.copies));
      is = (let ready = c.requires.scene.ready in
          IfOk-weaker c.difference.result _ _
          (λ r f n. value_distance _ c.requires.ordered ready.ordered c.args.cx.d.now n c.requires.node
          (subst (IsPointed c.args.cx.p.now.types (type_at c.args.cx.p.now c.args.a)) (sym c.unwrap_or-size.ensures)
          (given_is _ c.pointed_size.result 0 (c.pointed_size.ensures.is ready ∙ points_there c.requires.node.pointed)
          (c.pointed_size.ensures.size ready))) c.in_ok-x.ensures.is f) c.difference.ensures.emits);
    }

pub expressions::effect-returns-in_default : goal.expressions::effect-returns-in_default
expressions::effect-returns-in_default t c =
    record {
      lowered = at_most (start c.requires.scene) (omega arith);
      spends = within nothing (omega (arith, heavy (expression c.args.cx.p.now c.args.k)))
          (omega (arith, heavy (expression c.args.cx.p.now c.args.k)))
          (omega arith);
      is = effect_no_node _ c.requires.ordered c.requires.scene.ready.ordered _ _ c.in_default.ensures;
      places = place_effect_no_node _ c.requires.ordered c.requires.scene.ready.ordered _ _ c.in_default.ensures;
    }

pub expressions::effect-effect-requires : goal.expressions::effect-effect-requires
expressions::effect-effect-requires t c =
    let below-0 : c.in-Convert.a < c.args.k =
    below.convert c.args.cx.p.now c.args.k _ _ c.requires.ordered c.in-Some.ensures c.in-Convert.is in (
      search rules,
      (
        c.requires.ordered,
        (
          c.requires.scene,
          (
            (node_at c.args.cx.d.now c.requires.scene.ready c.requires.typed c.in-Some.ensures
                c.in-Convert.is).operand,
            less_room c.requires.room (omega (
              arith,
              (node_at c.args.cx.d.now c.requires.scene.ready c.requires.typed c.in-Some.ensures
                  c.in-Convert.is).weight,
            )),
          ),
        ),
      ),
    )

pub expressions::effect-returns-in-Convert : goal.expressions::effect-returns-in-Convert
expressions::effect-returns-in-Convert t c =
    record {
      lowered = tail _ _ c.effect.result (start c.requires.scene) c.effect.ensures.lowered
          (omega (
            arith,
            (node_at c.args.cx.d.now c.requires.scene.ready c.requires.typed c.in-Some.ensures
                c.in-Convert.is).weight,
          ));
      spends = last _ _ _ _ c.effect.result nothing c.effect.ensures.spends
          (omega (
            arith,
            (node_at c.args.cx.d.now c.requires.scene.ready c.requires.typed c.in-Some.ensures
                c.in-Convert.is).weight,
            heavy (expression c.args.cx.p.now c.args.k),
            heavy (expression c.args.cx.p.now c.in-Convert.a),
          ))
          (omega (
            arith,
            (node_at c.args.cx.d.now c.requires.scene.ready c.requires.typed c.in-Some.ensures
                c.in-Convert.is).weight,
            heavy (expression c.args.cx.p.now c.args.k),
            heavy (expression c.args.cx.p.now c.in-Convert.a),
          ))
          (omega (
            arith,
            (node_at c.args.cx.d.now c.requires.scene.ready c.requires.typed c.in-Some.ensures
                c.in-Convert.is).copies,
          ));
      is = IfOk-weaker c.effect.result _ _
          (λ r h. effect_converted _ c.requires.ordered c.requires.scene.ready.ordered
          (record { node = _; there = c.in-Some.ensures; is = c.in-Convert.is }) h) c.effect.ensures.is;
      places = IfOk-weaker c.effect.result _ _
          (λ r h. place_effect_converted _ c.requires.ordered c.requires.scene.ready.ordered
          (record { node = _; there = c.in-Some.ensures; is = c.in-Convert.is }) h) c.effect.ensures.places;
    }

pub expressions::effect-effect-requires-in-Deref : goal.expressions::effect-effect-requires-in-Deref
expressions::effect-effect-requires-in-Deref t c =
    let below-0 : c.in-Deref.a < c.args.k =
    below.deref c.args.cx.p.now c.args.k _ _ c.requires.ordered c.in-Some.ensures c.in-Deref.is in (
      search rules,
      (
        c.requires.ordered,
        (
          c.requires.scene,
          (
            (node_at c.args.cx.d.now c.requires.scene.ready c.requires.typed c.in-Some.ensures
                c.in-Deref.is).operands.operand,
            less_room c.requires.room (omega (
              arith,
              (node_at c.args.cx.d.now c.requires.scene.ready c.requires.typed c.in-Some.ensures
                  c.in-Deref.is).operands.weight,
            )),
          ),
        ),
      ),
    )

pub expressions::effect-returns-in-Deref : goal.expressions::effect-returns-in-Deref
expressions::effect-returns-in-Deref t c =
    record {
      lowered = tail _ _ c.effect-in-Deref.result (start c.requires.scene) c.effect-in-Deref.ensures.lowered
          (omega (
            arith,
            (node_at c.args.cx.d.now c.requires.scene.ready c.requires.typed c.in-Some.ensures
                c.in-Deref.is).operands.weight,
          ));
      spends = last _ _ _ _ c.effect-in-Deref.result nothing c.effect-in-Deref.ensures.spends
          (omega (
            arith,
            (node_at c.args.cx.d.now c.requires.scene.ready c.requires.typed c.in-Some.ensures
                c.in-Deref.is).operands.weight,
            heavy (expression c.args.cx.p.now c.args.k),
            heavy (expression c.args.cx.p.now c.in-Deref.a),
          ))
          (omega (
            arith,
            (node_at c.args.cx.d.now c.requires.scene.ready c.requires.typed c.in-Some.ensures
                c.in-Deref.is).operands.weight,
            heavy (expression c.args.cx.p.now c.args.k),
            heavy (expression c.args.cx.p.now c.in-Deref.a),
          ))
          (omega (
            arith,
            (node_at c.args.cx.d.now c.requires.scene.ready c.requires.typed c.in-Some.ensures
                c.in-Deref.is).operands.copies,
          ));
      is = IfOk-weaker c.effect-in-Deref.result _ _
          (λ r h. effect_deref _ c.requires.ordered c.requires.scene.ready.ordered
          (record { node = _; there = c.in-Some.ensures; is = c.in-Deref.is }) h) c.effect-in-Deref.ensures.is;
      places = IfOk-weaker c.effect-in-Deref.result _ _
          (λ r h. place_effect_deref _ c.requires.ordered c.requires.scene.ready.ordered
          (record { node = _; there = c.in-Some.ensures; is = c.in-Deref.is }) h) c.effect-in-Deref.ensures.is;
    }

pub expressions::effect-effect-requires-in-Member : goal.expressions::effect-effect-requires-in-Member
expressions::effect-effect-requires-in-Member t c =
    let below-0 : c.in-Member.a < c.args.k =
    below.member c.args.cx.p.now c.args.k _ _ _ c.requires.ordered c.in-Some.ensures c.in-Member.is in (
      search rules,
      (
        c.requires.ordered,
        (
          c.requires.scene,
          (
            (node_at c.args.cx.d.now c.requires.scene.ready c.requires.typed c.in-Some.ensures
                c.in-Member.is).operand,
            less_room c.requires.room
                (omega (
                  arith,
                  (node_at c.args.cx.d.now c.requires.scene.ready c.requires.typed c.in-Some.ensures
                      c.in-Member.is).weight,
                )),
          ),
        ),
      ),
    )

pub expressions::effect-returns-in-Member : goal.expressions::effect-returns-in-Member
expressions::effect-returns-in-Member t c =
    record {
      lowered = tail _ _ c.effect-in-Member.result (start c.requires.scene) c.effect-in-Member.ensures.lowered
          (omega (
            arith,
            (node_at c.args.cx.d.now c.requires.scene.ready c.requires.typed c.in-Some.ensures
                c.in-Member.is).weight,
          ));
      spends = last _ _ _ _ c.effect-in-Member.result nothing c.effect-in-Member.ensures.spends
          (omega (
            arith,
            (node_at c.args.cx.d.now c.requires.scene.ready c.requires.typed c.in-Some.ensures
                c.in-Member.is).weight,
            heavy (expression c.args.cx.p.now c.args.k),
            heavy (expression c.args.cx.p.now c.in-Member.a),
          ))
          (omega (
            arith,
            (node_at c.args.cx.d.now c.requires.scene.ready c.requires.typed c.in-Some.ensures
                c.in-Member.is).weight,
            heavy (expression c.args.cx.p.now c.args.k),
            heavy (expression c.args.cx.p.now c.in-Member.a),
          ))
          (omega (
            arith,
            (node_at c.args.cx.d.now c.requires.scene.ready c.requires.typed c.in-Some.ensures
                c.in-Member.is).copies,
          ));
      is = IfOk-weaker c.effect-in-Member.result _ _
          (λ r h. effect_member _ c.requires.ordered c.requires.scene.ready.ordered
          (record { node = _; there = c.in-Some.ensures; is = c.in-Member.is }) h) c.effect-in-Member.ensures.places;
      places = IfOk-weaker c.effect-in-Member.result _ _
          (λ r h. place_effect_member _ c.requires.ordered c.requires.scene.ready.ordered
          (record { node = _; there = c.in-Some.ensures; is = c.in-Member.is }) h) c.effect-in-Member.ensures.places;
    }

pub expressions::effect-assignment-requires : goal.expressions::effect-assignment-requires
expressions::effect-assignment-requires t c =
    let below-0 : c.in-Assign.a < c.args.k =
    below.assign_left c.args.cx.p.now c.args.k _ _ _ c.requires.ordered c.in-Some.ensures c.in-Assign.is in
    let below-1 : c.in-Assign.b < c.args.k =
    below.assign_right c.args.cx.p.now c.args.k _ _ _ c.requires.ordered c.in-Some.ensures c.in-Assign.is in (
      search rules,
      (
        c.requires.ordered,
        (
          below-0,
          (
            below-1,
            (
              c.requires.scene,
              (
                (node_at c.args.cx.d.now c.requires.scene.ready c.requires.typed c.in-Some.ensures c.in-Assign.is),
                ((search rules), less_room c.requires.room (omega arith)),
              ),
            ),
          ),
        ),
      ),
    )

pub expressions::effect-step-requires : goal.expressions::effect-step-requires
expressions::effect-step-requires t c =
    let below-0 : c.in-Step.a < c.args.k =
    below.step c.args.cx.p.now c.args.k _ _ _ _ c.requires.ordered c.in-Some.ensures c.in-Step.is in (
      search rules,
      (
        c.requires.ordered,
        (
          below-0,
          (
            c.requires.scene,
            (
              (node_at c.args.cx.d.now c.requires.scene.ready c.requires.typed c.in-Some.ensures c.in-Step.is),
              ((search rules), less_room c.requires.room (omega arith)),
            ),
          ),
        ),
      ),
    )

pub expressions::effect-call-requires : goal.expressions::effect-call-requires
expressions::effect-call-requires t c =
    let below-0 : c.in-Call.f < c.args.k =
    below.called c.args.cx.p.now c.args.k _ _ _ c.requires.ordered c.in-Some.ensures c.in-Call.is in (
      search rules,
      (
        c.requires.ordered,
        (
          below-0,
          (
            below.call_arguments c.args.cx.p.now c.args.k _ _ _ _ c.requires.ordered c.in-Some.ensures
                c.in-Call.is c.as_slice.ensures,
            (
              c.requires.scene,
              (
                subst (λ z. CallNode
                    (frame_of c.args.cx.p.now c.args.cx.d.now) c.args.k c.in-Call.f z) (sym c.as_slice.ensures)
                    (node_at c.args.cx.d.now c.requires.scene.ready c.requires.typed c.in-Some.ensures c.in-Call.is),
                ((search rules), less_room c.requires.room (omega arith)),
              ),
            ),
          ),
        ),
      ),
    )

pub expressions::effect-library-requires : goal.expressions::effect-library-requires
expressions::effect-library-requires t c = (
  search rules,
  (
    c.requires.ordered,
    (
      below.library_arguments c.args.cx.p.now c.args.k _ _ _ _ c.requires.ordered c.in-Some.ensures
          c.in-Library.is c.as_slice-in-Library.ensures,
      (
        c.requires.scene,
        (
          subst (λ z. LibraryNode
              (frame_of c.args.cx.p.now c.args.cx.d.now) c.args.k c.in-Library.n z) (sym c.as_slice-in-Library.ensures)
              (node_at c.args.cx.d.now c.requires.scene.ready c.requires.typed c.in-Some.ensures c.in-Library.is),
          ((search rules), less_room c.requires.room (omega arith)),
        ),
      ),
    ),
  ),
)

pub expressions::effect-chosen_effect-requires : goal.expressions::effect-chosen_effect-requires
expressions::effect-chosen_effect-requires t c =
    let below-0 : c.in-Conditional.c < c.args.k =
    below.conditional_test c.args.cx.p.now c.args.k _ _ _ _ c.requires.ordered c.in-Some.ensures
    c.in-Conditional.is in
    let below-1 : c.in-Conditional.a < c.args.k =
    below.conditional_left c.args.cx.p.now c.args.k _ _ _ _ c.requires.ordered c.in-Some.ensures
    c.in-Conditional.is in
    let below-2 : c.in-Conditional.b < c.args.k =
    below.conditional_right c.args.cx.p.now c.args.k _ _ _ _ c.requires.ordered c.in-Some.ensures
    c.in-Conditional.is in (
      search rules,
      (
        c.requires.ordered,
        (
          below-0,
          (
            below-1,
            (
              below-2,
              (
                c.requires.scene,
                (
                  (node_at c.args.cx.d.now c.requires.scene.ready c.requires.typed c.in-Some.ensures
                      c.in-Conditional.is).operands,
                  c.requires.room,
                ),
              ),
            ),
          ),
        ),
      ),
    )

pub expressions::effect-guarded_effect-requires : goal.expressions::effect-guarded_effect-requires
expressions::effect-guarded_effect-requires t c =
    let below-0 : c.in-And.a < c.args.k =
    below.and_left c.args.cx.p.now c.args.k _ _ _ c.requires.ordered c.in-Some.ensures c.in-And.is in
    let below-1 : c.in-And.b < c.args.k =
    below.and_right c.args.cx.p.now c.args.k _ _ _ c.requires.ordered c.in-Some.ensures c.in-And.is in (
      search rules,
      (
        c.requires.ordered,
        (
          below-0,
          (
            below-1,
            (
              c.requires.scene,
              (
                (node_at c.args.cx.d.now c.requires.scene.ready c.requires.typed c.in-Some.ensures
                    c.in-And.is).operands,
                c.requires.room,
              ),
            ),
          ),
        ),
      ),
    )

pub expressions::effect-guarded_effect-requires-in-Or : goal.expressions::effect-guarded_effect-requires-in-Or
expressions::effect-guarded_effect-requires-in-Or t c =
    let below-0 : c.in-Or.a < c.args.k =
    below.or_left c.args.cx.p.now c.args.k _ _ _ c.requires.ordered c.in-Some.ensures c.in-Or.is in
    let below-1 : c.in-Or.b < c.args.k =
    below.or_right c.args.cx.p.now c.args.k _ _ _ c.requires.ordered c.in-Some.ensures c.in-Or.is in (
      search rules,
      (
        c.requires.ordered,
        (
          below-0,
          (
            below-1,
            (
              c.requires.scene,
              (
                (node_at c.args.cx.d.now c.requires.scene.ready c.requires.typed c.in-Some.ensures
                    c.in-Or.is).operands,
                c.requires.room,
              ),
            ),
          ),
        ),
      ),
    )

pub expressions::effect-read_effect-requires : goal.expressions::effect-read_effect-requires
expressions::effect-read_effect-requires t c =
    let below-0 : c.in-Load.a < c.args.k =
    below.load c.args.cx.p.now c.args.k _ _ c.requires.ordered c.in-Some.ensures c.in-Load.is in (
      search rules,
      (
        c.requires.ordered,
        (
          below-0,
          (
            c.requires.scene,
            (
              (node_at c.args.cx.d.now c.requires.scene.ready c.requires.typed c.in-Some.ensures c.in-Load.is),
              c.requires.room,
            ),
          ),
        ),
      ),
    )

pub expressions::effect-returns-in-Assign : goal.expressions::effect-returns-in-Assign
expressions::effect-returns-in-Assign t c =
    record {
      lowered = tail _ _ c.assignment.result (start c.requires.scene) c.assignment.ensures.lowered (omega arith);
      spends = last _ _ _ _ c.assignment.result nothing c.assignment.ensures.spends (omega (
        arith,
        extra_none
            c.args.cx.fixed,
      ))
          (omega (arith, extra_none c.args.cx.fixed))
          (omega arith);
      is = (let n = is_node c.in-Some.ensures c.in-Assign.is in
          let whole = whole_assign c.args.cx.d.now c.requires.scene.ready c.requires.typed c.in-Some.ensures _ _
          c.in-Assign.is in
          both_weaker c.assignment.result _ _ _
          (λ r h f. effect_assigned _ c.requires.ordered c.requires.scene.ready.ordered n whole (h n) (f n))
          c.assignment.ensures.is c.assignment.ensures.copies);
      places = (let n = is_node c.in-Some.ensures c.in-Assign.is in
          let whole = whole_assign c.args.cx.d.now c.requires.scene.ready c.requires.typed c.in-Some.ensures _ _
          c.in-Assign.is in
          both_weaker c.assignment.result _ _ _
          (λ r h f. place_effect_assigned _ c.requires.ordered c.requires.scene.ready.ordered n whole (h n) (f n))
          c.assignment.ensures.is c.assignment.ensures.copies);
    }

pub expressions::effect-compound-requires : goal.expressions::effect-compound-requires
expressions::effect-compound-requires t c =
    let below-0 : c.in-Compound.a < c.args.k =
    below.compound_left c.args.cx.p.now c.args.k _ _ _ _ _ c.requires.ordered c.in-Some.ensures c.in-Compound.is
    in
    let below-1 : c.in-Compound.b < c.args.k =
    below.compound_right c.args.cx.p.now c.args.k _ _ _ _ _ c.requires.ordered c.in-Some.ensures
    c.in-Compound.is in (
      search rules,
      (
        c.requires.ordered,
        (
          below-0,
          (
            below-1,
            (
              c.requires.scene,
              (
                (node_at c.args.cx.d.now c.requires.scene.ready c.requires.typed c.in-Some.ensures
                    c.in-Compound.is).operands,
                (
                  (node_at c.args.cx.d.now c.requires.scene.ready c.requires.typed c.in-Some.ensures
                      c.in-Compound.is).left,
                  (
                    change_fits c.args.cx.p.now c.in-Compound.op c.in-Compound.a c.in-Compound.b
                        c.in-Compound.of c.change_of-change.result c.change_of-change.ensures.op
                        (c.change_of-change.ensures.computed) (c.change_of-change.ensures.element)
                        (node_at c.args.cx.d.now c.requires.scene.ready c.requires.typed c.in-Some.ensures
                        c.in-Compound.is).fits,
                    ((search rules), less_room c.requires.room (omega arith)),
                  ),
                ),
              ),
            ),
          ),
        ),
      ),
    )

pub expressions::effect-returns-in-Compound : goal.expressions::effect-returns-in-Compound
expressions::effect-returns-in-Compound t c =
    record {
      lowered = tail _ _ c.compound.result (start c.requires.scene) c.compound.ensures.lowered (omega arith);
      spends = last _ _ _ _ c.compound.result nothing c.compound.ensures.spends (omega (
        arith,
        extra_none
            c.args.cx.fixed,
      ))
          (omega (arith, extra_none c.args.cx.fixed))
          (omega arith);
      is = (let n = node_at c.args.cx.d.now c.requires.scene.ready c.requires.typed c.in-Some.ensures c.in-Compound.is
          in
          let there = is_node c.in-Some.ensures c.in-Compound.is in
          let w = has_compound c.args.cx.d.now c.requires.scene.ready c.requires.typed c.in-Some.ensures _ _ _ _
          c.in-Compound.is in
          IfOk-weaker c.compound.result _ _
          (λ r h. effect_changed _ c.requires.ordered c.requires.scene.ready.ordered there refl w
          (h _ _ there n c.change_of-change.ensures.is)) c.compound.ensures.is);
      places = (let n = node_at c.args.cx.d.now c.requires.scene.ready c.requires.typed c.in-Some.ensures
          c.in-Compound.is in
          let there = is_node c.in-Some.ensures c.in-Compound.is in
          IfOk-weaker c.compound.result _ _
          (λ r h. place_effect_never _ c.requires.ordered c.requires.scene.ready.ordered there refl
          (h _ _ there n c.change_of-change.ensures.is)) c.compound.ensures.is);
    }

pub expressions::effect-returns-in-Step : goal.expressions::effect-returns-in-Step
expressions::effect-returns-in-Step t c =
    record {
      lowered = tail _ _ c.step.result (start c.requires.scene) c.step.ensures.lowered (omega arith);
      spends = last _ _ _ _ c.step.result nothing c.step.ensures.spends (omega (arith, extra_none c.args.cx.fixed))
          (omega (arith, extra_none c.args.cx.fixed))
          (omega arith);
      is = (let n = node_at c.args.cx.d.now c.requires.scene.ready c.requires.typed c.in-Some.ensures c.in-Step.is in
          let there = is_node c.in-Some.ensures c.in-Step.is in
          IfOk-weaker c.step.result _ _
          (λ r h. effect_changed _ c.requires.ordered c.requires.scene.ready.ordered there refl
          (record { kind = n.kind; is = n.is }) (h there)) c.step.ensures.is);
      places = (let there = is_node c.in-Some.ensures c.in-Step.is in
          IfOk-weaker c.step.result _ _
          (λ r h. place_effect_never _ c.requires.ordered c.requires.scene.ready.ordered there refl (h there))
          c.step.ensures.is);
    }

pub expressions::effect-returns-in-Call : goal.expressions::effect-returns-in-Call
expressions::effect-returns-in-Call t c =
    record {
      lowered = tail _ _ c.call.result (start c.requires.scene) c.call.ensures.lowered (omega arith);
      spends = last _ _ _ _ c.call.result nothing c.call.ensures.spends
          (omega (arith, heavy (expression c.args.cx.p.now c.args.k)))
          (omega (arith, heavy (expression c.args.cx.p.now c.args.k)))
          (omega arith);
      is = (let there = is_node c.in-Some.ensures c.in-Call.is in
          IfOk-weaker c.call.result _ _
          (λ r h. effect_called _ c.requires.ordered c.requires.scene.ready.ordered there refl
          (h (subst (λ z. IsNode c.args.cx.p.now c.args.k (exprs.Call c.in-Call.f z)) (sym c.as_slice.ensures) there)))
          c.call.ensures.is);
      places = (let there = is_node c.in-Some.ensures c.in-Call.is in
          IfOk-weaker c.call.result _ _
          (λ r h. place_effect_never _ c.requires.ordered c.requires.scene.ready.ordered there refl
          (h (subst (λ z. IsNode c.args.cx.p.now c.args.k (exprs.Call c.in-Call.f z)) (sym c.as_slice.ensures) there)))
          c.call.ensures.is);
    }

pub expressions::effect-returns-in-Library : goal.expressions::effect-returns-in-Library
expressions::effect-returns-in-Library t c =
    record {
      lowered = tail _ _ c.library.result (start c.requires.scene) c.library.ensures.lowered (omega arith);
      spends = last _ _ _ _ c.library.result nothing c.library.ensures.spends
          (omega (arith, heavy (expression c.args.cx.p.now c.args.k)))
          (omega (arith, heavy (expression c.args.cx.p.now c.args.k)))
          (omega arith);
      is = (let there = is_node c.in-Some.ensures c.in-Library.is in
          IfOk-weaker c.library.result _ _
          (λ r h. effect_called _ c.requires.ordered c.requires.scene.ready.ordered there refl
          (h (subst (λ z. IsNode c.args.cx.p.now c.args.k (exprs.Library c.in-Library.n z))
          (sym c.as_slice-in-Library.ensures) there))) c.library.ensures.is);
      places = (let there = is_node c.in-Some.ensures c.in-Library.is in
          IfOk-weaker c.library.result _ _
          (λ r h. place_effect_never _ c.requires.ordered c.requires.scene.ready.ordered there refl
          (h (subst (λ z. IsNode c.args.cx.p.now c.args.k (exprs.Library c.in-Library.n z))
          (sym c.as_slice-in-Library.ensures) there))) c.library.ensures.is);
    }

pub expressions::effect-effect-requires-in-Comma : goal.expressions::effect-effect-requires-in-Comma
expressions::effect-effect-requires-in-Comma t c =
    let below-0 : c.in-Comma.a < c.args.k =
    below.comma_left c.args.cx.p.now c.args.k _ _ _ c.requires.ordered c.in-Some.ensures c.in-Comma.is in
    let below-1 : c.in-Comma.b < c.args.k =
    below.comma_right c.args.cx.p.now c.args.k _ _ _ c.requires.ordered c.in-Some.ensures c.in-Comma.is in (
      search rules,
      (
        c.requires.ordered,
        (
          c.requires.scene,
          (
            (node_at c.args.cx.d.now c.requires.scene.ready c.requires.typed c.in-Some.ensures
                c.in-Comma.is).operands.left,
            less_room c.requires.room (omega (
              arith,
              (node_at c.args.cx.d.now c.requires.scene.ready c.requires.typed c.in-Some.ensures
                  c.in-Comma.is).operands.weight,
            )),
          ),
        ),
      ),
    )

pub expressions::effect-effect-requires-in-Comma-2 : goal.expressions::effect-effect-requires-in-Comma-2
expressions::effect-effect-requires-in-Comma-2 t c =
    let below-0 : c.in-Comma.a < c.args.k =
    below.comma_left c.args.cx.p.now c.args.k _ _ _ c.requires.ordered c.in-Some.ensures c.in-Comma.is in
    let below-1 : c.in-Comma.b < c.args.k =
    below.comma_right c.args.cx.p.now c.args.k _ _ _ c.requires.ordered c.in-Some.ensures c.in-Comma.is in (
      search rules,
      (
        c.requires.ordered,
        (
          c.in_ok-effect-in-Comma.ensures.lowered.scene,
          (
            (node_at c.args.cx.d.now c.requires.scene.ready c.requires.typed c.in-Some.ensures
                c.in-Comma.is).operands.right,
            room c.requires.room c.in_ok-effect-in-Comma.ensures.lowered
                (omega (
                  arith,
                  (node_at c.args.cx.d.now c.requires.scene.ready c.requires.typed c.in-Some.ensures
                      c.in-Comma.is).operands.weight,
                )),
          ),
        ),
      ),
    )

pub expressions::effect-returns-in_ok-effect-in-Comma : goal.expressions::effect-returns-in_ok-effect-in-Comma
expressions::effect-returns-in_ok-effect-in-Comma t c =
    record {
      lowered = tail _ _ c.effect-in-Comma-2.result c.in_ok-effect-in-Comma.ensures.lowered
          c.effect-in-Comma-2.ensures.lowered
          (omega (
            arith,
            (node_at c.args.cx.d.now c.requires.scene.ready c.requires.typed c.in-Some.ensures
                c.in-Comma.is).operands.weight,
          ));
      spends = last _ _ _ _ c.effect-in-Comma-2.result c.in_ok-effect-in-Comma.ensures.spends
          c.effect-in-Comma-2.ensures.spends
          (omega (
            arith,
            (node_at c.args.cx.d.now c.requires.scene.ready c.requires.typed c.in-Some.ensures
                c.in-Comma.is).operands.weight,
            heavy (expression c.args.cx.p.now c.args.k),
            heavy (expression c.args.cx.p.now c.in-Comma.a),
            heavy (expression c.args.cx.p.now c.in-Comma.b),
          ))
          (omega (
            arith,
            (node_at c.args.cx.d.now c.requires.scene.ready c.requires.typed c.in-Some.ensures
                c.in-Comma.is).operands.weight,
            heavy (expression c.args.cx.p.now c.args.k),
            heavy (expression c.args.cx.p.now c.in-Comma.a),
            heavy (expression c.args.cx.p.now c.in-Comma.b),
          ))
          (omega (
            arith,
            (node_at c.args.cx.d.now c.requires.scene.ready c.requires.typed c.in-Some.ensures
                c.in-Comma.is).operands.copies,
          ));
      is = IfOk-weaker c.effect-in-Comma-2.result _ _
          (λ r h. effect_comma _ c.requires.ordered c.requires.scene.ready.ordered
          (record { node = _; there = c.in-Some.ensures; is = c.in-Comma.is }) c.in_ok-effect-in-Comma.ensures.is h)
          c.effect-in-Comma-2.ensures.is;
      places = IfOk-weaker c.effect-in-Comma-2.result _ _
          (λ r h. place_effect_comma _ c.requires.ordered c.requires.scene.ready.ordered
          (record { node = _; there = c.in-Some.ensures; is = c.in-Comma.is }) c.in_ok-effect-in-Comma.ensures.is h)
          c.effect-in-Comma-2.ensures.places;
    }

pub expressions::effect-returns-in-Constant : goal.expressions::effect-returns-in-Constant
expressions::effect-returns-in-Constant t c =
    record {
      lowered = at_most (start c.requires.scene) (omega arith);
      spends = within nothing (omega (arith, heavy (expression c.args.cx.p.now c.args.k)))
          (omega (arith, heavy (expression c.args.cx.p.now c.args.k)))
          (omega arith);
      is = effect_leaf _ c.requires.ordered c.requires.scene.ready.ordered
          (is_node c.in-Some.ensures refl) (leaf_of _ c.in-Constant.is) _;
      places = place_effect_leaf _ c.requires.ordered c.requires.scene.ready.ordered
          (is_node c.in-Some.ensures refl) (leaf_of _ c.in-Constant.is) _;
    }

pub expressions::effect-temp-requires : goal.expressions::effect-temp-requires
expressions::effect-temp-requires t c =
    record { room = less_room c.requires.room (omega (arith, heavy (expression c.args.cx.p.now c.args.k))) }

pub expressions::effect-value-requires : goal.expressions::effect-value-requires
expressions::effect-value-requires t c = (
  search rules,
  (
    c.requires.ordered,
    (
      (grew (start c.requires.scene) c.in_ok-t-in-Decay.ensures.grown c.in_ok-t-in-Decay.ensures.adds).scene,
      (
        c.requires.typed,
        (
          as_kind c.in_ok-t-in-Decay.ensures.has (c.kind.ensures c.requires.scene.ready),
          room c.requires.room (grew (start c.requires.scene) c.in_ok-t-in-Decay.ensures.grown
              c.in_ok-t-in-Decay.ensures.adds) (omega (arith, heavy (expression c.args.cx.p.now c.args.k))),
        ),
      ),
    ),
  ),
)

pub expressions::effect-returns-in_ok-t-in-Decay : goal.expressions::effect-returns-in_ok-t-in-Decay
expressions::effect-returns-in_ok-t-in-Decay t c =
    record {
      lowered = tail _ _ c.value.result (grew (start c.requires.scene) c.in_ok-t-in-Decay.ensures.grown
          c.in_ok-t-in-Decay.ensures.adds) c.value.ensures.lowered
          (omega (arith, heavy (expression c.args.cx.p.now c.args.k)));
      spends = last_fresh _ _ _ c.value.result c.in_ok-t-in-Decay.ensures.next c.in_ok-t-in-Decay.ensures.spent
          c.value.ensures.spends (omega (arith, heavy (expression c.args.cx.p.now c.args.k)))
          (omega (arith, heavy (expression c.args.cx.p.now c.args.k)))
          (omega arith);
      is = (let works = worked_of _ c.in-Decay.is in
          IfOk-weaker c.value.result _ _
          (λ r h. effect_of_value _ c.requires.ordered c.requires.scene.ready.ordered
          (is_node c.in-Some.ensures refl) (worked_no_place _ works)
          (has_worked c.args.cx.d.now c.requires.scene.ready c.requires.typed c.in-Some.ensures _ works refl)
          c.in_ok-t-in-Decay.ensures.next c.in_ok-t-in-Decay.ensures.emits h) c.value.ensures.is);
      places = (let works = worked_of _ c.in-Decay.is in
          IfOk-weaker c.value.result _ _
          (λ r h. place_effect_never _ c.requires.ordered c.requires.scene.ready.ordered
          (is_node c.in-Some.ensures refl) (worked_no_place _ works)
          (effect_of_value _ c.requires.ordered c.requires.scene.ready.ordered
          (is_node c.in-Some.ensures refl) (worked_no_place _ works)
          (has_worked c.args.cx.d.now c.requires.scene.ready c.requires.typed c.in-Some.ensures _ works refl)
          c.in_ok-t-in-Decay.ensures.next c.in_ok-t-in-Decay.ensures.emits h)) c.value.ensures.is);
    }

pub expressions::chosen_effect-fork-fork-requires : goal.expressions::chosen_effect-fork-fork-requires
expressions::chosen_effect-fork-fork-requires t c =
    record { few = (omega (arith, c.requires.node.weight, c.requires.room.labels)) }

pub expressions::chosen_effect-condition-requires : goal.expressions::chosen_effect-condition-requires
expressions::chosen_effect-condition-requires t c = (
  search rules,
  (
    c.requires.ordered,
    (
      (fork c.requires.scene c.fork-fork.ensures.forked).scene,
      (
        c.requires.node.first,
        (
          second_open (fork c.requires.scene c.fork-fork.ensures.forked),
          opened_room c.requires.room (fork c.requires.scene c.fork-fork.ensures.forked)
              (omega (arith, c.requires.node.weight)),
        ),
      ),
    ),
  ),
)

pub expressions::chosen_effect-effect-requires : goal.expressions::chosen_effect-effect-requires
expressions::chosen_effect-effect-requires t c = (
  search rules,
  (
    c.requires.ordered,
    (
      c.in_ok-condition.ensures.lowered.scene,
      (
        c.requires.node.second,
        opened_room c.requires.room
            (opened (fork c.requires.scene c.fork-fork.ensures.forked) c.in_ok-condition.ensures.lowered)
            (omega (arith, c.requires.node.weight)),
      ),
    ),
  ),
)

pub expressions::chosen_effect-turn_fork-requires : goal.expressions::chosen_effect-turn_fork-requires
expressions::chosen_effect-turn_fork-requires t c =
    record {
      end = first_open (opened (opened
          (fork c.requires.scene c.fork-fork.ensures.forked) c.in_ok-condition.ensures.lowered)
          c.in_ok-effect.ensures.lowered);
    }

pub expressions::chosen_effect-effect-requires-2 : goal.expressions::chosen_effect-effect-requires-2
expressions::chosen_effect-effect-requires-2 t c = (
  search rules,
  (
    c.requires.ordered,
    (
      (turned (opened (opened (fork c.requires.scene c.fork-fork.ensures.forked)
          c.in_ok-condition.ensures.lowered) c.in_ok-effect.ensures.lowered) c.in_ok-turn_fork.ensures.turned
          c.in_ok-turn_fork.ensures.adds).scene,
      (
        c.requires.node.third,
        opened_room c.requires.room
            (turned (opened (opened (fork c.requires.scene c.fork-fork.ensures.forked)
            c.in_ok-condition.ensures.lowered) c.in_ok-effect.ensures.lowered) c.in_ok-turn_fork.ensures.turned
            c.in_ok-turn_fork.ensures.adds) (omega (arith, c.requires.node.weight)),
      ),
    ),
  ),
)

pub expressions::chosen_effect-returns : goal.expressions::chosen_effect-returns
expressions::chosen_effect-returns t c =
    record {
      lowered = tail_stands _ c.join_fork.result (opened (turned
          (opened (opened (fork c.requires.scene c.fork-fork.ensures.forked) c.in_ok-condition.ensures.lowered)
          c.in_ok-effect.ensures.lowered) c.in_ok-turn_fork.ensures.turned c.in_ok-turn_fork.ensures.adds)
          c.in_ok-effect-2.ensures.lowered) c.join_fork.ensures.stands (omega (arith, c.requires.node.weight));
      spends = last_pushed _ _ c.join_fork.result (after
          (and (after (after (plainly (forked_spent c.fork-fork.ensures.forked)) c.in_ok-condition.ensures.spends)
          c.in_ok-effect.ensures.spends) c.in_ok-turn_fork.ensures.spent) c.in_ok-effect-2.ensures.spends)
          c.join_fork.ensures.stands (omega (
            arith,
            c.requires.node.weight,
            heavy (expression c.args.cx.p.now c.args.k),
            heavy (expression c.args.cx.p.now c.args.c),
            heavy (expression c.args.cx.p.now c.args.a),
            heavy (expression c.args.cx.p.now c.args.b),
          ))
          (omega (
            arith,
            c.requires.node.weight,
            heavy (expression c.args.cx.p.now c.args.k),
            heavy (expression c.args.cx.p.now c.args.c),
            heavy (expression c.args.cx.p.now c.args.a),
            heavy (expression c.args.cx.p.now c.args.b),
          ))
          (omega (arith, c.requires.node.copies)) refl refl;
      is = IfOk-weaker c.join_fork.result _ _
          (λ r f h n. effect_choice _ c.requires.ordered c.requires.scene.ready.ordered n h c.fork-fork.ensures.forked
          c.in_ok-condition.ensures.is c.in_ok-effect.ensures.is c.in_ok-turn_fork.ensures.emits
          c.in_ok-effect-2.ensures.is (one_emits _ _ _ refl f)) c.join_fork.ensures.stands;
      places = IfOk-weaker c.join_fork.result _ _
          (λ r f h n. place_effect_choice _ c.requires.ordered c.requires.scene.ready.ordered n h
          c.fork-fork.ensures.forked
          c.in_ok-condition.ensures.is c.in_ok-effect.ensures.places c.in_ok-turn_fork.ensures.emits
          c.in_ok-effect-2.ensures.places (one_emits _ _ _ refl f)) c.join_fork.ensures.stands;
    }

pub expressions::guarded_effect-label-label-requires : goal.expressions::guarded_effect-label-label-requires
expressions::guarded_effect-label-label-requires t c =
    record { few = (omega (arith, c.requires.node.weight, c.requires.room.labels)) }

pub expressions::guarded_effect-condition-requires : goal.expressions::guarded_effect-condition-requires
expressions::guarded_effect-condition-requires t c = (
  search rules,
  (
    c.requires.ordered,
    (
      (label c.requires.scene c.label-label.ensures.labelled).scene,
      (
        c.requires.node.left,
        (
          first_open (label c.requires.scene c.label-label.ensures.labelled),
          opened_room c.requires.room (label c.requires.scene c.label-label.ensures.labelled)
              (omega (arith, c.requires.node.weight)),
        ),
      ),
    ),
  ),
)

pub expressions::guarded_effect-effect-requires : goal.expressions::guarded_effect-effect-requires
expressions::guarded_effect-effect-requires t c = (
  search rules,
  (
    c.requires.ordered,
    (
      c.in_ok-condition.ensures.lowered.scene,
      (
        c.requires.node.right,
        opened_room c.requires.room
            (opened (label c.requires.scene c.label-label.ensures.labelled) c.in_ok-condition.ensures.lowered)
            (omega (arith, c.requires.node.weight)),
      ),
    ),
  ),
)

pub expressions::guarded_effect-returns : goal.expressions::guarded_effect-returns
expressions::guarded_effect-returns t c =
    record {
      lowered = tail_stands _ c.stand.result (opened (opened
          (label c.requires.scene c.label-label.ensures.labelled) c.in_ok-condition.ensures.lowered)
          c.in_ok-effect.ensures.lowered) c.stand.ensures.stands (omega (arith, c.requires.node.weight));
      spends = last_pushed _ _ c.stand.result (after (after
          (plainly (labelled_spent c.label-label.ensures.labelled)) c.in_ok-condition.ensures.spends)
          c.in_ok-effect.ensures.spends) c.stand.ensures.stands
          (omega (
            arith,
            c.requires.node.weight,
            heavy (expression c.args.cx.p.now c.args.k),
            heavy (expression c.args.cx.p.now c.args.a),
            heavy (expression c.args.cx.p.now c.args.b),
          ))
          (omega (
            arith,
            c.requires.node.weight,
            heavy (expression c.args.cx.p.now c.args.k),
            heavy (expression c.args.cx.p.now c.args.a),
            heavy (expression c.args.cx.p.now c.args.b),
          ))
          (omega (arith, c.requires.node.copies)) refl refl;
      is = IfOk-weaker c.stand.result _ _
          (λ r f h n. effect_guarded _ c.requires.ordered c.requires.scene.ready.ordered _ _ _ c.args.when n h
          c.label-label.ensures.labelled c.in_ok-condition.ensures.is c.in_ok-effect.ensures.is (one_emits _ _ _ refl
          f))
          c.stand.ensures.stands;
    }

pub expressions::read_effect-effect-requires : goal.expressions::read_effect-effect-requires
expressions::read_effect-effect-requires t c = (
  search rules,
  (
    c.requires.ordered,
    (
      c.requires.scene,
      (
        c.requires.node.operands.operand,
        less_room c.requires.room (omega (arith, c.requires.node.operands.weight)),
      ),
    ),
  ),
)

pub expressions::read_effect-returns-in-None : goal.expressions::read_effect-returns-in-None
expressions::read_effect-returns-in-None t c =
    record {
      lowered = tail _ _ c.effect.result (start c.requires.scene) c.effect.ensures.lowered
          (omega (arith, c.requires.node.operands.weight));
      spends = last _ _ _ _ c.effect.result nothing c.effect.ensures.spends
          (omega (
            arith,
            c.requires.node.operands.weight,
            heavy (expression c.args.cx.p.now c.args.k),
            heavy (expression c.args.cx.p.now c.args.a),
          ))
          (omega (
            arith,
            c.requires.node.operands.weight,
            heavy (expression c.args.cx.p.now c.args.k),
            heavy (expression c.args.cx.p.now c.args.a),
          ))
          (omega (arith, c.requires.node.operands.copies));
      is = IfOk-weaker c.effect.result _ _
          (λ r h n w. effect_unread _ c.requires.ordered c.requires.scene.ready.ordered n
          (sym (c.scalar.ensures c.requires.scene.ready) ∙ c.in-None.is) w h) c.effect.ensures.places;
      places = IfOk-weaker c.effect.result _ _
          (λ r h n w. place_effect_unread _ c.requires.ordered c.requires.scene.ready.ordered n
          (sym (c.scalar.ensures c.requires.scene.ready) ∙ c.in-None.is) w h) c.effect.ensures.places;
    }

pub expressions::read_effect-returns-in-Some-variable : goal.expressions::read_effect-returns-in-Some-variable
expressions::read_effect-returns-in-Some-variable t c =
    record {
      lowered = at_most (start c.requires.scene) (omega arith);
      spends = within nothing (omega (
        arith,
        heavy (expression c.args.cx.p.now c.args.k),
        heavy (expression c.args.cx.p.now c.args.a),
      ))
          (omega (arith, heavy (expression c.args.cx.p.now c.args.k), heavy (expression c.args.cx.p.now c.args.a)))
          (omega arith);
      is = (let scalar : IsScalar c.args.cx.p.now c.args.k c.in-Some.kind =
          record { is = sym (c.scalar.ensures c.requires.scene.ready) ∙ c.in-Some.is } in
          λ n w. effect_variable _ c.requires.ordered c.requires.scene.ready.ordered n scalar _
          c.in-Some-variable.ensures.stands);
      places = (let scalar : IsScalar c.args.cx.p.now c.args.k c.in-Some.kind =
          record { is = sym (c.scalar.ensures c.requires.scene.ready) ∙ c.in-Some.is } in
          λ n w. place_effect_read _ c.requires.ordered c.requires.scene.ready.ordered n scalar
          (effect_variable _ c.requires.ordered c.requires.scene.ready.ordered n scalar _
          c.in-Some-variable.ensures.stands));
    }

pub expressions::read_effect-temp-requires : goal.expressions::read_effect-temp-requires
expressions::read_effect-temp-requires t c =
    record { room = less_room c.requires.room (omega (arith, c.requires.node.operands.weight)) }

pub expressions::read_effect-load-requires : goal.expressions::read_effect-load-requires
expressions::read_effect-load-requires t c = (
  search rules,
  (
    c.requires.ordered,
    (
      c.requires.a_before,
      (
        (grew (start c.requires.scene) c.in_ok-t-in-None-variable.ensures.grown
            c.in_ok-t-in-None-variable.ensures.adds).scene,
        (
          c.requires.node,
          (
            as_kind c.in_ok-t-in-None-variable.ensures.has
                (ap or_int (sym c.in-Some.is ∙ c.scalar.ensures c.requires.scene.ready)),
            room c.requires.room (grew (start c.requires.scene) c.in_ok-t-in-None-variable.ensures.grown
                c.in_ok-t-in-None-variable.ensures.adds) (omega (arith, c.requires.node.operands.weight)),
          ),
        ),
      ),
    ),
  ),
)

pub expressions::read_effect-returns-in_ok-t-in-None-variable :
    goal.expressions::read_effect-returns-in_ok-t-in-None-variable
expressions::read_effect-returns-in_ok-t-in-None-variable t c =
    record {
      lowered = tail _ _ c.load.result (grew (start c.requires.scene) c.in_ok-t-in-None-variable.ensures.grown
          c.in_ok-t-in-None-variable.ensures.adds) c.load.ensures.lowered (omega (
            arith,
            c.requires.node.operands.weight,
          ));
      spends = last_fresh _ _ _ c.load.result c.in_ok-t-in-None-variable.ensures.next
          c.in_ok-t-in-None-variable.ensures.spent
          c.load.ensures.spends (omega (arith, heavy (expression c.args.cx.p.now c.args.k)))
          (omega (arith, heavy (expression c.args.cx.p.now c.args.k)))
          (omega arith);
      is = (let scalar : IsScalar c.args.cx.p.now c.args.k c.in-Some.kind =
          record { is = sym (c.scalar.ensures c.requires.scene.ready) ∙ c.in-Some.is } in
          IfOk-weaker c.load.result _ _
          (λ r h n w. effect_read _ c.requires.ordered c.requires.scene.ready.ordered n scalar
          c.in_ok-t-in-None-variable.ensures.next c.in_ok-t-in-None-variable.ensures.emits (h n)) c.load.ensures.is);
      places = (let scalar : IsScalar c.args.cx.p.now c.args.k c.in-Some.kind =
          record { is = sym (c.scalar.ensures c.requires.scene.ready) ∙ c.in-Some.is } in
          IfOk-weaker c.load.result _ _
          (λ r h n w. place_effect_read _ c.requires.ordered c.requires.scene.ready.ordered n scalar
          (effect_read _ c.requires.ordered c.requires.scene.ready.ordered n scalar
          c.in_ok-t-in-None-variable.ensures.next c.in_ok-t-in-None-variable.ensures.emits (h n))) c.load.ensures.is);
    }

pub expressions::load-transfer-requires : goal.expressions::load-transfer-requires
expressions::load-transfer-requires t c =
    record {
      same = two_values c.requires.to (as_kind
          (c.in-Some.ensures.has _ c.requires.scene.ready c.requires.node.operands.operand c.requires.scene.housed)
          (ap or_int c.requires.node.same));
    }

pub expressions::load-returns-in-Some : goal.expressions::load-returns-in-Some
expressions::load-returns-in-Some t c =
    record {
      lowered = tail_grew _ _ c.transfer.result (start c.requires.scene) c.transfer.ensures.grown
          c.transfer.ensures.adds
          (omega arith);
      spends = last_and _ _ _ _ c.transfer.result nothing c.transfer.ensures.spent
          (omega (
            arith,
            heavy (expression c.args.cx.p.now c.args.k),
            heavy (expression c.args.cx.p.now c.args.a),
            extra_small c.args.cx.fixed (Some c.args.to),
          ))
          (omega (
            arith,
            heavy (expression c.args.cx.p.now c.args.k),
            heavy (expression c.args.cx.p.now c.args.a),
            extra_small c.args.cx.fixed (Some c.args.to),
          ))
          (omega arith);
      is = IfOk-weaker c.transfer.result _ _
          (λ r f n. value_read _ c.requires.ordered c.requires.scene.ready.ordered c.args.cx.d.now refl n
          c.requires.node
          (λ x m. node_at c.args.cx.d.now c.requires.scene.ready c.requires.node.operands.operand m.there m.is)
          c.in-Some.ensures.stands f) c.transfer.ensures.emits;
    }

pub expressions::load-pointer-requires : goal.expressions::load-pointer-requires
expressions::load-pointer-requires t c = (
  search rules,
  (
    c.requires.ordered,
    (
      c.requires.scene,
      (
        c.requires.node.operands.operand,
        less_room c.requires.room (omega (arith, c.requires.node.operands.weight)),
      ),
    ),
  ),
)

pub expressions::load-load-requires-clause-to : goal.expressions::load-load-requires-clause-to
expressions::load-load-requires-clause-to t c =
    as_kind (still c.requires.to c.in_ok-from-in-None.ensures.lowered) (sym (c.kind.ensures c.requires.scene.ready))

pub expressions::load-load-requires-clause-from : goal.expressions::load-load-requires-clause-from
expressions::load-load-requires-clause-from t c = pointer c.in_ok-from-in-None.ensures.has

pub expressions::load-returns-in_ok-from-in-None : goal.expressions::load-returns-in_ok-from-in-None
expressions::load-returns-in_ok-from-in-None t c =
    record {
      lowered = tail_grew _ _ c.load.result c.in_ok-from-in-None.ensures.lowered c.load.ensures.grown
          c.load.ensures.adds
          (omega (arith, c.requires.node.operands.weight));
      spends = last_and _ _ _ _ c.load.result c.in_ok-from-in-None.ensures.spends c.load.ensures.spent
          (omega (
            arith,
            c.requires.node.operands.weight,
            heavy (expression c.args.cx.p.now c.args.k),
            heavy (expression c.args.cx.p.now c.args.a),
            extra_small c.args.cx.fixed (Some c.args.to),
          ))
          (omega (
            arith,
            c.requires.node.operands.weight,
            heavy (expression c.args.cx.p.now c.args.k),
            heavy (expression c.args.cx.p.now c.args.a),
            extra_small c.args.cx.fixed (Some c.args.to),
          ))
          (omega (arith, c.requires.node.operands.copies));
      is = IfOk-weaker c.load.result _ _
          (λ r f n. value_loaded _ c.requires.ordered c.requires.scene.ready.ordered c.args.cx.d.now n c.requires.node
          (c.kind.ensures c.requires.scene.ready) c.pos.ensures c.in-None.ensures.other
          c.in_ok-from-in-None.ensures.is f)
          c.load.ensures.emits;
    }

pub expressions::conversion-effect-requires : goal.expressions::conversion-effect-requires
expressions::conversion-effect-requires t c = (
  search rules,
  (
    c.requires.ordered,
    (
      c.requires.scene,
      (
        c.requires.node.operand,
        less_room c.requires.room (omega (arith, c.requires.node.weight)),
      ),
    ),
  ),
)

pub expressions::conversion-constant-requires-clause-to : goal.expressions::conversion-constant-requires-clause-to
expressions::conversion-constant-requires-clause-to t c =
    as_kind (still c.requires.to c.in_ok-effect.ensures.lowered) (sym (c.kind-new.ensures c.requires.scene.ready))

pub expressions::conversion-constant-requires-clause-value :
    goal.expressions::conversion-constant-requires-clause-value
expressions::conversion-constant-requires-clause-value t c = zero_fits _

pub expressions::conversion-returns-then-is_none : goal.expressions::conversion-returns-then-is_none
expressions::conversion-returns-then-is_none t c =
    record {
      lowered = tail_grew _ _ c.constant.result c.in_ok-effect.ensures.lowered c.constant.ensures.grown
          c.constant.ensures.adds
          (omega (arith, c.requires.node.weight));
      spends = last_and _ _ _ _ c.constant.result c.in_ok-effect.ensures.spends c.constant.ensures.spent
          (omega (
            arith,
            c.requires.node.weight,
            heavy (expression c.args.cx.p.now c.args.k),
            heavy (expression c.args.cx.p.now c.args.a),
            extra_small c.args.cx.fixed (Some c.args.to),
          ))
          (omega (
            arith,
            c.requires.node.weight,
            heavy (expression c.args.cx.p.now c.args.k),
            heavy (expression c.args.cx.p.now c.args.a),
            extra_small c.args.cx.fixed (Some c.args.to),
          ))
          (omega (arith, c.requires.node.copies));
      is = (let none = sym (c.scalar.ensures c.requires.scene.ready) ∙ none_is _ c.if-is_none.ensures in
          IfOk-weaker c.constant.result _ _
          (λ r f w n. value_dropped _ c.requires.ordered c.requires.scene.ready.ordered _ _ n w none
          c.in_ok-effect.ensures.is f) c.constant.ensures.emits);
    }

pub expressions::conversion-value-requires : goal.expressions::conversion-value-requires
expressions::conversion-value-requires t c = (
  search rules,
  (
    c.requires.ordered,
    (
      c.requires.scene,
      (
        c.requires.node.operand,
        (
          as_kind c.requires.to (sym (c.kind-new.ensures c.requires.scene.ready)
              ∙ sym (kinds_agree _ _ (sym c.same_kind.ensures ∙ c.if-same_kind.true))
              ∙ (c.kind-old.ensures c.requires.scene.ready)),
          less_room c.requires.room (omega (arith, c.requires.node.weight)),
        ),
      ),
    ),
  ),
)

pub expressions::conversion-returns-then-same_kind : goal.expressions::conversion-returns-then-same_kind
expressions::conversion-returns-then-same_kind t c =
    record {
      lowered = tail _ _ c.value.result (start c.requires.scene) c.value.ensures.lowered (omega (
        arith,
        c.requires.node.weight,
      ));
      spends = last _ _ _ _ c.value.result nothing c.value.ensures.spends
          (omega (
            arith,
            c.requires.node.weight,
            heavy (expression c.args.cx.p.now c.args.k),
            heavy (expression c.args.cx.p.now c.args.a),
            extra_small c.args.cx.fixed (Some c.args.to),
          ))
          (omega (
            arith,
            c.requires.node.weight,
            heavy (expression c.args.cx.p.now c.args.k),
            heavy (expression c.args.cx.p.now c.args.a),
            extra_small c.args.cx.fixed (Some c.args.to),
          ))
          (omega (arith, c.requires.node.copies));
      is = (let same = kinds_agree _ _ (sym c.same_kind.ensures ∙ c.if-same_kind.true) in
          let alike = sym (c.kind-old.ensures c.requires.scene.ready) ∙ same ∙ c.kind-new.ensures
          c.requires.scene.ready in
          IfOk-weaker c.value.result _ _
          (λ r h w n. value_kept _ c.requires.ordered c.requires.scene.ready.ordered _ _ n w alike h)
          c.value.ensures.is);
    }

pub expressions::conversion-operand-requires : goal.expressions::conversion-operand-requires
expressions::conversion-operand-requires t c = (
  search rules,
  (
    c.requires.ordered,
    (
      c.requires.scene,
      (
        c.requires.node.operand,
        less_room c.requires.room (omega (arith, c.requires.node.weight)),
      ),
    ),
  ),
)

pub expressions::conversion-convert-requires-clause-to : goal.expressions::conversion-convert-requires-clause-to
expressions::conversion-convert-requires-clause-to t c =
    as_kind (still c.requires.to c.in_ok-x.ensures.lowered) (sym (c.kind-new.ensures c.requires.scene.ready))

pub expressions::conversion-convert-requires-clause-from : goal.expressions::conversion-convert-requires-clause-from
expressions::conversion-convert-requires-clause-from t c =
    as_kind c.in_ok-x.ensures.has (sym (c.kind-old.ensures c.requires.scene.ready))

pub expressions::conversion-returns : goal.expressions::conversion-returns
expressions::conversion-returns t c =
    record {
      lowered = tail_grew _ _ c.convert.result c.in_ok-x.ensures.lowered c.convert.ensures.grown c.convert.ensures.adds
          (omega (arith, c.requires.node.weight));
      spends = last_and _ _ _ _ c.convert.result c.in_ok-x.ensures.spends c.convert.ensures.spent
          (omega (
            arith,
            c.requires.node.weight,
            heavy (expression c.args.cx.p.now c.args.k),
            heavy (expression c.args.cx.p.now c.args.a),
            extra_small c.args.cx.fixed (Some c.args.to),
          ))
          (omega (
            arith,
            c.requires.node.weight,
            heavy (expression c.args.cx.p.now c.args.k),
            heavy (expression c.args.cx.p.now c.args.a),
            extra_small c.args.cx.fixed (Some c.args.to),
          ))
          (omega (arith, c.requires.node.copies));
      is = IfOk-weaker c.convert.result _ _
          (λ r f w n. value_converted _ c.requires.ordered c.requires.scene.ready.ordered _ _ n w
          (c.kind-old.ensures c.requires.scene.ready) (c.kind-new.ensures c.requires.scene.ready) c.in_ok-x.ensures.is
          f)
          c.convert.ensures.emits;
    }

pub expressions::unary-held-requires : goal.expressions::unary-held-requires
expressions::unary-held-requires t c = (
  search rules,
  (
    c.requires.ordered,
    (
      c.requires.scene,
      (
        (not_node (frame_of c.args.cx.p.now c.args.cx.d.now) c.args.k c.args.a c.args.op
            c.in-LogicalNot.is c.requires.node).operands.operand,
        less_room c.requires.room (omega (
          arith,
          (not_node (frame_of c.args.cx.p.now c.args.cx.d.now) c.args.k c.args.a c.args.op c.in-LogicalNot.is
              c.requires.node).operands.weight,
        )),
      ),
    ),
  ),
)

pub expressions::unary-negated-requires-clause-room : goal.expressions::unary-negated-requires-clause-room
expressions::unary-negated-requires-clause-room t c =
    room c.requires.room c.in_ok-x-in-LogicalNot.ensures.lowered
    (omega (
      arith,
      (not_node (frame_of c.args.cx.p.now c.args.cx.d.now) c.args.k c.args.a c.args.op c.in-LogicalNot.is
          c.requires.node).operands.weight,
    ))

pub expressions::unary-negated-requires-clause-to : goal.expressions::unary-negated-requires-clause-to
expressions::unary-negated-requires-clause-to t c =
    as_kind (still c.requires.to c.in_ok-x-in-LogicalNot.ensures.lowered)
    (scalar_kind (not_node (frame_of c.args.cx.p.now c.args.cx.d.now) c.args.k c.args.a c.args.op c.in-LogicalNot.is
    c.requires.node).is)

pub expressions::unary-returns-in_ok-x-in-LogicalNot : goal.expressions::unary-returns-in_ok-x-in-LogicalNot
expressions::unary-returns-in_ok-x-in-LogicalNot t c =
    record {
      lowered = tail_grew _ _ c.negated.result c.in_ok-x-in-LogicalNot.ensures.lowered c.negated.ensures.grown
          c.negated.ensures.adds (omega (
            arith,
            (not_node (frame_of c.args.cx.p.now c.args.cx.d.now) c.args.k c.args.a c.args.op c.in-LogicalNot.is
                c.requires.node).operands.weight,
          ));
      spends = last_and _ _ _ _ c.negated.result c.in_ok-x-in-LogicalNot.ensures.spends c.negated.ensures.spent
          (omega (
            arith,
            (not_node (frame_of c.args.cx.p.now c.args.cx.d.now) c.args.k c.args.a c.args.op c.in-LogicalNot.is
                c.requires.node).operands.weight,
            heavy (expression c.args.cx.p.now c.args.k),
            heavy (expression c.args.cx.p.now c.args.a),
            extra_small c.args.cx.fixed (Some c.args.to),
          ))
          (omega (
            arith,
            (not_node (frame_of c.args.cx.p.now c.args.cx.d.now) c.args.k c.args.a c.args.op c.in-LogicalNot.is
                c.requires.node).operands.weight,
            heavy (expression c.args.cx.p.now c.args.k),
            heavy (expression c.args.cx.p.now c.args.a),
            extra_small c.args.cx.fixed (Some c.args.to),
          ))
          (omega (
            arith,
            (not_node (frame_of c.args.cx.p.now c.args.cx.d.now) c.args.k c.args.a c.args.op c.in-LogicalNot.is
                c.requires.node).operands.copies,
          ));
      is = (let node = subst (λ z. UnaryNode (frame_of c.args.cx.p.now c.args.cx.d.now) c.args.k z c.args.a)
          c.in-LogicalNot.is
          c.requires.node in
          IfOk-weaker c.negated.result _ _
          (λ r f n. value_not _ c.requires.ordered c.requires.scene.ready.ordered c.args.cx.d.now
          (record { node = n.node; there = n.there; is = n.is ∙ ap (λ z. exprs.Unary z c.args.a) c.in-LogicalNot.is })
          node
          c.in_ok-x-in-LogicalNot.ensures.kind c.in_ok-x-in-LogicalNot.ensures.is f) c.negated.ensures.emits);
    }

pub expressions::unary-signed_value-requires : goal.expressions::unary-signed_value-requires
expressions::unary-signed_value-requires t c = (
  search rules,
  (
    c.requires.ordered,
    (
      c.requires.a_before,
      (
        c.requires.scene,
        (
          subst (λ z. UnaryNode (frame_of c.args.cx.p.now c.args.cx.d.now) c.args.k z c.args.a) c.in-Plus.is
              c.requires.node,
          (c.requires.to, c.requires.room),
        ),
      ),
    ),
  ),
)

pub expressions::unary-signed_value-requires-in-Minus : goal.expressions::unary-signed_value-requires-in-Minus
expressions::unary-signed_value-requires-in-Minus t c = (
  search rules,
  (
    c.requires.ordered,
    (
      c.requires.a_before,
      (
        c.requires.scene,
        (
          subst (λ z. UnaryNode (frame_of c.args.cx.p.now c.args.cx.d.now) c.args.k z c.args.a) c.in-Minus.is
              c.requires.node,
          (c.requires.to, c.requires.room),
        ),
      ),
    ),
  ),
)

pub expressions::unary-signed_value-requires-in-Complement :
    goal.expressions::unary-signed_value-requires-in-Complement
expressions::unary-signed_value-requires-in-Complement t c = (
  search rules,
  (
    c.requires.ordered,
    (
      c.requires.a_before,
      (
        c.requires.scene,
        (
          subst (λ z. UnaryNode (frame_of c.args.cx.p.now c.args.cx.d.now) c.args.k z c.args.a) c.in-Complement.is
              c.requires.node,
          (c.requires.to, c.requires.room),
        ),
      ),
    ),
  ),
)

pub expressions::signed_value-operand_in-requires : goal.expressions::signed_value-operand_in-requires
expressions::signed_value-operand_in-requires t c = (
  search rules,
  (
    c.requires.ordered,
    (
      c.requires.scene,
      (
        c.requires.node.operands.operand,
        (
          as_kind c.requires.to (sym (ap or_int c.requires.node.same)),
          less_room c.requires.room (omega (arith, c.requires.node.operands.weight)),
        ),
      ),
    ),
  ),
)

pub expressions::signed_value-signed-requires-clause-room : goal.expressions::signed_value-signed-requires-clause-room
expressions::signed_value-signed-requires-clause-room t c =
    room c.requires.room c.in_ok-x.ensures.lowered (omega (arith, c.requires.node.operands.weight))

pub expressions::signed_value-signed-requires-clause-to : goal.expressions::signed_value-signed-requires-clause-to
expressions::signed_value-signed-requires-clause-to t c =
    as_kind (still c.requires.to c.in_ok-x.ensures.lowered)
    (sym (c.in_ok-x.ensures.kind ∙ (ap or_int c.requires.node.same)))

pub expressions::signed_value-returns : goal.expressions::signed_value-returns
expressions::signed_value-returns t c =
    record {
      lowered = tail_grew _ _ c.signed.result c.in_ok-x.ensures.lowered c.signed.ensures.grown c.signed.ensures.adds
          (omega (arith, c.requires.node.operands.weight));
      spends = last_and _ _ _ _ c.signed.result c.in_ok-x.ensures.spends c.signed.ensures.spent
          (omega (
            arith,
            c.requires.node.operands.weight,
            heavy (expression c.args.cx.p.now c.args.k),
            heavy (expression c.args.cx.p.now c.args.a),
            extra_small c.args.cx.fixed (Some c.args.to),
          ))
          (omega (
            arith,
            c.requires.node.operands.weight,
            heavy (expression c.args.cx.p.now c.args.k),
            heavy (expression c.args.cx.p.now c.args.a),
            extra_small c.args.cx.fixed (Some c.args.to),
          ))
          (omega (arith, c.requires.node.operands.copies));
      is = IfOk-weaker c.signed.result _ _
          (λ r f op g n. value_signed _ c.requires.ordered c.requires.scene.ready.ordered c.args.cx.d.now op _ g n
          c.requires.node
          c.in_ok-x.ensures.kind c.in_ok-x.ensures.is f) c.signed.ensures.emits;
    }

pub expressions::comparison-pair-requires : goal.expressions::comparison-pair-requires
expressions::comparison-pair-requires t c = (
  search rules,
  (
    c.requires.ordered,
    (
      c.requires.a_before,
      (
        c.requires.b_before,
        (c.requires.scene, (c.requires.node.operands, less_room c.requires.room (omega arith))),
      ),
    ),
  ),
)

pub expressions::comparison-compare-requires-clause-to : goal.expressions::comparison-compare-requires-clause-to
expressions::comparison-compare-requires-clause-to t c =
    (as_kind (still c.requires.to c.in_ok-x.ensures.lowered) (scalar_kind c.requires.node.is))

pub expressions::comparison-compare-requires-clause-left : goal.expressions::comparison-compare-requires-clause-left
expressions::comparison-compare-requires-clause-left t c = c.in_ok-x.ensures.left

pub expressions::comparison-compare-requires-clause-right : goal.expressions::comparison-compare-requires-clause-right
expressions::comparison-compare-requires-clause-right t c =
    as_kind c.in_ok-x.ensures.right (c.in_ok-x.ensures.right_kind ∙ sym (ap or_int c.requires.node.same)
    ∙ sym c.in_ok-x.ensures.left_kind)

pub expressions::comparison-returns : goal.expressions::comparison-returns
expressions::comparison-returns t c =
    record {
      lowered = tail_grew _ _ c.compare.result c.in_ok-x.ensures.lowered c.compare.ensures.grown c.compare.ensures.adds
          (omega (arith, c.requires.node.operands.weight));
      spends = last_and _ _ _ _ c.compare.result c.in_ok-x.ensures.spends c.compare.ensures.spent
          (omega (
            arith,
            c.requires.node.operands.weight,
            heavy (expression c.args.cx.p.now c.args.k),
            heavy (expression c.args.cx.p.now c.args.a),
            heavy (expression c.args.cx.p.now c.args.b),
            extra_small c.args.cx.fixed (Some c.args.to),
          ))
          (omega (
            arith,
            c.requires.node.operands.weight,
            heavy (expression c.args.cx.p.now c.args.k),
            heavy (expression c.args.cx.p.now c.args.a),
            heavy (expression c.args.cx.p.now c.args.b),
            extra_small c.args.cx.fixed (Some c.args.to),
          ))
          (omega (arith, c.requires.node.operands.copies));
      is = IfOk-weaker c.compare.result _ _
          (λ r f n. value_comparison _ c.requires.ordered c.requires.scene.ready.ordered c.args.cx.d.now n
          c.requires.node
          c.in_ok-x.ensures.left_kind c.in_ok-x.ensures.is f) c.compare.ensures.emits;
    }

pub expressions::truth-fork-fork-requires : goal.expressions::truth-fork-fork-requires
expressions::truth-fork-fork-requires t c =
    record { few = (omega (arith, c.requires.node.operands.weight, c.requires.room.labels)) }

pub expressions::truth-joined_condition-requires : goal.expressions::truth-joined_condition-requires
expressions::truth-joined_condition-requires t c = (
  search rules,
  (
    c.requires.ordered,
    (
      c.requires.a_before,
      (
        c.requires.b_before,
        (
          (fork c.requires.scene c.fork-fork.ensures.forked).scene,
          (
            c.requires.node.operands,
            (
              second_open (fork c.requires.scene c.fork-fork.ensures.forked),
              opened_room c.requires.room (fork c.requires.scene c.fork-fork.ensures.forked)
                  (omega (arith, c.requires.node.operands.weight)),
            ),
          ),
        ),
      ),
    ),
  ),
)

pub expressions::truth-constant-requires-clause-to : goal.expressions::truth-constant-requires-clause-to
expressions::truth-constant-requires-clause-to t c =
    as_kind (opened_has c.requires.to (opened
    (fork c.requires.scene c.fork-fork.ensures.forked) c.in_ok-joined_condition.ensures.lowered))
    (scalar_kind c.requires.node.is)

pub expressions::truth-constant-requires-clause-value : goal.expressions::truth-constant-requires-clause-value
expressions::truth-constant-requires-clause-value t c = one_fits (kinds.Int int.I32)

pub expressions::truth-turn_fork-requires : goal.expressions::truth-turn_fork-requires
expressions::truth-turn_fork-requires t c =
    record {
      end = first_open (opened (opened
          (fork c.requires.scene c.fork-fork.ensures.forked) c.in_ok-joined_condition.ensures.lowered)
          (grew (start c.in_ok-joined_condition.ensures.lowered.scene) c.in_ok-constant.ensures.grown
          c.in_ok-constant.ensures.adds));
    }

pub expressions::truth-constant-requires-2-clause-to : goal.expressions::truth-constant-requires-2-clause-to
expressions::truth-constant-requires-2-clause-to t c =
    as_kind (opened_has c.requires.to (turned
    (opened (opened (fork c.requires.scene c.fork-fork.ensures.forked) c.in_ok-joined_condition.ensures.lowered)
    (grew (start c.in_ok-joined_condition.ensures.lowered.scene) c.in_ok-constant.ensures.grown
    c.in_ok-constant.ensures.adds)) c.in_ok-turn_fork.ensures.turned c.in_ok-turn_fork.ensures.adds))
    (scalar_kind c.requires.node.is)

pub expressions::truth-constant-requires-2-clause-value : goal.expressions::truth-constant-requires-2-clause-value
expressions::truth-constant-requires-2-clause-value t c = zero_fits (kinds.Int int.I32)

pub expressions::truth-returns : goal.expressions::truth-returns
expressions::truth-returns t c =
    record {
      lowered = tail_stands _ c.join_fork.result (opened (turned
          (opened (opened (fork c.requires.scene c.fork-fork.ensures.forked) c.in_ok-joined_condition.ensures.lowered)
          (grew (start c.in_ok-joined_condition.ensures.lowered.scene) c.in_ok-constant.ensures.grown
          c.in_ok-constant.ensures.adds)) c.in_ok-turn_fork.ensures.turned c.in_ok-turn_fork.ensures.adds)
          (grew (start (turned (opened (opened (fork c.requires.scene c.fork-fork.ensures.forked)
          c.in_ok-joined_condition.ensures.lowered)
          (grew (start c.in_ok-joined_condition.ensures.lowered.scene) c.in_ok-constant.ensures.grown
          c.in_ok-constant.ensures.adds)) c.in_ok-turn_fork.ensures.turned c.in_ok-turn_fork.ensures.adds).scene)
          c.in_ok-constant-2.ensures.grown c.in_ok-constant-2.ensures.adds)) c.join_fork.ensures.stands
          (omega (arith, c.requires.node.operands.weight));
      spends = last_pushed _ _ c.join_fork.result (after
          (and (after (after (plainly (forked_spent c.fork-fork.ensures.forked))
          c.in_ok-joined_condition.ensures.spends)
          (and nothing c.in_ok-constant.ensures.spent)) c.in_ok-turn_fork.ensures.spent)
          (and nothing c.in_ok-constant-2.ensures.spent)) c.join_fork.ensures.stands
          (omega (
            arith,
            c.requires.node.operands.weight,
            heavy (expression c.args.cx.p.now c.args.k),
            heavy (expression c.args.cx.p.now c.args.j.a),
            heavy (expression c.args.cx.p.now c.args.j.b),
            extra_small c.args.cx.fixed (Some c.args.to),
          ))
          (omega (
            arith,
            c.requires.node.operands.weight,
            heavy (expression c.args.cx.p.now c.args.k),
            heavy (expression c.args.cx.p.now c.args.j.a),
            heavy (expression c.args.cx.p.now c.args.j.b),
            extra_small c.args.cx.fixed (Some c.args.to),
          ))
          (omega (arith, c.requires.node.operands.copies)) refl refl;
      is = IfOk-weaker c.join_fork.result _ _
          (λ r f a b n. value_truth _ c.requires.ordered c.requires.scene.ready.ordered _ _ _ a b c.args.j.both
          c.requires.node.is n c.fork-fork.ensures.forked
          (c.in_ok-joined_condition.ensures.is c.requires.node.is a b n) c.in_ok-constant.ensures.emits
          c.in_ok-turn_fork.ensures.emits c.in_ok-constant-2.ensures.emits (one_emits _ _ _ refl f))
          c.join_fork.ensures.stands;
    }

pub expressions::sum-pointer_first-requires : goal.expressions::sum-pointer_first-requires
expressions::sum-pointer_first-requires t c = (
  search rules,
  (
    c.requires.ordered,
    (
      c.requires.a_before,
      (
        c.requires.b_before,
        (
          c.requires.scene,
          (
            c.requires.node.operands,
            (
              first_pointer _ _ _ _ c.requires.node
                  (sym (c.pointed_size.ensures.is c.requires.scene.ready) ∙ ap is_some c.in-Some.is),
              (as_kind c.requires.to (scalar_kind c.requires.node.is), c.requires.room),
            ),
          ),
        ),
      ),
    ),
  ),
)

pub expressions::sum-pointer_second-requires : goal.expressions::sum-pointer_second-requires
expressions::sum-pointer_second-requires t c = (
  search rules,
  (
    c.requires.ordered,
    (
      c.requires.a_before,
      (
        c.requires.b_before,
        (
          c.requires.scene,
          (
            c.requires.node.operands,
            (
              second_pointer _ _ _ _ c.requires.node
                  (sym (c.pointed_size.ensures.is c.requires.scene.ready) ∙ ap is_some c.in-None.is),
              (as_kind c.requires.to (scalar_kind c.requires.node.is), c.requires.room),
            ),
          ),
        ),
      ),
    ),
  ),
)

pub expressions::pointer_first-constant_index-requires-clause-typed :
    goal.expressions::pointer_first-constant_index-requires-clause-typed
expressions::pointer_first-constant_index-requires-clause-typed t c = c.requires.node.right

pub expressions::pointer_first-displaced-requires : goal.expressions::pointer_first-displaced-requires
expressions::pointer_first-displaced-requires t c = (
  search rules,
  (
    c.requires.ordered,
    (
      c.requires.scene,
      (
        c.requires.node.left,
        (
          c.requires.pointer,
          (
            c.requires.to,
            less_room c.requires.room (omega (arith, c.requires.node.weight)),
          ),
        ),
      ),
    ),
  ),
)

pub expressions::pointer_first-returns-in-Some : goal.expressions::pointer_first-returns-in-Some
expressions::pointer_first-returns-in-Some t c =
    record {
      lowered = tail _ _ c.displaced.result (start c.requires.scene) c.displaced.ensures.lowered
          (omega (arith, c.requires.node.weight));
      spends = last _ _ _ _ c.displaced.result nothing c.displaced.ensures.spends
          (omega (
            arith,
            c.requires.node.weight,
            heavy (expression c.args.cx.p.now c.args.k),
            heavy (expression c.args.cx.p.now c.args.a),
            heavy (expression c.args.cx.p.now c.args.b),
            extra_small c.args.cx.fixed (Some c.args.to),
          ))
          (omega (
            arith,
            c.requires.node.weight,
            heavy (expression c.args.cx.p.now c.args.k),
            heavy (expression c.args.cx.p.now c.args.a),
            heavy (expression c.args.cx.p.now c.args.b),
            extra_small c.args.cx.fixed (Some c.args.to),
          ))
          (omega (arith, c.requires.node.copies));
      is = IfOk-weaker c.displaced.result _ _
          (λ r h n. value_displaced _ c.requires.ordered c.requires.scene.ready.ordered n c.requires.pointer
          c.in-Some.ensures.is refl h) c.displaced.ensures.is;
    }

pub expressions::pointer_first-pair-requires : goal.expressions::pointer_first-pair-requires
expressions::pointer_first-pair-requires t c = (
  search rules,
  (
    c.requires.ordered,
    (
      c.requires.a_before,
      (
        c.requires.b_before,
        (c.requires.scene, (c.requires.node, less_room c.requires.room (omega arith))),
      ),
    ),
  ),
)

pub expressions::pointer_first-moved-requires-clause-room : goal.expressions::pointer_first-moved-requires-clause-room
expressions::pointer_first-moved-requires-clause-room t c =
    room c.requires.room c.in_ok-base-in-None.ensures.lowered (omega (arith, c.requires.node.weight))

pub expressions::pointer_first-moved-requires-clause-base : goal.expressions::pointer_first-moved-requires-clause-base
expressions::pointer_first-moved-requires-clause-base t c =
    two_pointers (still c.requires.to c.in_ok-base-in-None.ensures.lowered)
    (as_kind c.in_ok-base-in-None.ensures.left
    (c.in_ok-base-in-None.ensures.left_kind ∙ scalar_kind c.requires.pointer))

pub expressions::pointer_first-moved-requires-clause-i : goal.expressions::pointer_first-moved-requires-clause-i
expressions::pointer_first-moved-requires-clause-i t c = c.in_ok-base-in-None.ensures.right

pub expressions::pointer_first-returns-in_ok-base-in-None : goal.expressions::pointer_first-returns-in_ok-base-in-None
expressions::pointer_first-returns-in_ok-base-in-None t c =
    record {
      lowered = tail_grew _ _ c.moved.result c.in_ok-base-in-None.ensures.lowered c.moved.ensures.grown
          c.moved.ensures.adds
          (omega (arith, c.requires.node.weight));
      spends = last_and _ _ _ _ c.moved.result c.in_ok-base-in-None.ensures.spends c.moved.ensures.spent
          (omega (
            arith,
            c.requires.node.weight,
            heavy (expression c.args.cx.p.now c.args.k),
            heavy (expression c.args.cx.p.now c.args.a),
            heavy (expression c.args.cx.p.now c.args.b),
            extra_small c.args.cx.fixed (Some c.args.to),
          ))
          (omega (
            arith,
            c.requires.node.weight,
            heavy (expression c.args.cx.p.now c.args.k),
            heavy (expression c.args.cx.p.now c.args.a),
            heavy (expression c.args.cx.p.now c.args.b),
            extra_small c.args.cx.fixed (Some c.args.to),
          ))
          (omega (arith, c.requires.node.copies));
      is = IfOk-weaker c.moved.result _ _
          (λ r f n. value_moved _ c.requires.ordered c.requires.scene.ready.ordered n c.requires.pointer
          c.in_ok-base-in-None.ensures.right_kind c.in_ok-base-in-None.ensures.is f) c.moved.ensures.emits;
    }

pub expressions::pointer_second-constant_index-requires-clause-typed :
    goal.expressions::pointer_second-constant_index-requires-clause-typed
expressions::pointer_second-constant_index-requires-clause-typed t c = c.requires.node.left

pub expressions::pointer_second-displaced-requires : goal.expressions::pointer_second-displaced-requires
expressions::pointer_second-displaced-requires t c = (
  search rules,
  (
    c.requires.ordered,
    (
      c.requires.scene,
      (
        c.requires.node.right,
        (
          c.requires.pointer,
          (
            c.requires.to,
            less_room c.requires.room (omega (arith, c.requires.node.weight)),
          ),
        ),
      ),
    ),
  ),
)

pub expressions::pointer_second-returns-in-Some : goal.expressions::pointer_second-returns-in-Some
expressions::pointer_second-returns-in-Some t c =
    record {
      lowered = tail _ _ c.displaced.result (start c.requires.scene) c.displaced.ensures.lowered
          (omega (arith, c.requires.node.weight));
      spends = last _ _ _ _ c.displaced.result nothing c.displaced.ensures.spends
          (omega (
            arith,
            c.requires.node.weight,
            heavy (expression c.args.cx.p.now c.args.k),
            heavy (expression c.args.cx.p.now c.args.a),
            heavy (expression c.args.cx.p.now c.args.b),
            extra_small c.args.cx.fixed (Some c.args.to),
          ))
          (omega (
            arith,
            c.requires.node.weight,
            heavy (expression c.args.cx.p.now c.args.k),
            heavy (expression c.args.cx.p.now c.args.a),
            heavy (expression c.args.cx.p.now c.args.b),
            extra_small c.args.cx.fixed (Some c.args.to),
          ))
          (omega (arith, c.requires.node.copies));
      is = IfOk-weaker c.displaced.result _ _
          (λ r h n. value_displaced_right _ c.requires.ordered c.requires.scene.ready.ordered n c.requires.pointer
          c.in-Some.ensures.is refl h) c.displaced.ensures.is;
    }

pub expressions::pointer_second-pair-requires : goal.expressions::pointer_second-pair-requires
expressions::pointer_second-pair-requires t c = (
  search rules,
  (
    c.requires.ordered,
    (
      c.requires.a_before,
      (
        c.requires.b_before,
        (c.requires.scene, (c.requires.node, less_room c.requires.room (omega arith))),
      ),
    ),
  ),
)

pub expressions::pointer_second-moved-requires-clause-room :
    goal.expressions::pointer_second-moved-requires-clause-room
expressions::pointer_second-moved-requires-clause-room t c =
    room c.requires.room c.in_ok-i-in-None.ensures.lowered (omega (arith, c.requires.node.weight))

pub expressions::pointer_second-moved-requires-clause-base :
    goal.expressions::pointer_second-moved-requires-clause-base
expressions::pointer_second-moved-requires-clause-base t c =
    two_pointers (still c.requires.to c.in_ok-i-in-None.ensures.lowered)
    (as_kind c.in_ok-i-in-None.ensures.right (c.in_ok-i-in-None.ensures.right_kind ∙ scalar_kind c.requires.pointer))

pub expressions::pointer_second-moved-requires-clause-i : goal.expressions::pointer_second-moved-requires-clause-i
expressions::pointer_second-moved-requires-clause-i t c = c.in_ok-i-in-None.ensures.left

pub expressions::pointer_second-returns-in_ok-i-in-None : goal.expressions::pointer_second-returns-in_ok-i-in-None
expressions::pointer_second-returns-in_ok-i-in-None t c =
    record {
      lowered = tail_grew _ _ c.moved.result c.in_ok-i-in-None.ensures.lowered c.moved.ensures.grown
          c.moved.ensures.adds
          (omega (arith, c.requires.node.weight));
      spends = last_and _ _ _ _ c.moved.result c.in_ok-i-in-None.ensures.spends c.moved.ensures.spent
          (omega (
            arith,
            c.requires.node.weight,
            heavy (expression c.args.cx.p.now c.args.k),
            heavy (expression c.args.cx.p.now c.args.a),
            heavy (expression c.args.cx.p.now c.args.b),
            extra_small c.args.cx.fixed (Some c.args.to),
          ))
          (omega (
            arith,
            c.requires.node.weight,
            heavy (expression c.args.cx.p.now c.args.k),
            heavy (expression c.args.cx.p.now c.args.a),
            heavy (expression c.args.cx.p.now c.args.b),
            extra_small c.args.cx.fixed (Some c.args.to),
          ))
          (omega (arith, c.requires.node.copies));
      is = IfOk-weaker c.moved.result _ _
          (λ r f n. value_moved_right _ c.requires.ordered c.requires.scene.ready.ordered n c.requires.pointer
          c.in_ok-i-in-None.ensures.left_kind c.in_ok-i-in-None.ensures.is f) c.moved.ensures.emits;
    }

pub expressions::displaced-operand_in-requires : goal.expressions::displaced-operand_in-requires
expressions::displaced-operand_in-requires t c = (
  search rules,
  (
    c.requires.ordered,
    (
      c.requires.scene,
      (
        c.requires.typed,
        (as_kind c.requires.to (sym (scalar_kind c.requires.pointer)), c.requires.room),
      ),
    ),
  ),
)

pub expressions::displaced-offset-requires-clause-same : goal.expressions::displaced-offset-requires-clause-same
expressions::displaced-offset-requires-clause-same t c =
    two_pointers (still c.requires.to c.in_ok-base.ensures.lowered)
    (as_kind c.in_ok-base.ensures.holds (c.in_ok-base.ensures.kind ∙ scalar_kind c.requires.pointer))

pub expressions::displaced-returns : goal.expressions::displaced-returns
expressions::displaced-returns t c =
    record {
      lowered = tail_grew _ _ c.offset.result c.in_ok-base.ensures.lowered c.offset.ensures.grown c.offset.ensures.adds
          (omega arith);
      spends = last_and _ _ _ _ c.offset.result c.in_ok-base.ensures.spends c.offset.ensures.spent
          (omega (arith, heavy (expression c.args.cx.p.now c.args.k), extra_small c.args.cx.fixed (Some c.args.to)))
          (omega (arith, heavy (expression c.args.cx.p.now c.args.k), extra_small c.args.cx.fixed (Some c.args.to)))
          (omega arith);
      is = IfOk-weaker c.offset.result _ _
          (λ r f. record { middle = _; base = _; operand = c.in_ok-base.ensures.is; moved = f })
          c.offset.ensures.emits;
    }

pub expressions::assignment-struct_assignment-requires : goal.expressions::assignment-struct_assignment-requires
expressions::assignment-struct_assignment-requires t c = (
  search rules,
  (
    c.requires.ordered,
    (
      c.requires.a_before,
      (
        c.requires.b_before,
        (c.requires.scene, (c.requires.node, c.requires.room)),
      ),
    ),
  ),
)

pub expressions::assignment-returns-then-facts : goal.expressions::assignment-returns-then-facts
expressions::assignment-returns-then-facts t c =
    record {
      lowered = at_most c.in_ok-struct_assignment.ensures.lowered (omega arith);
      spends = within c.in_ok-struct_assignment.ensures.spends
          (omega (
            arith,
            heavy (expression c.args.cx.p.now c.args.k),
            heavy (expression c.args.cx.p.now c.args.a),
            heavy (expression c.args.cx.p.now c.args.b),
            extra_small c.args.cx.fixed c.args.to,
          ))
          (omega (
            arith,
            heavy (expression c.args.cx.p.now c.args.k),
            heavy (expression c.args.cx.p.now c.args.a),
            heavy (expression c.args.cx.p.now c.args.b),
            extra_small c.args.cx.fixed c.args.to,
          ))
          (omega arith);
      is = (λ n.
          let ready = c.requires.scene.ready in
          assigns_record _ c.requires.ordered ready.ordered n
          (sym (c.facts.ensures.record n.node ready n.there) ∙ c.if-facts.true) (c.in_ok-struct_assignment.ensures.is
          n));
      copies = (λ n h.
          record { temp = _; is = c.in_ok-struct_assignment.ensures.is n });
    }

pub expressions::assignment-value-requires : goal.expressions::assignment-value-requires
expressions::assignment-value-requires t c = (
  search rules,
  (
    c.requires.ordered,
    (
      c.requires.scene,
      (
        c.requires.node.operands.right,
        (
          as_kind (c.in-Some.ensures.has _ c.requires.scene.ready c.requires.node.operands.left
              c.requires.scene.housed) ((ap or_int c.requires.node.left) ∙ sym (ap or_int c.requires.node.right)),
          less_room c.requires.room (omega (arith, c.requires.node.operands.weight)),
        ),
      ),
    ),
  ),
)

pub expressions::assignment-give-requires : goal.expressions::assignment-give-requires
expressions::assignment-give-requires t c =
    record {
      same = maybe_same _ c.args.to _ _
          (maybe_kept _ c.args.to c.in_ok-value-in-Some.ensures.lowered c.requires.to)
          (as_kind (still (c.in-Some.ensures.has _ c.requires.scene.ready c.requires.node.operands.left
          c.requires.scene.housed)
          c.in_ok-value-in-Some.ensures.lowered) (ap or_int c.requires.node.left));
    }

pub expressions::assignment-returns-in_ok-value-in-Some : goal.expressions::assignment-returns-in_ok-value-in-Some
expressions::assignment-returns-in_ok-value-in-Some t c =
    record {
      lowered = tail_grew _ _ c.give.result c.in_ok-value-in-Some.ensures.lowered c.give.ensures.grown
          c.give.ensures.adds
          (omega (arith, c.requires.node.operands.weight));
      spends = last_and _ _ _ _ c.give.result c.in_ok-value-in-Some.ensures.spends c.give.ensures.spent
          (omega (
            arith,
            c.requires.node.operands.weight,
            heavy (expression c.args.cx.p.now c.args.a),
            heavy (expression c.args.cx.p.now c.args.b),
            extra_small c.args.cx.fixed (Some c.in-Some.v),
          ))
          (omega (
            arith,
            c.requires.node.operands.weight,
            heavy (expression c.args.cx.p.now c.args.a),
            heavy (expression c.args.cx.p.now c.args.b),
            extra_small c.args.cx.fixed (Some c.in-Some.v),
          ))
          (omega (arith, c.requires.node.operands.copies));
      is = (let ready = c.requires.scene.ready in
          IfOk-weaker c.give.result _ _
          (λ r f n. assigns_variable _ c.requires.ordered ready.ordered c.args.cx.d.now c.args.to refl n
          c.requires.node
          (λ x m. node_at c.args.cx.d.now ready c.requires.node.operands.left m.there m.is) c.in-Some.ensures.stands
          c.in_ok-value-in-Some.ensures.is f) c.give.ensures.emits);
      copies = IfOk-weaker c.give.result _ _
          (λ r f n h. no_copies n c.if-facts.false (c.facts.ensures.record n.node c.requires.scene.ready n.there) h)
          c.give.ensures.emits;
    }

pub expressions::object_assignment-pointer-requires : goal.expressions::object_assignment-pointer-requires
expressions::object_assignment-pointer-requires t c = (
  search rules,
  (
    c.requires.ordered,
    (
      c.requires.scene,
      (
        c.requires.node.operands.left,
        less_room c.requires.room (omega (arith, c.requires.node.operands.weight)),
      ),
    ),
  ),
)

pub expressions::object_assignment-assigned-requires : goal.expressions::object_assignment-assigned-requires
expressions::object_assignment-assigned-requires t c = (
  search rules,
  (
    c.requires.ordered,
    (
      c.in_ok-at.ensures.lowered.scene,
      (
        c.requires.node.operands.right,
        (
          (ap or_int c.requires.node.right) ∙ sym (ap or_int c.requires.node.left)
              ∙ sym (c.kind-kind.ensures c.requires.scene.ready),
          (
            maybe_kind _ c.args.to _ _ (sym (c.kind-kind.ensures c.requires.scene.ready
                ∙ (ap or_int c.requires.node.left))) (maybe_kept _ c.args.to c.in_ok-at.ensures.lowered c.requires.to),
            room c.requires.room c.in_ok-at.ensures.lowered (omega (arith, c.requires.node.operands.weight)),
          ),
        ),
      ),
    ),
  ),
)

pub expressions::object_assignment-store-requires-clause-at :
    goal.expressions::object_assignment-store-requires-clause-at
expressions::object_assignment-store-requires-clause-at t c =
    pointer (still c.in_ok-at.ensures.has c.in_ok-v.ensures.lowered)

pub expressions::object_assignment-store-requires-clause-value :
    goal.expressions::object_assignment-store-requires-clause-value
expressions::object_assignment-store-requires-clause-value t c = c.in_ok-v.ensures.has

pub expressions::object_assignment-give-requires : goal.expressions::object_assignment-give-requires
expressions::object_assignment-give-requires t c =
    record {
      same = maybe_same _ c.args.to _ _
          (maybe_kept _ c.args.to (grew (both c.in_ok-at.ensures.lowered c.in_ok-v.ensures.lowered)
          c.in_ok-store.ensures.grown c.in_ok-store.ensures.adds) c.requires.to)
          (as_kind (kept _ _ _ _ c.in_ok-v.ensures.has c.in_ok-store.ensures.grown)
          (c.kind-kind.ensures c.requires.scene.ready ∙ (ap or_int c.requires.node.left)));
    }

pub expressions::object_assignment-returns : goal.expressions::object_assignment-returns
expressions::object_assignment-returns t c =
    record {
      lowered = tail_grew _ _ c.give.result (grew (both c.in_ok-at.ensures.lowered c.in_ok-v.ensures.lowered)
          c.in_ok-store.ensures.grown c.in_ok-store.ensures.adds) c.give.ensures.grown c.give.ensures.adds
          (omega (arith, c.requires.node.operands.weight));
      spends = last_and _ _ _ _ c.give.result (and (after c.in_ok-at.ensures.spends c.in_ok-v.ensures.spends)
          c.in_ok-store.ensures.spent) c.give.ensures.spent
          (omega (
            arith,
            c.requires.node.operands.weight,
            heavy (expression c.args.cx.p.now c.args.k),
            heavy (expression c.args.cx.p.now c.args.a),
            heavy (expression c.args.cx.p.now c.args.b),
            extra_small c.args.cx.fixed c.args.to,
          )) (omega (
            arith,
            c.requires.node.operands.weight,
            heavy (expression c.args.cx.p.now c.args.k),
            heavy (expression c.args.cx.p.now c.args.a),
            heavy (expression c.args.cx.p.now c.args.b),
            extra_small c.args.cx.fixed c.args.to,
          ))
          (omega (arith, c.requires.node.operands.copies));
      is = (let ready = c.requires.scene.ready in
          IfOk-weaker c.give.result _ _
          (λ r f there n. assigns_object _ c.requires.ordered ready.ordered c.args.cx.d.now c.args.to n c.requires.node
          c.written.ensures (c.kind-kind.ensures ready) c.pos.ensures there c.in_ok-at.ensures.is c.in_ok-v.ensures.is
          c.in_ok-store.ensures.emits f) c.give.ensures.emits);
    }

pub expressions::assigned-returns-in-None : goal.expressions::assigned-returns-in-None
expressions::assigned-returns-in-None t c =
    record {
      has = IfOk-weaker c.operand.result _ _ (λ t h. as_kind h c.requires.kind) c.operand.ensures.has;
      lowered = search rules;
      spends = search rules;
      is = IfOk-weaker c.operand.result _ _ (λ r h. assigned_plain _ c.in-None.is h) c.operand.ensures.is;
    }

pub expressions::assigned-own-requires-clause-room : goal.expressions::assigned-own-requires-clause-room
expressions::assigned-own-requires-clause-room t c =
    less_room c.requires.room (omega (arith, heavy (expression c.args.cx.p.now c.args.k)))

pub expressions::assigned-value-requires : goal.expressions::assigned-value-requires
expressions::assigned-value-requires t c = (
  search rules,
  (
    c.requires.ordered,
    (
      c.in_ok-v-in-Some.ensures.lowered.scene,
      (
        c.requires.typed,
        (
          as_kind c.in_ok-v-in-Some.ensures.has (sym c.requires.kind),
          room c.requires.room c.in_ok-v-in-Some.ensures.lowered
              (omega (arith, heavy (expression c.args.cx.p.now c.args.k))),
        ),
      ),
    ),
  ),
)

pub expressions::assigned-returns-in_ok-value-in-Some : goal.expressions::assigned-returns-in_ok-value-in-Some
expressions::assigned-returns-in_ok-value-in-Some t c =
    record {
      has = still c.in_ok-v-in-Some.ensures.has c.in_ok-value-in-Some.ensures.lowered;
      lowered = at_most (both c.in_ok-v-in-Some.ensures.lowered c.in_ok-value-in-Some.ensures.lowered)
          (omega (arith, heavy (expression c.args.cx.p.now c.args.k)));
      spends = within (in_own _ c.in_ok-v-in-Some.ensures.owns c.in_ok-value-in-Some.ensures.spends)
          (omega (arith, heavy (expression c.args.cx.p.now c.args.k), extra_small c.args.cx.fixed c.args.to))
          (omega (arith, heavy (expression c.args.cx.p.now c.args.k), extra_small c.args.cx.fixed c.args.to))
          (omega arith);
      is = assigned_own _ c.in-Some.is c.in_ok-v-in-Some.ensures.is c.in_ok-value-in-Some.ensures.is;
    }

pub expressions::compound-held-requires : goal.expressions::compound-held-requires
expressions::compound-held-requires t c = (
  search rules,
  (
    c.requires.ordered,
    (
      c.requires.scene,
      (
        c.requires.node.right,
        less_room c.requires.room (omega (arith, c.requires.node.weight)),
      ),
    ),
  ),
)

pub expressions::compound-changed-requires-clause-room : goal.expressions::compound-changed-requires-clause-room
expressions::compound-changed-requires-clause-room t c =
    room c.requires.room c.in_ok-y-in-Some.ensures.lowered (omega (arith, c.requires.node.weight))

pub expressions::compound-changed-requires-clause-to : goal.expressions::compound-changed-requires-clause-to
expressions::compound-changed-requires-clause-to t c =
    as_kind (still (c.in-Some.ensures.has _ c.requires.scene.ready c.requires.node.left c.requires.scene.housed)
    c.in_ok-y-in-Some.ensures.lowered) (sym (c.kind-kind.ensures c.requires.scene.ready))

pub expressions::compound-changed-requires-clause-x : goal.expressions::compound-changed-requires-clause-x
expressions::compound-changed-requires-clause-x t c =
    as_kind (still (c.in-Some.ensures.has _ c.requires.scene.ready c.requires.node.left c.requires.scene.housed)
    c.in_ok-y-in-Some.ensures.lowered) (sym (c.kind-kind.ensures c.requires.scene.ready))

pub expressions::compound-changed-requires-clause-change : goal.expressions::compound-changed-requires-clause-change
expressions::compound-changed-requires-clause-change t c =
    change_as c.args.change _ _ _ _ (sym (c.kind-kind.ensures c.requires.scene.ready))
    (sym c.in_ok-y-in-Some.ensures.kind) c.requires.change

pub expressions::compound-give-requires : goal.expressions::compound-give-requires
expressions::compound-give-requires t c =
    record {
      same = maybe_same _ c.args.to _ _
          (maybe_kept _ c.args.to (grew c.in_ok-y-in-Some.ensures.lowered c.in_ok-changed-in-Some.ensures.grown
          c.in_ok-changed-in-Some.ensures.adds) c.requires.to)
          (as_kind (still (c.in-Some.ensures.has _ c.requires.scene.ready c.requires.node.left c.requires.scene.housed)
          (grew c.in_ok-y-in-Some.ensures.lowered c.in_ok-changed-in-Some.ensures.grown
          c.in_ok-changed-in-Some.ensures.adds)) (ap or_int c.requires.left));
    }

pub expressions::compound-returns-in_ok-changed-in-Some : goal.expressions::compound-returns-in_ok-changed-in-Some
expressions::compound-returns-in_ok-changed-in-Some t c =
    record {
      lowered = tail_grew _ _ c.give.result (grew c.in_ok-y-in-Some.ensures.lowered
          c.in_ok-changed-in-Some.ensures.grown
          c.in_ok-changed-in-Some.ensures.adds) c.give.ensures.grown c.give.ensures.adds
          (omega (arith, c.requires.node.weight));
      spends = last_and _ _ _ _ c.give.result (and c.in_ok-y-in-Some.ensures.spends
          c.in_ok-changed-in-Some.ensures.spent)
          c.give.ensures.spent (omega (
            arith,
            c.requires.node.weight,
            heavy (expression c.args.cx.p.now c.args.k),
            heavy (expression c.args.cx.p.now c.args.a),
            heavy (expression c.args.cx.p.now c.args.b),
            extra_small c.args.cx.fixed c.args.to,
          )) (omega (
            arith,
            c.requires.node.weight,
            heavy (expression c.args.cx.p.now c.args.k),
            heavy (expression c.args.cx.p.now c.args.a),
            heavy (expression c.args.cx.p.now c.args.b),
            extra_small c.args.cx.fixed c.args.to,
          ))
          (omega (arith, c.requires.node.copies));
      is = (let ready = c.requires.scene.ready in
          IfOk-weaker c.give.result _ _
          (λ r f op of n node by. compounds_variable _ c.requires.ordered ready.ordered c.args.cx.d.now n node by
          c.args.to refl (λ x m. node_at c.args.cx.d.now ready c.requires.node.left m.there m.is)
          c.in-Some.ensures.stands
          (c.kind-kind.ensures ready) c.in_ok-y-in-Some.ensures.kind c.in_ok-y-in-Some.ensures.is
          c.in_ok-changed-in-Some.ensures.emits f) c.give.ensures.emits);
    }

pub expressions::compound-pointer-requires : goal.expressions::compound-pointer-requires
expressions::compound-pointer-requires t c = (
  search rules,
  (
    c.requires.ordered,
    (
      c.requires.scene,
      (
        c.requires.node.left,
        less_room c.requires.room (omega (arith, c.requires.node.weight)),
      ),
    ),
  ),
)

pub expressions::compound-held-requires-in-None : goal.expressions::compound-held-requires-in-None
expressions::compound-held-requires-in-None t c = (
  search rules,
  (
    c.requires.ordered,
    (
      c.in_ok-at-in-None.ensures.lowered.scene,
      (
        c.requires.node.right,
        room c.requires.room c.in_ok-at-in-None.ensures.lowered
            (omega (arith, c.requires.node.weight)),
      ),
    ),
  ),
)

pub expressions::compound-own-requires-clause-scene : goal.expressions::compound-own-requires-clause-scene
expressions::compound-own-requires-clause-scene t c = c.in_ok-y-in-None.ensures.lowered.scene

pub expressions::compound-own-requires-clause-room : goal.expressions::compound-own-requires-clause-room
expressions::compound-own-requires-clause-room t c =
    room c.requires.room (both c.in_ok-at-in-None.ensures.lowered c.in_ok-y-in-None.ensures.lowered)
    (omega (arith, c.requires.node.weight))

pub expressions::compound-own-requires-clause-to : goal.expressions::compound-own-requires-clause-to
expressions::compound-own-requires-clause-to t c =
    maybe_kind _ c.args.to _ _ (sym ((c.kind-kind.ensures c.requires.scene.ready) ∙ (ap or_int c.requires.left)))
    (maybe_kept _ c.args.to (both c.in_ok-at-in-None.ensures.lowered c.in_ok-y-in-None.ensures.lowered) c.requires.to)

pub expressions::compound-load-requires-clause-from : goal.expressions::compound-load-requires-clause-from
expressions::compound-load-requires-clause-from t c =
    pointer (still (still c.in_ok-at-in-None.ensures.has c.in_ok-y-in-None.ensures.lowered)
    c.in_ok-temp-in-None.ensures.lowered)

pub expressions::compound-changed-requires-in-None-clause-room :
    goal.expressions::compound-changed-requires-in-None-clause-room
expressions::compound-changed-requires-in-None-clause-room t c =
    room c.requires.room (grew (both (both c.in_ok-at-in-None.ensures.lowered c.in_ok-y-in-None.ensures.lowered)
    c.in_ok-temp-in-None.ensures.lowered) c.in_ok-load-in-None.ensures.grown c.in_ok-load-in-None.ensures.adds)
    (omega (arith, c.requires.node.weight))

pub expressions::compound-changed-requires-in-None-clause-to :
    goal.expressions::compound-changed-requires-in-None-clause-to
expressions::compound-changed-requires-in-None-clause-to t c =
    kept _ _ _ _ c.in_ok-temp-in-None.ensures.has c.in_ok-load-in-None.ensures.grown

pub expressions::compound-changed-requires-in-None-clause-x :
    goal.expressions::compound-changed-requires-in-None-clause-x
expressions::compound-changed-requires-in-None-clause-x t c =
    kept _ _ _ _ c.in_ok-temp-in-None.ensures.has c.in_ok-load-in-None.ensures.grown

pub expressions::compound-changed-requires-in-None-clause-y :
    goal.expressions::compound-changed-requires-in-None-clause-y
expressions::compound-changed-requires-in-None-clause-y t c =
    kept _ _ _ _ (still c.in_ok-y-in-None.ensures.holds c.in_ok-temp-in-None.ensures.lowered)
    c.in_ok-load-in-None.ensures.grown

pub expressions::compound-changed-requires-in-None-clause-change :
    goal.expressions::compound-changed-requires-in-None-clause-change
expressions::compound-changed-requires-in-None-clause-change t c =
    change_as c.args.change _ _ _ _ (sym (c.kind-kind.ensures c.requires.scene.ready))
    (sym c.in_ok-y-in-None.ensures.kind) c.requires.change

pub expressions::compound-store-requires-clause-at : goal.expressions::compound-store-requires-clause-at
expressions::compound-store-requires-clause-at t c =
    pointer (kept _ _ _ _ (still (still c.in_ok-at-in-None.ensures.has c.in_ok-y-in-None.ensures.lowered)
    c.in_ok-temp-in-None.ensures.lowered) (grown_then _ _ _ c.in_ok-load-in-None.ensures.grown
    c.in_ok-changed-in-None.ensures.grown))

pub expressions::compound-store-requires-clause-value : goal.expressions::compound-store-requires-clause-value
expressions::compound-store-requires-clause-value t c =
    kept _ _ _ _ c.in_ok-temp-in-None.ensures.has
    (grown_then _ _ _ c.in_ok-load-in-None.ensures.grown c.in_ok-changed-in-None.ensures.grown)

pub expressions::compound-give-requires-in-None : goal.expressions::compound-give-requires-in-None
expressions::compound-give-requires-in-None t c =
    record {
      same = maybe_same _ c.args.to _ _
          (maybe_kind _ c.args.to _ _ (sym ((c.kind-kind.ensures c.requires.scene.ready) ∙ (ap or_int
          c.requires.left)))
          (maybe_kept _ c.args.to (grew (grew (grew
          (both (both c.in_ok-at-in-None.ensures.lowered c.in_ok-y-in-None.ensures.lowered)
          c.in_ok-temp-in-None.ensures.lowered) c.in_ok-load-in-None.ensures.grown c.in_ok-load-in-None.ensures.adds)
          c.in_ok-changed-in-None.ensures.grown c.in_ok-changed-in-None.ensures.adds)
          c.in_ok-store-in-None.ensures.grown c.in_ok-store-in-None.ensures.adds) c.requires.to))
          (kept _ _ _ _ c.in_ok-temp-in-None.ensures.has
          (grown_then _ _ _ (grown_then _ _ _ c.in_ok-load-in-None.ensures.grown c.in_ok-changed-in-None.ensures.grown)
          c.in_ok-store-in-None.ensures.grown));
    }

pub expressions::compound-returns-in_ok-store-in-None : goal.expressions::compound-returns-in_ok-store-in-None
expressions::compound-returns-in_ok-store-in-None t c =
    record {
      lowered = tail_grew _ _ c.give-in-None.result (grew
          (grew (grew (both (both c.in_ok-at-in-None.ensures.lowered c.in_ok-y-in-None.ensures.lowered)
          c.in_ok-temp-in-None.ensures.lowered) c.in_ok-load-in-None.ensures.grown c.in_ok-load-in-None.ensures.adds)
          c.in_ok-changed-in-None.ensures.grown c.in_ok-changed-in-None.ensures.adds)
          c.in_ok-store-in-None.ensures.grown
          c.in_ok-store-in-None.ensures.adds) c.give-in-None.ensures.grown c.give-in-None.ensures.adds
          (omega (arith, c.requires.node.weight));
      spends = last_given _ c.give-in-None.result c.in_ok-temp-in-None.ensures.owns
          (and (and (and (owned (after c.in_ok-at-in-None.ensures.spends c.in_ok-y-in-None.ensures.spends)
          c.in_ok-temp-in-None.ensures.owns) c.in_ok-load-in-None.ensures.spent) c.in_ok-changed-in-None.ensures.spent)
          c.in_ok-store-in-None.ensures.spent) c.give-in-None.ensures.spent c.give-in-None.ensures.there
          (omega (
            arith,
            c.requires.node.weight,
            heavy (expression c.args.cx.p.now c.args.a),
            heavy (expression c.args.cx.p.now c.args.b),
          ))
          (omega (
            arith,
            c.requires.node.weight,
            heavy (expression c.args.cx.p.now c.args.a),
            heavy (expression c.args.cx.p.now c.args.b),
          ))
          (omega (arith, c.requires.node.copies));
      is = (let ready = c.requires.scene.ready in
          IfOk-weaker c.give-in-None.result _ _
          (λ r f op of n node by. compounds_object _ c.requires.ordered ready.ordered c.args.cx.d.now n node by
          c.args.to
          c.written.ensures (c.kind-kind.ensures ready) c.in_ok-y-in-None.ensures.kind c.pos.ensures
          c.pos-in-None.ensures c.in-None.ensures.other c.in_ok-at-in-None.ensures.is c.in_ok-y-in-None.ensures.is
          c.in_ok-temp-in-None.ensures.is
          c.in_ok-load-in-None.ensures.emits c.in_ok-changed-in-None.ensures.emits c.in_ok-store-in-None.ensures.emits
          f)
          c.give-in-None.ensures.emits);
    }

pub expressions::step-variable_step-requires-clause-v : goal.expressions::step-variable_step-requires-clause-v
expressions::step-variable_step-requires-clause-v t c =
    as_kind (c.in-Some.ensures.has _ c.requires.scene.ready c.requires.node.operands.operand c.requires.scene.housed)
    (sym (c.kind-kind.ensures c.requires.scene.ready))

pub expressions::step-variable_step-requires-clause-to : goal.expressions::step-variable_step-requires-clause-to
expressions::step-variable_step-requires-clause-to t c =
    maybe_kind _ c.args.to _ _ (sym ((c.kind-kind.ensures c.requires.scene.ready) ∙ (ap or_int c.requires.node.left)))
    c.requires.to

pub expressions::step-variable_step-requires-clause-room : goal.expressions::step-variable_step-requires-clause-room
expressions::step-variable_step-requires-clause-room t c =
    less_room c.requires.room (omega (arith, c.requires.node.operands.weight))

pub expressions::step-returns-in-Some : goal.expressions::step-returns-in-Some
expressions::step-returns-in-Some t c =
    record {
      lowered = tail _ _ c.variable_step.result (start c.requires.scene) c.variable_step.ensures.lowered
          (omega (arith, c.requires.node.operands.weight));
      spends = last _ _ _ _ c.variable_step.result nothing c.variable_step.ensures.spends
          (omega (
            arith,
            c.requires.node.operands.weight,
            heavy (expression c.args.cx.p.now c.args.k),
            heavy (expression c.args.cx.p.now c.args.a),
            extra_small c.args.cx.fixed c.args.to,
          ))
          (omega (
            arith,
            c.requires.node.operands.weight,
            heavy (expression c.args.cx.p.now c.args.k),
            heavy (expression c.args.cx.p.now c.args.a),
            extra_small c.args.cx.fixed c.args.to,
          ))
          (omega (arith, c.requires.node.operands.copies));
      is = (let ready = c.requires.scene.ready in
          IfOk-weaker c.variable_step.result _ _
          (λ r h n. h c.args.k c.args.a c.requires.node.operands.operand
          (steps_are _ c.requires.ordered ready.ordered c.args.cx.d.now c.pointed_size.result n c.requires.node
          (c.pointed_size.ensures.is ready) (c.pointed_size.ensures.size ready) c.unwrap_or-size.ensures)
          c.in-Some.ensures.stands (c.kind-kind.ensures ready)) c.variable_step.ensures.is);
    }

pub expressions::step-pointer-requires : goal.expressions::step-pointer-requires
expressions::step-pointer-requires t c = (
  search rules,
  (
    c.requires.ordered,
    (
      c.requires.scene,
      (
        c.requires.node.operands.operand,
        less_room c.requires.room (omega (arith, c.requires.node.operands.weight)),
      ),
    ),
  ),
)

pub expressions::step-own-requires-clause-scene : goal.expressions::step-own-requires-clause-scene
expressions::step-own-requires-clause-scene t c = c.in_ok-at-in-None.ensures.lowered.scene

pub expressions::step-own-requires-clause-room : goal.expressions::step-own-requires-clause-room
expressions::step-own-requires-clause-room t c =
    room c.requires.room c.in_ok-at-in-None.ensures.lowered (omega (arith, c.requires.node.operands.weight))

pub expressions::step-own-requires-clause-to : goal.expressions::step-own-requires-clause-to
expressions::step-own-requires-clause-to t c =
    maybe_kind _ c.args.to _ _ (sym ((c.kind-kind.ensures c.requires.scene.ready) ∙ (ap or_int c.requires.node.left)))
    (maybe_kept _ c.args.to c.in_ok-at-in-None.ensures.lowered c.requires.to)

pub expressions::step-load-requires-clause-from : goal.expressions::step-load-requires-clause-from
expressions::step-load-requires-clause-from t c =
    pointer (still c.in_ok-at-in-None.ensures.has c.in_ok-old-in-None.ensures.lowered)

pub expressions::step-renewed-requires-clause-old : goal.expressions::step-renewed-requires-clause-old
expressions::step-renewed-requires-clause-old t c =
    kept _ _ _ _ c.in_ok-old-in-None.ensures.has c.in_ok-load-in-None.ensures.grown

pub expressions::step-renewed-requires-clause-room : goal.expressions::step-renewed-requires-clause-room
expressions::step-renewed-requires-clause-room t c =
    room c.requires.room (grew (both c.in_ok-at-in-None.ensures.lowered c.in_ok-old-in-None.ensures.lowered)
    c.in_ok-load-in-None.ensures.grown c.in_ok-load-in-None.ensures.adds)
    (omega (arith, c.requires.node.operands.weight))

pub expressions::step-store-requires-clause-at : goal.expressions::step-store-requires-clause-at
expressions::step-store-requires-clause-at t c =
    pointer (kept _ _ _ _ (still c.in_ok-at-in-None.ensures.has c.in_ok-old-in-None.ensures.lowered)
    (grown_then _ _ _ c.in_ok-load-in-None.ensures.grown c.in_ok-new-in-None.ensures.grown))

pub expressions::step-store-requires-clause-value : goal.expressions::step-store-requires-clause-value
expressions::step-store-requires-clause-value t c = c.in_ok-new-in-None.ensures.has

pub expressions::step-give-requires : goal.expressions::step-give-requires
expressions::step-give-requires t c =
    record {
      same = maybe_same _ c.args.to _ _
          (maybe_kind _ c.args.to _ _ (sym ((c.kind-kind.ensures c.requires.scene.ready)
          ∙ (ap or_int c.requires.node.left))) (maybe_kept _ c.args.to
          (grew (grew (grew (both c.in_ok-at-in-None.ensures.lowered c.in_ok-old-in-None.ensures.lowered)
          c.in_ok-load-in-None.ensures.grown c.in_ok-load-in-None.ensures.adds) c.in_ok-new-in-None.ensures.grown
          c.in_ok-new-in-None.ensures.adds) c.in_ok-store-in-None.ensures.grown c.in_ok-store-in-None.ensures.adds)
          c.requires.to)) (kept _ _ _ _ c.in_ok-old-in-None.ensures.has
          (grown_then _ _ _ (grown_then _ _ _ c.in_ok-load-in-None.ensures.grown c.in_ok-new-in-None.ensures.grown)
          c.in_ok-store-in-None.ensures.grown));
    }

pub expressions::step-returns-in_ok-store-in-None : goal.expressions::step-returns-in_ok-store-in-None
expressions::step-returns-in_ok-store-in-None t c =
    record {
      lowered = tail_grew _ _ c.give.result (grew (grew (grew
          (both c.in_ok-at-in-None.ensures.lowered c.in_ok-old-in-None.ensures.lowered)
          c.in_ok-load-in-None.ensures.grown c.in_ok-load-in-None.ensures.adds) c.in_ok-new-in-None.ensures.grown
          c.in_ok-new-in-None.ensures.adds) c.in_ok-store-in-None.ensures.grown c.in_ok-store-in-None.ensures.adds)
          c.give.ensures.grown c.give.ensures.adds (omega (arith, c.requires.node.operands.weight));
      spends = last_given _ c.give.result c.in_ok-old-in-None.ensures.owns
          (and (and (and (owned c.in_ok-at-in-None.ensures.spends c.in_ok-old-in-None.ensures.owns)
          c.in_ok-load-in-None.ensures.spent) c.in_ok-new-in-None.ensures.spent) c.in_ok-store-in-None.ensures.spent)
          c.give.ensures.spent c.give.ensures.there
          (omega (arith, c.requires.node.operands.weight, heavy (expression c.args.cx.p.now c.args.a)))
          (omega (arith, c.requires.node.operands.weight, heavy (expression c.args.cx.p.now c.args.a)))
          (omega (arith, c.requires.node.operands.copies));
      is = (let ready = c.requires.scene.ready in
          IfOk-weaker c.give.result _ _
          (λ r f n. steps_place _ c.requires.ordered ready.ordered
          (steps_are _ c.requires.ordered ready.ordered c.args.cx.d.now c.pointed_size.result n c.requires.node
          (c.pointed_size.ensures.is ready) (c.pointed_size.ensures.size ready) c.unwrap_or-size.ensures) n c.args.to
          _ _ _ _ _ _ _ (c.kind-kind.ensures ready) c.pos.ensures c.pos-in-None.ensures c.in-None.ensures.other
          c.in_ok-at-in-None.ensures.is c.in_ok-old-in-None.ensures.is c.in_ok-load-in-None.ensures.emits
          c.drops_old.result c.drops_old.ensures
          c.in_ok-new-in-None.ensures.same c.in_ok-new-in-None.ensures.apart c.in_ok-store-in-None.ensures.emits f)
          c.give.ensures.emits);
    }

pub expressions::value-returns-in-Call : goal.expressions::value-returns-in-Call
expressions::value-returns-in-Call t c =
    record {
      lowered = search rules;
      spends = last _ _ _ _ c.call.result nothing c.call.ensures.spends (omega arith) (omega arith)
          (omega arith);
      is = IfOk-weaker c.call.result _ _
          (λ r h. value_called _ c.asked.ensures.given
          (h (subst (λ z. IsNode c.args.cx.p.now c.args.k (exprs.Call c.in-Call.f z)) (sym c.as_slice.ensures)
          (is_node c.in-Some.ensures c.in-Call.is)))) c.call.ensures.is;
    }

pub expressions::value-returns-in-Library : goal.expressions::value-returns-in-Library
expressions::value-returns-in-Library t c =
    record {
      lowered = search rules;
      spends = last _ _ _ _ c.library.result nothing c.library.ensures.spends (omega arith) (omega arith)
          (omega arith);
      is = IfOk-weaker c.library.result _ _
          (λ r h. value_called _ c.asked-in-Library.ensures.given
          (h (subst (λ z. IsNode c.args.cx.p.now c.args.k (exprs.Library c.in-Library.n z))
          (sym c.as_slice-in-Library.ensures) (is_node c.in-Some.ensures c.in-Library.is)))) c.library.ensures.is;
    }

pub expressions::value-returns-in-Int : goal.expressions::value-returns-in-Int
expressions::value-returns-in-Int t c =
    record {
      lowered = search rules;
      spends = search rules;
      is = IfOk-weaker c.integer.result _ _
          (λ r h. h (record { node = _; there = c.in-Some.ensures; is = c.in-Int.is })) c.integer.ensures.is;
    }

pub expressions::unary-returns-in-Plus : goal.expressions::unary-returns-in-Plus
expressions::unary-returns-in-Plus t c =
    record {
      lowered = search rules;
      spends = search rules;
      is = IfOk-weaker c.signed_value.result _ _
          (λ r h. h c.args.op (subst (λ z. Signs z sem.Positive) (sym c.in-Plus.is) tt)) c.signed_value.ensures.is;
    }

pub expressions::unary-returns-in-Minus : goal.expressions::unary-returns-in-Minus
expressions::unary-returns-in-Minus t c =
    record {
      lowered = search rules;
      spends = search rules;
      is = IfOk-weaker c.signed_value-in-Minus.result _ _
          (λ r h. h c.args.op (subst (λ z. Signs z sem.Negative) (sym c.in-Minus.is) tt))
          c.signed_value-in-Minus.ensures.is;
    }

pub expressions::unary-returns-in-Complement : goal.expressions::unary-returns-in-Complement
expressions::unary-returns-in-Complement t c =
    record {
      lowered = search rules;
      spends = search rules;
      is = IfOk-weaker c.signed_value-in-Complement.result _ _
          (λ r h. h c.args.op (subst (λ z. Signs z sem.Complement) (sym c.in-Complement.is) tt))
          c.signed_value-in-Complement.ensures.is;
    }

pub places::place-returns-in-Conditional : goal.places::place-returns-in-Conditional
places::place-returns-in-Conditional t c =
    record {
      lowered = search rules;
      spends = search rules;
      is = (let n = node_at c.args.cx.d.now c.requires.scene.ready c.requires.typed c.in-Some.ensures
          c.in-Conditional.is in
          IfOk-weaker c.place_choice.result _ _
          (λ r h. h (record { kind = n.kind; is = n.test })
          (record { node = _; there = c.in-Some.ensures; is = c.in-Conditional.is })) c.place_choice.ensures.is);
    }

pub places::struct_copy-returns-in_default : goal.places::struct_copy-returns-in_default
places::struct_copy-returns-in_default t c =
    record {
      lowered = search rules;
      spends = search rules;
      is = IfOk-weaker c.plain_copy.result _ _
          (λ r h. h (plain_none (setting c.args.cx) c.requires.ordered c.requires.scene.ready.ordered c.args.k
          c.in_default.ensures)) c.plain_copy.ensures.is;
    }

pub places::struct_copy-returns-in-Conditional : goal.places::struct_copy-returns-in-Conditional
places::struct_copy-returns-in-Conditional t c =
    record {
      lowered = search rules;
      spends = search rules;
      is = IfOk-weaker c.chosen_copy.result _ _
          (λ r h. h (record { node = _; there = c.in-Some.ensures; is = c.in-Conditional.is }))
          c.chosen_copy.ensures.is;
    }

pub places::struct_copy-returns-in_default-kind : goal.places::struct_copy-returns-in_default-kind
places::struct_copy-returns-in_default-kind t c =
    record {
      lowered = search rules;
      spends = search rules;
      is = IfOk-weaker c.plain_copy-in_default-kind.result _ _
          (λ r h. h (plain_own (setting c.args.cx) c.requires.ordered c.requires.scene.ready.ordered _
          c.in-Some.e.now.kind c.requires.typed (record { node = _; there = c.in-Some.ensures; is = refl })
          c.in_default-kind.not-Conditional c.in_default-kind.not-Comma c.in_default-kind.not-Load))
          c.plain_copy-in_default-kind.ensures.is;
    }

pub expressions::sum-returns-in-Some : goal.expressions::sum-returns-in-Some
expressions::sum-returns-in-Some t c =
    record {
      lowered = search rules;
      spends = search rules;
      is = (let ready = c.requires.scene.ready in
          let points = sym (c.in-Some.ensures.is ready) in
          IfOk-weaker c.pointer_first.result _ _
          (λ r h n. h (sum_first _ c.requires.ordered ready.ordered c.args.cx.d.now n c.requires.node
          (first_pointer _ _ _ _ c.requires.node points) points (c.in-Some.ensures.size ready) c.stride.ensures))
          c.pointer_first.ensures.is);
    }

pub expressions::sum-returns-in-None : goal.expressions::sum-returns-in-None
expressions::sum-returns-in-None t c =
    record {
      lowered = search rules;
      spends = search rules;
      is = (let ready = c.requires.scene.ready in
          let points = sym (c.in-None.ensures.is ready) in
          IfOk-weaker c.pointer_second.result _ _
          (λ r h n. h (sum_second _ c.requires.ordered ready.ordered c.args.cx.d.now n c.requires.node points
          (subst (IsPointed c.args.cx.p.now.types (type_at c.args.cx.p.now c.args.b)) (sym c.unwrap_or-size.ensures)
          (given_is _ c.pointed_size-in-None.result 0 (c.pointed_size-in-None.ensures.is ready
          ∙ points_there (c.requires.node.indexes points).0) (c.pointed_size-in-None.ensures.size ready)))
          c.stride-in-None.ensures))
          c.pointer_second.ensures.is);
    }

pub expressions::assignment-returns-in-None : goal.expressions::assignment-returns-in-None
expressions::assignment-returns-in-None t c =
    record {
      lowered = search rules;
      spends = search rules;
      is = IfOk-weaker c.object_assignment.result _ _ (λ r h. h c.in-None.ensures.other)
          c.object_assignment.ensures.is;
      copies = IfOk-weaker c.object_assignment.result _ _
          (λ r f n h. no_copies n c.if-facts.false (c.facts.ensures.record n.node c.requires.scene.ready n.there) h)
          c.object_assignment.ensures.is;
    }

pub conditions::condition-returns-in-Unary-LogicalNot-default :
    goal.conditions::condition-returns-in-Unary-LogicalNot-default
conditions::condition-returns-in-Unary-LogicalNot-default t c =
    record {
      lowered = search rules;
      spends = search rules;
      is = (let w = c.in-Unary-LogicalNot-default in
          let is = w.is ∙ ap (λ z. exprs.Unary z w.a) (rw w.is at w.field-0-is) in
          let n = node_at c.args.cx.d.now c.requires.scene.ready c.requires.typed c.in-Some.ensures is in
          IfOk-weaker c.opposite_condition.result _ _
          (λ r h. h n.is (record { kind = n.kind; is = n.value })
          (record { node = _; there = c.in-Some.ensures; is = is })) c.opposite_condition.ensures.is);
    }

pub expressions::effect-returns-in-Conditional : goal.expressions::effect-returns-in-Conditional
expressions::effect-returns-in-Conditional t c =
    record {
      lowered = search rules;
      spends = search rules;
      is = (let n = node_at c.args.cx.d.now c.requires.scene.ready c.requires.typed c.in-Some.ensures
          c.in-Conditional.is in
          IfOk-weaker c.chosen_effect.result _ _
          (λ r h. h (record { kind = n.kind; is = n.test })
          (record { node = _; there = c.in-Some.ensures; is = c.in-Conditional.is })) c.chosen_effect.ensures.is);
      places = (let n = node_at c.args.cx.d.now c.requires.scene.ready c.requires.typed c.in-Some.ensures
          c.in-Conditional.is in
          IfOk-weaker c.chosen_effect.result _ _
          (λ r h. h (record { kind = n.kind; is = n.test })
          (record { node = _; there = c.in-Some.ensures; is = c.in-Conditional.is })) c.chosen_effect.ensures.places);
    }

pub expressions::effect-returns-in-And : goal.expressions::effect-returns-in-And
expressions::effect-returns-in-And t c =
    record {
      lowered = search rules;
      spends = search rules;
      is = (let n = node_at c.args.cx.d.now c.requires.scene.ready c.requires.typed c.in-Some.ensures c.in-And.is in
          IfOk-weaker c.guarded_effect.result _ _
          (λ r h. h (record { kind = n.left_kind; is = n.left })
          (record { node = _; there = c.in-Some.ensures; is = c.in-And.is })) c.guarded_effect.ensures.is);
      places = (let n = node_at c.args.cx.d.now c.requires.scene.ready c.requires.typed c.in-Some.ensures c.in-And.is
          in
          let there = is_node c.in-Some.ensures c.in-And.is in
          IfOk-weaker c.guarded_effect.result _ _
          (λ r h. place_effect_never _ c.requires.ordered c.requires.scene.ready.ordered there refl
          (h (record { kind = n.left_kind; is = n.left }) there)) c.guarded_effect.ensures.is);
    }

pub expressions::effect-returns-in-Or : goal.expressions::effect-returns-in-Or
expressions::effect-returns-in-Or t c =
    record {
      lowered = search rules;
      spends = search rules;
      is = (let n = node_at c.args.cx.d.now c.requires.scene.ready c.requires.typed c.in-Some.ensures c.in-Or.is in
          IfOk-weaker c.guarded_effect-in-Or.result _ _
          (λ r h. h (record { kind = n.left_kind; is = n.left })
          (record { node = _; there = c.in-Some.ensures; is = c.in-Or.is })) c.guarded_effect-in-Or.ensures.is);
      places = (let n = node_at c.args.cx.d.now c.requires.scene.ready c.requires.typed c.in-Some.ensures c.in-Or.is in
          let there = is_node c.in-Some.ensures c.in-Or.is in
          IfOk-weaker c.guarded_effect-in-Or.result _ _
          (λ r h. place_effect_never _ c.requires.ordered c.requires.scene.ready.ordered there refl
          (h (record { kind = n.left_kind; is = n.left }) there)) c.guarded_effect-in-Or.ensures.is);
    }

pub expressions::effect-returns-in-Load : goal.expressions::effect-returns-in-Load
expressions::effect-returns-in-Load t c =
    record {
      lowered = search rules;
      spends = search rules;
      is = IfOk-weaker c.read_effect.result _ _
          (λ r h. h (record { node = _; there = c.in-Some.ensures; is = c.in-Load.is })
          (whole_load c.args.cx.d.now c.requires.scene.ready c.requires.typed c.in-Some.ensures _ c.in-Load.is))
          c.read_effect.ensures.is;
      places = IfOk-weaker c.read_effect.result _ _
          (λ r h. h (record { node = _; there = c.in-Some.ensures; is = c.in-Load.is })
          (whole_load c.args.cx.d.now c.requires.scene.ready c.requires.typed c.in-Some.ensures _ c.in-Load.is))
          c.read_effect.ensures.places;
    }

pub expressions::effect-returns-in-Constant-2 : goal.expressions::effect-returns-in-Constant-2
expressions::effect-returns-in-Constant-2 t c =
    record {
      lowered = search rules;
      spends = search rules;
      is = effect_leaf _ c.requires.ordered c.requires.scene.ready.ordered
          (is_node c.in-Some.ensures refl) (leaf_of _ c.in-Constant.is) _;
      places = place_effect_leaf _ c.requires.ordered c.requires.scene.ready.ordered
          (is_node c.in-Some.ensures refl) (leaf_of _ c.in-Constant.is) _;
    }

pub expressions::effect-returns-in-Constant-3 : goal.expressions::effect-returns-in-Constant-3
expressions::effect-returns-in-Constant-3 t c =
    record {
      lowered = search rules;
      spends = search rules;
      is = effect_leaf _ c.requires.ordered c.requires.scene.ready.ordered
          (is_node c.in-Some.ensures refl) (leaf_of _ c.in-Constant.is) _;
      places = place_effect_leaf _ c.requires.ordered c.requires.scene.ready.ordered
          (is_node c.in-Some.ensures refl) (leaf_of _ c.in-Constant.is) _;
    }

pub expressions::effect-returns-in-Constant-4 : goal.expressions::effect-returns-in-Constant-4
expressions::effect-returns-in-Constant-4 t c =
    record {
      lowered = search rules;
      spends = search rules;
      is = effect_leaf _ c.requires.ordered c.requires.scene.ready.ordered
          (is_node c.in-Some.ensures refl) (leaf_of _ c.in-Constant.is) _;
      places = place_effect_leaf _ c.requires.ordered c.requires.scene.ready.ordered
          (is_node c.in-Some.ensures refl) (leaf_of _ c.in-Constant.is) _;
    }

pub expressions::effect-returns-in-Constant-5 : goal.expressions::effect-returns-in-Constant-5
expressions::effect-returns-in-Constant-5 t c =
    record {
      lowered = search rules;
      spends = search rules;
      is = effect_leaf _ c.requires.ordered c.requires.scene.ready.ordered
          (is_node c.in-Some.ensures refl) (leaf_of _ c.in-Constant.is) _;
      places = place_effect_leaf _ c.requires.ordered c.requires.scene.ready.ordered
          (is_node c.in-Some.ensures refl) (leaf_of _ c.in-Constant.is) _;
    }

pub expressions::value-returns-in-Convert : goal.expressions::value-returns-in-Convert
expressions::value-returns-in-Convert t c =
    record {
      lowered = search rules;
      spends = search rules;
      is = IfOk-weaker c.conversion.result _ _
          (λ r h. h (has_converted c.args.cx.d.now c.requires.scene.ready c.requires.typed c.in-Some.ensures _
          c.in-Convert.is)
          (is_node c.in-Some.ensures c.in-Convert.is)) c.conversion.ensures.is;
    }

pub expressions::value-returns-in-And : goal.expressions::value-returns-in-And
expressions::value-returns-in-And t c =
    record {
      lowered = search rules;
      spends = search rules;
      is = (let n = node_at c.args.cx.d.now c.requires.scene.ready c.requires.typed c.in-Some.ensures c.in-And.is in
          IfOk-weaker c.truth.result _ _
          (λ r h. h (subst (λ (j : Junction). HasScalar c.args.cx.p.now j.a) (sym c.and.ensures)
          (record { kind = n.left_kind; is = n.left }))
          (subst (λ (j : Junction). HasScalar c.args.cx.p.now j.b) (sym c.and.ensures)
          (record { kind = n.right_kind; is = n.right }))
          (subst (λ (j : Junction). IsNode c.args.cx.p.now c.args.k (joined j.both j.a j.b)) (sym c.and.ensures)
          (is_node c.in-Some.ensures c.in-And.is))) c.truth.ensures.is);
    }

pub expressions::value-returns-in-Or : goal.expressions::value-returns-in-Or
expressions::value-returns-in-Or t c =
    record {
      lowered = search rules;
      spends = search rules;
      is = (let n = node_at c.args.cx.d.now c.requires.scene.ready c.requires.typed c.in-Some.ensures c.in-Or.is in
          IfOk-weaker c.truth-in-Or.result _ _
          (λ r h. h (subst (λ (j : Junction). HasScalar c.args.cx.p.now j.a) (sym c.or.ensures)
          (record { kind = n.left_kind; is = n.left }))
          (subst (λ (j : Junction). HasScalar c.args.cx.p.now j.b) (sym c.or.ensures)
          (record { kind = n.right_kind; is = n.right }))
          (subst (λ (j : Junction). IsNode c.args.cx.p.now c.args.k (joined j.both j.a j.b)) (sym c.or.ensures)
          (is_node c.in-Some.ensures c.in-Or.is))) c.truth-in-Or.ensures.is);
    }

pub expressions::value-returns-in-Assign : goal.expressions::value-returns-in-Assign
expressions::value-returns-in-Assign t c =
    record {
      lowered = search rules;
      spends = search rules;
      is = IfOk-weaker c.assignment.result _ _ (λ r h. value_changed _ (h (is_node c.in-Some.ensures c.in-Assign.is)))
          c.assignment.ensures.is;
    }

pub expressions::value-returns-in-Compound : goal.expressions::value-returns-in-Compound
expressions::value-returns-in-Compound t c =
    record {
      lowered = search rules;
      spends = search rules;
      is = (let n = node_at c.args.cx.d.now c.requires.scene.ready c.requires.typed c.in-Some.ensures c.in-Compound.is
          in
          IfOk-weaker c.compound.result _ _
          (λ r h. value_changed _ (h _ _ (is_node c.in-Some.ensures c.in-Compound.is) n c.change_of-change.ensures.is))
          c.compound.ensures.is);
    }

pub expressions::value-returns-in-Step : goal.expressions::value-returns-in-Step
expressions::value-returns-in-Step t c =
    record {
      lowered = search rules;
      spends = search rules;
      is = IfOk-weaker c.step.result _ _ (λ r h. value_changed _ (h (is_node c.in-Some.ensures c.in-Step.is)))
          c.step.ensures.is;
    }

pub calls::arguments-returns-clause-is : goal.calls::arguments-returns-clause-is
calls::arguments-returns-clause-is t c =
    let s = setting c.args.cx in
    let none = drop_all c.loop-a.a-index c.args.args.now c.loop-a-test.false in
    let done = subst (λ z. ArgumentsSo s c.args.args.now c.args.out.now c.loop-a.out z c.loop-a.temps.items
    c.loop-a.behind.items) none c.loop-a.invariant.1 in
    subst (λ z. ShowsArguments s c.args.args.now z c.args.out.now c.loop-a.out) (append-nil c.loop-a.temps.items)
    (arguments_end s done)

-- ---- where memory lacks

pub expressions::compound-returns-in_err-at-in-None : goal.expressions::compound-returns-in_err-at-in-None
expressions::compound-returns-in_err-at-in-None t c =
    let e = c.from_residual-in_err-at-in-None.ensures.0 in
    record {
      is = fails _ _ e;
      lowered = fails _ _ e;
      spends = fails _ _ e;
    }

pub expressions::compound-returns-in_err-changed-in-None : goal.expressions::compound-returns-in_err-changed-in-None
expressions::compound-returns-in_err-changed-in-None t c =
    let e = c.from_residual-in_err-changed-in-None.ensures.0 in
    record {
      is = fails _ _ e;
      lowered = fails _ _ e;
      spends = fails _ _ e;
    }

pub expressions::compound-returns-in_err-changed-in-Some : goal.expressions::compound-returns-in_err-changed-in-Some
expressions::compound-returns-in_err-changed-in-Some t c =
    let e = c.from_residual-in_err-changed-in-Some.ensures.0 in
    record {
      is = fails _ _ e;
      lowered = fails _ _ e;
      spends = fails _ _ e;
    }

pub expressions::compound-returns-in_err-load-in-None : goal.expressions::compound-returns-in_err-load-in-None
expressions::compound-returns-in_err-load-in-None t c =
    let e = c.from_residual-in_err-load-in-None.ensures.0 in
    record {
      is = fails _ _ e;
      lowered = fails _ _ e;
      spends = fails _ _ e;
    }

pub expressions::compound-returns-in_err-store-in-None : goal.expressions::compound-returns-in_err-store-in-None
expressions::compound-returns-in_err-store-in-None t c =
    let e = c.from_residual-in_err-store-in-None.ensures.0 in
    record {
      is = fails _ _ e;
      lowered = fails _ _ e;
      spends = fails _ _ e;
    }

pub expressions::compound-returns-in_err-temp-in-None : goal.expressions::compound-returns-in_err-temp-in-None
expressions::compound-returns-in_err-temp-in-None t c =
    let e = c.from_residual-in_err-temp-in-None.ensures.0 in
    record {
      is = fails _ _ e;
      lowered = fails _ _ e;
      spends = fails _ _ e;
    }

pub expressions::compound-returns-in_err-y-in-None : goal.expressions::compound-returns-in_err-y-in-None
expressions::compound-returns-in_err-y-in-None t c =
    let e = c.from_residual-in_err-y-in-None.ensures.0 in
    record {
      is = fails _ _ e;
      lowered = fails _ _ e;
      spends = fails _ _ e;
    }

pub expressions::compound-returns-in_err-y-in-Some : goal.expressions::compound-returns-in_err-y-in-Some
expressions::compound-returns-in_err-y-in-Some t c =
    let e = c.from_residual.ensures.0 in record { is = fails _ _ e; lowered = fails _ _ e; spends = fails _ _ e }

pub expressions::chosen_effect-returns-in_err-condition : goal.expressions::chosen_effect-returns-in_err-condition
expressions::chosen_effect-returns-in_err-condition t c =
    let e = c.from_residual.ensures.0 in
    record {
      is = fails _ _ e;
      lowered = fails _ _ e;
      places = fails _ _ e;
      spends = fails _ _ e;
    }

pub expressions::chosen_effect-returns-in_err-effect : goal.expressions::chosen_effect-returns-in_err-effect
expressions::chosen_effect-returns-in_err-effect t c =
    let e = c.from_residual-in_err-effect.ensures.0 in
    record {
      is = fails _ _ e;
      lowered = fails _ _ e;
      places = fails _ _ e;
      spends = fails _ _ e;
    }

pub expressions::chosen_effect-returns-in_err-effect-2 : goal.expressions::chosen_effect-returns-in_err-effect-2
expressions::chosen_effect-returns-in_err-effect-2 t c =
    let e = c.from_residual-in_err-effect-2.ensures.0 in
    record {
      is = fails _ _ e;
      lowered = fails _ _ e;
      places = fails _ _ e;
      spends = fails _ _ e;
    }

pub expressions::chosen_effect-returns-in_err-turn_fork : goal.expressions::chosen_effect-returns-in_err-turn_fork
expressions::chosen_effect-returns-in_err-turn_fork t c =
    let e = c.from_residual-in_err-turn_fork.ensures.0 in
    record {
      is = fails _ _ e;
      lowered = fails _ _ e;
      places = fails _ _ e;
      spends = fails _ _ e;
    }

pub expressions::object_assignment-returns-in_err-at : goal.expressions::object_assignment-returns-in_err-at
expressions::object_assignment-returns-in_err-at t c =
    let e = c.from_residual.ensures.0 in record { is = fails _ _ e; lowered = fails _ _ e; spends = fails _ _ e }

pub expressions::object_assignment-returns-in_err-store : goal.expressions::object_assignment-returns-in_err-store
expressions::object_assignment-returns-in_err-store t c =
    let e = c.from_residual-in_err-store.ensures.0 in
    record {
      is = fails _ _ e;
      lowered = fails _ _ e;
      spends = fails _ _ e;
    }

pub expressions::object_assignment-returns-in_err-v : goal.expressions::object_assignment-returns-in_err-v
expressions::object_assignment-returns-in_err-v t c =
    let e = c.from_residual-in_err-v.ensures.0 in
    record {
      is = fails _ _ e;
      lowered = fails _ _ e;
      spends = fails _ _ e;
    }

pub places::chosen_copy-returns-in_err-condition : goal.places::chosen_copy-returns-in_err-condition
places::chosen_copy-returns-in_err-condition t c =
    let e = c.from_residual.ensures.0 in record { is = fails _ _ e; lowered = fails _ _ e; spends = fails _ _ e }

pub places::chosen_copy-returns-in_err-struct_copy : goal.places::chosen_copy-returns-in_err-struct_copy
places::chosen_copy-returns-in_err-struct_copy t c =
    let e = c.from_residual-in_err-struct_copy.ensures.0 in
    record {
      is = fails _ _ e;
      lowered = fails _ _ e;
      spends = fails _ _ e;
    }

pub places::chosen_copy-returns-in_err-struct_copy-2 : goal.places::chosen_copy-returns-in_err-struct_copy-2
places::chosen_copy-returns-in_err-struct_copy-2 t c =
    let e = c.from_residual-in_err-struct_copy-2.ensures.0 in
    record {
      is = fails _ _ e;
      lowered = fails _ _ e;
      spends = fails _ _ e;
    }

pub places::chosen_copy-returns-in_err-turn_fork : goal.places::chosen_copy-returns-in_err-turn_fork
places::chosen_copy-returns-in_err-turn_fork t c =
    let e = c.from_residual-in_err-turn_fork.ensures.0 in
    record {
      is = fails _ _ e;
      lowered = fails _ _ e;
      spends = fails _ _ e;
    }

pub expressions::comparison-returns-in_err-x : goal.expressions::comparison-returns-in_err-x
expressions::comparison-returns-in_err-x t c =
    let e = c.from_residual.ensures.0 in record { is = fails _ _ e; lowered = fails _ _ e; spends = fails _ _ e }

pub places::place_choice-returns-in_err-condition : goal.places::place_choice-returns-in_err-condition
places::place_choice-returns-in_err-condition t c =
    let e = c.from_residual.ensures.0 in record { is = fails _ _ e; lowered = fails _ _ e; spends = fails _ _ e }

pub places::place_choice-returns-in_err-place : goal.places::place_choice-returns-in_err-place
places::place_choice-returns-in_err-place t c =
    let e = c.from_residual-in_err-place.ensures.0 in
    record {
      is = fails _ _ e;
      lowered = fails _ _ e;
      spends = fails _ _ e;
    }

pub places::place_choice-returns-in_err-place-2 : goal.places::place_choice-returns-in_err-place-2
places::place_choice-returns-in_err-place-2 t c =
    let e = c.from_residual-in_err-place-2.ensures.0 in
    record {
      is = fails _ _ e;
      lowered = fails _ _ e;
      spends = fails _ _ e;
    }

pub places::place_choice-returns-in_err-turn_fork : goal.places::place_choice-returns-in_err-turn_fork
places::place_choice-returns-in_err-turn_fork t c =
    let e = c.from_residual-in_err-turn_fork.ensures.0 in
    record {
      is = fails _ _ e;
      lowered = fails _ _ e;
      spends = fails _ _ e;
    }

pub expressions::effect-returns-in_err-effect-in-Comma : goal.expressions::effect-returns-in_err-effect-in-Comma
expressions::effect-returns-in_err-effect-in-Comma t c =
    let e = c.from_residual.ensures.0 in
    record {
      is = fails _ _ e;
      lowered = fails _ _ e;
      places = fails _ _ e;
      spends = fails _ _ e;
    }

pub expressions::effect-returns-in_err-t-in-Decay : goal.expressions::effect-returns-in_err-t-in-Decay
expressions::effect-returns-in_err-t-in-Decay t c =
    let e = c.from_residual-in_err-t-in-Decay.ensures.0 in
    record {
      is = fails _ _ e;
      lowered = fails _ _ e;
      places = fails _ _ e;
      spends = fails _ _ e;
    }

pub expressions::assigned-returns-in_err-v-in-Some : goal.expressions::assigned-returns-in_err-v-in-Some
expressions::assigned-returns-in_err-v-in-Some t c =
    let e = c.from_residual.ensures.0 in
    record {
      has = fails _ _ e;
      is = fails _ _ e;
      lowered = fails _ _ e;
      spends = fails _ _ e;
    }

pub expressions::assigned-returns-in_err-value-in-Some : goal.expressions::assigned-returns-in_err-value-in-Some
expressions::assigned-returns-in_err-value-in-Some t c =
    let e = c.from_residual-in_err-value-in-Some.ensures.0 in
    record {
      has = fails _ _ e;
      is = fails _ _ e;
      lowered = fails _ _ e;
      spends = fails _ _ e;
    }

pub calls::arguments-returns-in_err-behind : goal.calls::arguments-returns-in_err-behind
calls::arguments-returns-in_err-behind t c =
    let e = c.from_residual.ensures.0 in
    record {
      is = fails _ _ e;
      kinds = fails _ _ e;
      lowered = fails _ _ e;
      spends = fails _ _ e;
    }

pub calls::arguments-returns-in_err-push : goal.calls::arguments-returns-in_err-push
calls::arguments-returns-in_err-push t c =
    let e = c.from_residual-in_err-push.ensures.0 in
    record {
      is = fails _ _ e;
      kinds = fails _ _ e;
      lowered = fails _ _ e;
      spends = fails _ _ e;
    }

pub calls::arguments-returns-in_err-t : goal.calls::arguments-returns-in_err-t
calls::arguments-returns-in_err-t t c =
    let e = c.from_residual-in_err-t.ensures.0 in
    record {
      is = fails _ _ e;
      kinds = fails _ _ e;
      lowered = fails _ _ e;
      spends = fails _ _ e;
    }

pub expressions::pair-returns-in_err-x : goal.expressions::pair-returns-in_err-x
expressions::pair-returns-in_err-x t c =
    let e = c.from_residual.ensures.0 in
    record {
      is = fails _ _ e;
      left = fails _ _ e;
      left_kind = fails _ _ e;
      lowered = fails _ _ e;
      right = fails _ _ e;
      right_kind = fails _ _ e;
      spends = fails _ _ e;
    }

pub expressions::pair-returns-in_err-y : goal.expressions::pair-returns-in_err-y
expressions::pair-returns-in_err-y t c =
    let e = c.from_residual-in_err-y.ensures.0 in
    record {
      is = fails _ _ e;
      left = fails _ _ e;
      left_kind = fails _ _ e;
      lowered = fails _ _ e;
      right = fails _ _ e;
      right_kind = fails _ _ e;
      spends = fails _ _ e;
    }

pub expressions::step-returns-in_err-at-in-None : goal.expressions::step-returns-in_err-at-in-None
expressions::step-returns-in_err-at-in-None t c =
    let e = c.from_residual.ensures.0 in record { is = fails _ _ e; lowered = fails _ _ e; spends = fails _ _ e }

pub expressions::step-returns-in_err-load-in-None : goal.expressions::step-returns-in_err-load-in-None
expressions::step-returns-in_err-load-in-None t c =
    let e = c.from_residual-in_err-load-in-None.ensures.0 in
    record {
      is = fails _ _ e;
      lowered = fails _ _ e;
      spends = fails _ _ e;
    }

pub expressions::step-returns-in_err-new-in-None : goal.expressions::step-returns-in_err-new-in-None
expressions::step-returns-in_err-new-in-None t c =
    let e = c.from_residual-in_err-new-in-None.ensures.0 in
    record {
      is = fails _ _ e;
      lowered = fails _ _ e;
      spends = fails _ _ e;
    }

pub expressions::step-returns-in_err-old-in-None : goal.expressions::step-returns-in_err-old-in-None
expressions::step-returns-in_err-old-in-None t c =
    let e = c.from_residual-in_err-old-in-None.ensures.0 in
    record {
      is = fails _ _ e;
      lowered = fails _ _ e;
      spends = fails _ _ e;
    }

pub expressions::step-returns-in_err-store-in-None : goal.expressions::step-returns-in_err-store-in-None
expressions::step-returns-in_err-store-in-None t c =
    let e = c.from_residual-in_err-store-in-None.ensures.0 in
    record {
      is = fails _ _ e;
      lowered = fails _ _ e;
      spends = fails _ _ e;
    }

pub expressions::load-returns-in_err-from-in-None : goal.expressions::load-returns-in_err-from-in-None
expressions::load-returns-in_err-from-in-None t c =
    let e = c.from_residual.ensures.0 in record { is = fails _ _ e; lowered = fails _ _ e; spends = fails _ _ e }

pub expressions::truth-returns-in_err-constant : goal.expressions::truth-returns-in_err-constant
expressions::truth-returns-in_err-constant t c =
    let e = c.from_residual-in_err-constant.ensures.0 in
    record {
      is = fails _ _ e;
      lowered = fails _ _ e;
      spends = fails _ _ e;
    }

pub expressions::truth-returns-in_err-constant-2 : goal.expressions::truth-returns-in_err-constant-2
expressions::truth-returns-in_err-constant-2 t c =
    let e = c.from_residual-in_err-constant-2.ensures.0 in
    record {
      is = fails _ _ e;
      lowered = fails _ _ e;
      spends = fails _ _ e;
    }

pub expressions::truth-returns-in_err-joined_condition : goal.expressions::truth-returns-in_err-joined_condition
expressions::truth-returns-in_err-joined_condition t c =
    let e = c.from_residual.ensures.0 in record { is = fails _ _ e; lowered = fails _ _ e; spends = fails _ _ e }

pub expressions::truth-returns-in_err-turn_fork : goal.expressions::truth-returns-in_err-turn_fork
expressions::truth-returns-in_err-turn_fork t c =
    let e = c.from_residual-in_err-turn_fork.ensures.0 in
    record {
      is = fails _ _ e;
      lowered = fails _ _ e;
      spends = fails _ _ e;
    }

pub expressions::unary-returns-in_err-x-in-LogicalNot : goal.expressions::unary-returns-in_err-x-in-LogicalNot
expressions::unary-returns-in_err-x-in-LogicalNot t c =
    let e = c.from_residual.ensures.0 in record { is = fails _ _ e; lowered = fails _ _ e; spends = fails _ _ e }

pub places::member-returns-in_err-place-in-None : goal.places::member-returns-in_err-place-in-None
places::member-returns-in_err-place-in-None t c =
    let e = c.from_residual.ensures.0 in record { is = fails _ _ e; lowered = fails _ _ e; spends = fails _ _ e }

pub expressions::assignment-returns-in_err-struct_assignment :
    goal.expressions::assignment-returns-in_err-struct_assignment
expressions::assignment-returns-in_err-struct_assignment t c =
    let e = c.from_residual.ensures.0 in
    record {
      copies = fails _ _ e;
      is = fails _ _ e;
      lowered = fails _ _ e;
      spends = fails _ _ e;
    }

pub expressions::assignment-returns-in_err-value-in-Some : goal.expressions::assignment-returns-in_err-value-in-Some
expressions::assignment-returns-in_err-value-in-Some t c =
    let e = c.from_residual-in_err-value-in-Some.ensures.0 in
    record {
      copies = fails _ _ e;
      is = fails _ _ e;
      lowered = fails _ _ e;
      spends = fails _ _ e;
    }

pub places::address-returns-in_err-place : goal.places::address-returns-in_err-place
places::address-returns-in_err-place t c =
    let e = c.from_residual.ensures.0 in record { is = fails _ _ e; lowered = fails _ _ e; spends = fails _ _ e }

pub calls::call-returns-in_err-temps-in-None : goal.calls::call-returns-in_err-temps-in-None
calls::call-returns-in_err-temps-in-None t c =
    let e = c.from_residual-in_err-temps-in-None.ensures.0 in
    record {
      is = fails _ _ e;
      lowered = fails _ _ e;
      spends = fails _ _ e;
    }

pub calls::call-returns-in_err-temps-in-Some : goal.calls::call-returns-in_err-temps-in-Some
calls::call-returns-in_err-temps-in-Some t c =
    let e = c.from_residual.ensures.0 in record { is = fails _ _ e; lowered = fails _ _ e; spends = fails _ _ e }

pub calls::call-returns-in_err-v-in-None : goal.calls::call-returns-in_err-v-in-None
calls::call-returns-in_err-v-in-None t c =
    let e = c.from_residual-in_err-v-in-None.ensures.0 in
    record {
      is = fails _ _ e;
      lowered = fails _ _ e;
      spends = fails _ _ e;
    }

pub expressions::displaced-returns-in_err-base : goal.expressions::displaced-returns-in_err-base
expressions::displaced-returns-in_err-base t c =
    let e = c.from_residual.ensures.0 in record { is = fails _ _ e; lowered = fails _ _ e; spends = fails _ _ e }

pub expressions::distance-returns-in_err-x : goal.expressions::distance-returns-in_err-x
expressions::distance-returns-in_err-x t c =
    let e = c.from_residual.ensures.0 in record { is = fails _ _ e; lowered = fails _ _ e; spends = fails _ _ e }

pub places::fresh_place-returns-in_err-place : goal.places::fresh_place-returns-in_err-place
places::fresh_place-returns-in_err-place t c =
    let e = c.from_residual-in_err-place.ensures.0 in
    record {
      has = fails _ _ e;
      is = fails _ _ e;
      lowered = fails _ _ e;
      spends = fails _ _ e;
    }

pub places::fresh_place-returns-in_err-t : goal.places::fresh_place-returns-in_err-t
places::fresh_place-returns-in_err-t t c =
    let e = c.from_residual.ensures.0 in
    record {
      has = fails _ _ e;
      is = fails _ _ e;
      lowered = fails _ _ e;
      spends = fails _ _ e;
    }

pub expressions::pointer_first-returns-in_err-base-in-None :
    goal.expressions::pointer_first-returns-in_err-base-in-None
expressions::pointer_first-returns-in_err-base-in-None t c =
    let e = c.from_residual.ensures.0 in record { is = fails _ _ e; lowered = fails _ _ e; spends = fails _ _ e }

pub expressions::comma-returns-in_err-effect : goal.expressions::comma-returns-in_err-effect
expressions::comma-returns-in_err-effect t c =
    let e = c.from_residual.ensures.0 in record { is = fails _ _ e; lowered = fails _ _ e; spends = fails _ _ e }

pub expressions::capability-returns-in_err-x : goal.expressions::capability-returns-in_err-x
expressions::capability-returns-in_err-x t c =
    let e = c.from_residual.ensures.0 in record { is = fails _ _ e; lowered = fails _ _ e; spends = fails _ _ e }

pub places::place-returns-in_err-t-in-Assign : goal.places::place-returns-in_err-t-in-Assign
places::place-returns-in_err-t-in-Assign t c =
    let e = c.from_residual.ensures.0 in record { is = fails _ _ e; lowered = fails _ _ e; spends = fails _ _ e }

pub places::struct_copy-returns-in_err-effect-in-Comma : goal.places::struct_copy-returns-in_err-effect-in-Comma
places::struct_copy-returns-in_err-effect-in-Comma t c =
    let e = c.from_residual.ensures.0 in record { is = fails _ _ e; lowered = fails _ _ e; spends = fails _ _ e }

pub expressions::signed_value-returns-in_err-x : goal.expressions::signed_value-returns-in_err-x
expressions::signed_value-returns-in_err-x t c =
    let e = c.from_residual.ensures.0 in record { is = fails _ _ e; lowered = fails _ _ e; spends = fails _ _ e }

pub conditions::condition-returns-in_err-on-in_default-kind :
    goal.conditions::condition-returns-in_err-on-in_default-kind
conditions::condition-returns-in_err-on-in_default-kind t c =
    let e = c.from_residual.ensures.0 in record { is = fails _ _ e; lowered = fails _ _ e; spends = fails _ _ e }

pub places::plain_copy-returns-in_err-from : goal.places::plain_copy-returns-in_err-from
places::plain_copy-returns-in_err-from t c =
    let e = c.from_residual.ensures.0 in record { is = fails _ _ e; lowered = fails _ _ e; spends = fails _ _ e }

pub places::plain_copy-returns-in_err-to : goal.places::plain_copy-returns-in_err-to
places::plain_copy-returns-in_err-to t c =
    let e = c.from_residual-in_err-to.ensures.0 in
    record {
      is = fails _ _ e;
      lowered = fails _ _ e;
      spends = fails _ _ e;
    }

pub expressions::conversion-returns-in_err-effect : goal.expressions::conversion-returns-in_err-effect
expressions::conversion-returns-in_err-effect t c =
    let e = c.from_residual.ensures.0 in record { is = fails _ _ e; lowered = fails _ _ e; spends = fails _ _ e }

pub expressions::conversion-returns-in_err-x : goal.expressions::conversion-returns-in_err-x
expressions::conversion-returns-in_err-x t c =
    let e = c.from_residual-in_err-x.ensures.0 in
    record {
      is = fails _ _ e;
      lowered = fails _ _ e;
      spends = fails _ _ e;
    }

pub expressions::choice-returns-in_err-condition : goal.expressions::choice-returns-in_err-condition
expressions::choice-returns-in_err-condition t c =
    let e = c.from_residual.ensures.0 in record { is = fails _ _ e; lowered = fails _ _ e; spends = fails _ _ e }

pub expressions::choice-returns-in_err-turn_fork : goal.expressions::choice-returns-in_err-turn_fork
expressions::choice-returns-in_err-turn_fork t c =
    let e = c.from_residual-in_err-turn_fork.ensures.0 in
    record {
      is = fails _ _ e;
      lowered = fails _ _ e;
      spends = fails _ _ e;
    }

pub expressions::choice-returns-in_err-value : goal.expressions::choice-returns-in_err-value
expressions::choice-returns-in_err-value t c =
    let e = c.from_residual-in_err-value.ensures.0 in
    record {
      is = fails _ _ e;
      lowered = fails _ _ e;
      spends = fails _ _ e;
    }

pub expressions::choice-returns-in_err-value-2 : goal.expressions::choice-returns-in_err-value-2
expressions::choice-returns-in_err-value-2 t c =
    let e = c.from_residual-in_err-value-2.ensures.0 in
    record {
      is = fails _ _ e;
      lowered = fails _ _ e;
      spends = fails _ _ e;
    }

pub places::struct_assignment-returns-in_err-struct_copy : goal.places::struct_assignment-returns-in_err-struct_copy
places::struct_assignment-returns-in_err-struct_copy t c =
    let e = c.from_residual-in_err-struct_copy.ensures.0 in
    record {
      has = fails _ _ e;
      is = fails _ _ e;
      lowered = fails _ _ e;
      spends = fails _ _ e;
    }

pub places::struct_assignment-returns-in_err-t : goal.places::struct_assignment-returns-in_err-t
places::struct_assignment-returns-in_err-t t c =
    let e = c.from_residual.ensures.0 in
    record {
      has = fails _ _ e;
      is = fails _ _ e;
      lowered = fails _ _ e;
      spends = fails _ _ e;
    }

pub expressions::operand-returns-in_err-t-in-None : goal.expressions::operand-returns-in_err-t-in-None
expressions::operand-returns-in_err-t-in-None t c =
    let e = c.from_residual.ensures.0 in
    record {
      has = fails _ _ e;
      is = fails _ _ e;
      lowered = fails _ _ e;
      spends = fails _ _ e;
    }

pub expressions::operand-returns-in_err-value-in-None : goal.expressions::operand-returns-in_err-value-in-None
expressions::operand-returns-in_err-value-in-None t c =
    let e = c.from_residual-in_err-value-in-None.ensures.0 in
    record {
      has = fails _ _ e;
      is = fails _ _ e;
      lowered = fails _ _ e;
      spends = fails _ _ e;
    }

pub conditions::joined_around-returns-in_err-condition : goal.conditions::joined_around-returns-in_err-condition
conditions::joined_around-returns-in_err-condition t c =
    let e = c.from_residual.ensures.0 in record { is = fails _ _ e; lowered = fails _ _ e; spends = fails _ _ e }

pub conditions::joined_around-returns-in_err-condition-2 : goal.conditions::joined_around-returns-in_err-condition-2
conditions::joined_around-returns-in_err-condition-2 t c =
    let e = c.from_residual-in_err-condition-2.ensures.0 in
    record {
      is = fails _ _ e;
      lowered = fails _ _ e;
      spends = fails _ _ e;
    }

pub expressions::held-returns-in_err-temp : goal.expressions::held-returns-in_err-temp
expressions::held-returns-in_err-temp t c =
    let e = c.from_residual.ensures.0 in
    record {
      holds = fails _ _ e;
      is = fails _ _ e;
      kind = fails _ _ e;
      lowered = fails _ _ e;
      spends = fails _ _ e;
    }

pub expressions::pointer_second-returns-in_err-i-in-None : goal.expressions::pointer_second-returns-in_err-i-in-None
expressions::pointer_second-returns-in_err-i-in-None t c =
    let e = c.from_residual.ensures.0 in record { is = fails _ _ e; lowered = fails _ _ e; spends = fails _ _ e }

pub calls::library-returns-in_err-temps : goal.calls::library-returns-in_err-temps
calls::library-returns-in_err-temps t c =
    let e = c.from_residual.ensures.0 in record { is = fails _ _ e; lowered = fails _ _ e; spends = fails _ _ e }

pub expressions::operand_in-returns-in_err-value-in-None : goal.expressions::operand_in-returns-in_err-value-in-None
expressions::operand_in-returns-in_err-value-in-None t c =
    let e = c.from_residual.ensures.0 in
    record {
      holds = fails _ _ e;
      is = fails _ _ e;
      kind = fails _ _ e;
      lowered = fails _ _ e;
      spends = fails _ _ e;
    }

pub expressions::guarded_effect-returns-in_err-condition : goal.expressions::guarded_effect-returns-in_err-condition
expressions::guarded_effect-returns-in_err-condition t c =
    let e = c.from_residual.ensures.0 in record { is = fails _ _ e; lowered = fails _ _ e; spends = fails _ _ e }

pub expressions::guarded_effect-returns-in_err-effect : goal.expressions::guarded_effect-returns-in_err-effect
expressions::guarded_effect-returns-in_err-effect t c =
    let e = c.from_residual-in_err-effect.ensures.0 in
    record {
      is = fails _ _ e;
      lowered = fails _ _ e;
      spends = fails _ _ e;
    }

pub expressions::read_effect-returns-in_err-t-in-None-variable :
    goal.expressions::read_effect-returns-in_err-t-in-None-variable
expressions::read_effect-returns-in_err-t-in-None-variable t c =
    let e = c.from_residual.ensures.0 in
    record {
      is = fails _ _ e;
      lowered = fails _ _ e;
      places = fails _ _ e;
      spends = fails _ _ e;
    }

pub expressions::integer-returns-in_err-x : goal.expressions::integer-returns-in_err-x
expressions::integer-returns-in_err-x t c =
    let e = c.from_residual.ensures.0 in record { is = fails _ _ e; lowered = fails _ _ e; spends = fails _ _ e }

pub conditions::joined_condition-returns-in_err-condition : goal.conditions::joined_condition-returns-in_err-condition
conditions::joined_condition-returns-in_err-condition t c =
    let e = c.from_residual.ensures.0 in record { is = fails _ _ e; lowered = fails _ _ e; spends = fails _ _ e }

pub places::place_behind-returns-in_err-effect : goal.places::place_behind-returns-in_err-effect
places::place_behind-returns-in_err-effect t c =
    let e = c.from_residual.ensures.0 in record { is = fails _ _ e; lowered = fails _ _ e; spends = fails _ _ e }
