use Rattle.std.proofs.Common.{◌+◌, ◌*◌, [], ◌∷◌, ◌++◌, length, take, drop, refl, sym, ap, ◌∙◌, subst, arith, rules}
use Rattle.c_tree.specs.WellTyped.{AreVars, type_in}
use Rattle.tac_lower.specs.Copied.{part_copies, all_part_copies}
use Rattle.tac_lower.specs.Nodes.{weight_in, expression, or_int}
use Rattle.tac_lower.specs.Parts.{statement, heft_in, hefts_in, is_entered, entered, entered_in, all_entered_in}
use Rattle.tac_lower.specs.Parts.{declared_by, or_none}
use Rattle.tac_lower.specs.Scenes.{Opened, frame_of, given_in}
use Rattle.tac_lower.specs.Statements.{AreParts, labels_in}
use Rattle.tac_lower.specs.Zeroed.{is_zeroed, zeroed, all_zeroed_in}
use Rattle.tac_lower.proofs.Below.{below, block_body, if_first, if_second, while_body, do_body, for_first, for_body}
use Rattle.tac_lower.proofs.Below.{switch_body}
use Rattle.tac_lower.proofs.Loops.{begun, begun_stands, stands_still, stands_behind, behind_second, tail_turned}
use Rattle.tac_lower.proofs.Loops.{tail_behind}
use Rattle.tac_lower.proofs.Placings.{typed_some, typed_none, evaluates, initialises, blocks, chooses, whiles, does}
use Rattle.tac_lower.proofs.Placings.{fors, switches, returns_value, are_parts, part_at, exits_lowered, exits_opened}
use Rattle.tac_lower.proofs.Placings.{exit_opened, at_most_ok, hefts_next, hefts_within, hefts_taken}
use Rattle.tac_lower.proofs.Placings.{copies_next, copies_taken}
use Rattle.tac_lower.proofs.Entering.{all_entered_next, all_entered_taken, hefty}
use Rattle.tac_lower.proofs.Zeroing.{all_zeroed_next, all_zeroed_taken}
use Rattle.tac_lower.proofs.Scening.{opened_none}
use Rattle.tac_lower.proofs.Spending.{nothing, of_code, of_entry, of_expression, parts_after, parts_within, parts_last}
use Rattle.tac_lower.proofs.Spending.{parts_last_of, parts_last_and, parts_last_pushed, begun_spent}
use Rattle.tac_emit.proofs.Spending.{forked_spent, labelled_spent}
use Rattle.tac_lower.proofs.Steps.{heavy, start, both, at_most, still, as_kind, room, less_room, tail, tail_grew}
use Rattle.tac_lower.proofs.Steps.{tail_stands, fork, label, opened, turned, first_open, second_open, opened_has}
use Rattle.tac_lower.proofs.Steps.{opened_room}
use Rattle.tac_lower.proofs.Switching.{opened_beside, opened_at_most, opened_label, open_last, none_behind}
use Rattle.std.proofs.lemmas.Result.{IfOk-weaker, IfOk-from_err as fails}
use Rattle.std.proofs.lemmas.List.{length-take-le, take_more, take_all}
use Rattle.c_tree.specs.declared.typed.StmtKind.TheVariants as stmts
use Rattle.tac_lower.specs.Stating.{exits_as, routine}
use Rattle.tac_lower.proofs.Stated.{states_choice, states_guarded, states_loop, states_repeated, states_none}
use Rattle.tac_lower.proofs.Stated.{states_evaluated, states_block, states_nothing, states_break, states_continue}
use Rattle.tac_lower.proofs.Stated.{states_while, states_counted, states_seq, states_same, states_end, test_scalar}
use Rattle.tac_lower.proofs.Stated.{test_scalar_if_any, integer_scalar, fewer_statements}
use Rattle.tac_lower.proofs.Beginning.{states_init}
use Rattle.tac_lower.proofs.Switched.{switch_begun, switch_more, switch_same, states_switch}
use Rattle.tac_lower.proofs.statements.+statements.Goals as goal

-- ---- calls among statements

pub loop_body-statement-requires : goal.loop_body-statement-requires
loop_body-statement-requires t c = (
  omega arith,
  (
    c.requires.ordered,
    (
      c.requires.scene,
      (
        c.requires.fits,
        (c.requires.part, (record { break_to = c.requires.end; continue_to = c.requires.next }, c.requires.room)),
      ),
    ),
  ),
)

pub tested_loop-loop_body-requires : goal.tested_loop-loop_body-requires
tested_loop-loop_body-requires t c =
    let o = opened (begun c.requires.scene c.in_ok-circle.ensures.begun) c.in_ok-test_loop.ensures.lowered in (
      omega arith,
      (
        c.requires.ordered,
        (
          o.scene,
          (
            c.requires.fits,
            (c.requires.part, (second_open o, (first_open o, opened_room c.requires.room o (omega arith)))),
          ),
        ),
      ),
    )

pub repeated_loop-loop_body-requires : goal.repeated_loop-loop_body-requires
repeated_loop-loop_body-requires t c =
    let o = begun c.requires.scene c.in_ok-circle.ensures.begun in (
      omega arith,
      (
        c.requires.ordered,
        (
          o.scene,
          (
            c.requires.fits,
            (c.requires.part, (second_open o, (first_open o, opened_room c.requires.room o (omega arith)))),
          ),
        ),
      ),
    )

pub choice-statement-requires : goal.choice-statement-requires
choice-statement-requires t c =
    let o = opened (fork c.requires.scene c.fork-fork.ensures.forked) c.in_ok-condition.ensures.lowered in (
      omega arith,
      (
        c.requires.ordered,
        (
          o.scene,
          (
            c.requires.fits,
            (c.requires.first, (exits_opened c.requires.exits o, opened_room c.requires.room o (omega arith))),
          ),
        ),
      ),
    )

pub choice-statement-requires-2 : goal.choice-statement-requires-2
choice-statement-requires-2 t c =
    let one = opened (opened (fork c.requires.scene c.fork-fork.ensures.forked) c.in_ok-condition.ensures.lowered)
    c.in_ok-statement.ensures.lowered in
    let o = turned one c.in_ok-turn_fork.ensures.turned c.in_ok-turn_fork.ensures.adds in (
      omega arith,
      (
        c.requires.ordered,
        (
          o.scene,
          (
            c.requires.fits,
            (c.requires.second, (exits_opened c.requires.exits o, opened_room c.requires.room o (omega arith))),
          ),
        ),
      ),
    )

pub guarded-statement-requires : goal.guarded-statement-requires
guarded-statement-requires t c =
    let o = opened (label c.requires.scene c.label-label.ensures.labelled) c.in_ok-condition.ensures.lowered in (
      omega arith,
      (
        c.requires.ordered,
        (
          o.scene,
          (
            c.requires.fits,
            (c.requires.first, (exits_opened c.requires.exits o, opened_room c.requires.room o (omega arith))),
          ),
        ),
      ),
    )

pub statements-statement-requires : goal.statements-statement-requires
statements-statement-requires t c =
    let i = c.loop-s.s-index in
    let lt = below c.args.k c.args.body.now i 0 c.requires.before (omega arith) in
    let next = hefts_within c.args.cx.p.now c.args.body.now i (omega arith) in
    let so_far = c.loop-s.invariant.lowered in
    let part = part_at (frame_of c.args.cx.p.now c.args.cx.d.now) c.args.body.now i c.requires.parts (omega arith) in (
      omega arith,
      (
        c.requires.ordered,
        (
          so_far.scene,
          (
            c.requires.fits,
            (part, (exits_lowered c.requires.exits so_far, room c.requires.room so_far (omega (arith, next)))),
          ),
        ),
      ),
    )

pub block-statements-requires : goal.block-statements-requires
block-statements-requires t c =
    let so_far = c.in_ok-enter.ensures.lowered in (
      omega arith,
      (
        c.requires.ordered,
        (
          c.requires.before,
          (
            so_far.scene,
            (
              c.requires.fits,
              (c.requires.parts, (exits_lowered c.requires.exits so_far, room c.requires.room so_far (omega arith))),
            ),
          ),
        ),
      ),
    )

-- ---- loops

pub loop_body-returns : goal.loop_body-returns
loop_body-returns t c =
    record {
      behind = tail_behind _ _ c.stand.result c.in_ok-statement.ensures.lowered c.stand.ensures.stands;
      spends = parts_last_and _ _ _ _ c.stand.result c.in_ok-statement.ensures.spends c.stand.ensures.spent (omega
          arith)
          (omega arith)
          (omega arith) (λ w. omega arith);
      is = IfOk-weaker c.stand.result _ _
          (λ q h. record { middle = c.statement.new.out; body = c.in_ok-statement.ensures.is; stands = h })
          c.stand.ensures.stands;
    }

pub tested_loop-test_loop-requires-clause-scene : goal.tested_loop-test_loop-requires-clause-scene
tested_loop-test_loop-requires-clause-scene t c = (begun c.requires.scene c.in_ok-circle.ensures.begun).scene

pub tested_loop-test_loop-requires-clause-end : goal.tested_loop-test_loop-requires-clause-end
tested_loop-test_loop-requires-clause-end t c = first_open (begun c.requires.scene c.in_ok-circle.ensures.begun)

pub tested_loop-test_loop-requires-clause-room : goal.tested_loop-test_loop-requires-clause-room
tested_loop-test_loop-requires-clause-room t c =
    opened_room c.requires.room (begun c.requires.scene c.in_ok-circle.ensures.begun) (omega arith)

pub tested_loop-step_loop-requires-clause-scene : goal.tested_loop-step_loop-requires-clause-scene
tested_loop-step_loop-requires-clause-scene t c =
    (behind_second (opened (begun c.requires.scene c.in_ok-circle.ensures.begun) c.in_ok-test_loop.ensures.lowered)
    c.in_ok-loop_body.ensures.behind).scene

pub tested_loop-step_loop-requires-clause-room : goal.tested_loop-step_loop-requires-clause-room
tested_loop-step_loop-requires-clause-room t c =
    opened_room c.requires.room
    (behind_second (opened (begun c.requires.scene c.in_ok-circle.ensures.begun) c.in_ok-test_loop.ensures.lowered)
    c.in_ok-loop_body.ensures.behind) (omega arith)

pub tested_loop-end_loop-requires : goal.tested_loop-end_loop-requires
tested_loop-end_loop-requires t c = record {
  top =
      stands_still
      (stands_behind (stands_still (begun_stands c.in_ok-circle.ensures.begun) c.in_ok-test_loop.ensures.lowered)
      c.in_ok-loop_body.ensures.behind)
      c.in_ok-step_loop.ensures.lowered;
}

pub tested_loop-returns : goal.tested_loop-returns
tested_loop-returns t c =
    record {
      lowered = (let one = opened (begun c.requires.scene c.in_ok-circle.ensures.begun)
          c.in_ok-test_loop.ensures.lowered in
          let two = opened (behind_second one c.in_ok-loop_body.ensures.behind) c.in_ok-step_loop.ensures.lowered in
          tail_turned _ c.end_loop.result two c.end_loop.ensures.turned c.end_loop.ensures.adds
          (omega arith));
      spends = parts_last_and _ _ _ _ c.end_loop.result
          (parts_after (parts_after (parts_after (of_code (begun_spent c.in_ok-circle.ensures.begun))
          (of_expression c.in_ok-test_loop.ensures.spends))
          c.in_ok-loop_body.ensures.spends)
          (of_expression c.in_ok-step_loop.ensures.spends)) c.end_loop.ensures.spent (omega arith) (omega arith)
          (omega arith)
          (λ w. omega arith);
      is = IfOk-weaker c.end_loop.result _ _
          (λ q h. states_loop _ c.requires.ordered c.requires.scene.ready.ordered c.in_ok-circle.ensures.begun
          c.in_ok-test_loop.ensures.is c.in_ok-loop_body.ensures.is c.in_ok-step_loop.ensures.is h)
          c.end_loop.ensures.emits;
    }

pub repeated_loop-condition-requires-clause-scene : goal.repeated_loop-condition-requires-clause-scene
repeated_loop-condition-requires-clause-scene t c =
    (behind_second (begun c.requires.scene c.in_ok-circle.ensures.begun) c.in_ok-loop_body.ensures.behind).scene

pub repeated_loop-condition-requires-clause-open : goal.repeated_loop-condition-requires-clause-open
repeated_loop-condition-requires-clause-open t c =
    first_open (behind_second (begun c.requires.scene c.in_ok-circle.ensures.begun) c.in_ok-loop_body.ensures.behind)

pub repeated_loop-condition-requires-clause-room : goal.repeated_loop-condition-requires-clause-room
repeated_loop-condition-requires-clause-room t c =
    opened_room c.requires.room
    (behind_second (begun c.requires.scene c.in_ok-circle.ensures.begun) c.in_ok-loop_body.ensures.behind)
    (omega arith)

pub repeated_loop-end_loop-requires : goal.repeated_loop-end_loop-requires
repeated_loop-end_loop-requires t c =
    record {
      top =
          stands_still (stands_behind (begun_stands c.in_ok-circle.ensures.begun) c.in_ok-loop_body.ensures.behind)
          c.in_ok-condition.ensures.lowered;
    }

pub repeated_loop-returns : goal.repeated_loop-returns
repeated_loop-returns t c =
    record {
      lowered = (let one = behind_second (begun c.requires.scene c.in_ok-circle.ensures.begun)
          c.in_ok-loop_body.ensures.behind in
          tail_turned _ c.end_loop.result (opened one c.in_ok-condition.ensures.lowered)
          c.end_loop.ensures.turned c.end_loop.ensures.adds (omega arith));
      spends = parts_last_and _ _ _ _ c.end_loop.result
          (parts_after (parts_after (of_code (begun_spent c.in_ok-circle.ensures.begun))
          c.in_ok-loop_body.ensures.spends)
          (of_expression c.in_ok-condition.ensures.spends))
          c.end_loop.ensures.spent (omega arith) (omega arith) (omega arith) (λ w. omega arith);
      is = IfOk-weaker c.end_loop.result _ _
          (λ q h k x n scalar. states_repeated _ c.requires.ordered c.requires.scene.ready.ordered n scalar
          c.in_ok-circle.ensures.begun c.in_ok-loop_body.ensures.is c.in_ok-condition.ensures.is h)
          c.end_loop.ensures.emits;
    }

-- ---- choices

pub choice-condition-requires-clause-scene : goal.choice-condition-requires-clause-scene
choice-condition-requires-clause-scene t c = (fork c.requires.scene c.fork-fork.ensures.forked).scene

pub choice-condition-requires-clause-open : goal.choice-condition-requires-clause-open
choice-condition-requires-clause-open t c = second_open (fork c.requires.scene c.fork-fork.ensures.forked)

pub choice-condition-requires-clause-room : goal.choice-condition-requires-clause-room
choice-condition-requires-clause-room t c =
    opened_room c.requires.room (fork c.requires.scene c.fork-fork.ensures.forked) (omega arith)

pub choice-turn_fork-requires : goal.choice-turn_fork-requires
choice-turn_fork-requires t c =
    record {
      end =
          first_open (opened
          (opened (fork c.requires.scene c.fork-fork.ensures.forked) c.in_ok-condition.ensures.lowered)
          c.in_ok-statement.ensures.lowered);
    }

pub choice-returns : goal.choice-returns
choice-returns t c =
    record {
      lowered = (let one = opened (opened (fork c.requires.scene c.fork-fork.ensures.forked)
          c.in_ok-condition.ensures.lowered)
          c.in_ok-statement.ensures.lowered in
          let two = opened (turned one c.in_ok-turn_fork.ensures.turned c.in_ok-turn_fork.ensures.adds)
          c.in_ok-statement-2.ensures.lowered in
          tail_stands _ c.join_fork.result two c.join_fork.ensures.stands (omega arith));
      spends = parts_last_pushed _ _ c.join_fork.result
          (parts_after (parts_after (parts_after (parts_after (of_code (forked_spent c.fork-fork.ensures.forked))
          (of_expression c.in_ok-condition.ensures.spends)) c.in_ok-statement.ensures.spends)
          (of_code c.in_ok-turn_fork.ensures.spent)) c.in_ok-statement-2.ensures.spends) c.join_fork.ensures.stands
          (omega arith)
          (omega arith) (omega arith) (λ w. omega arith) refl refl;
      is = IfOk-weaker c.join_fork.result _ _
          (λ q h n scalar. states_choice _ c.requires.ordered c.requires.scene.ready.ordered n scalar
          c.fork-fork.ensures.forked c.in_ok-condition.ensures.is c.in_ok-statement.ensures.is
          c.in_ok-turn_fork.ensures.emits c.in_ok-statement-2.ensures.is h) c.join_fork.ensures.stands;
    }

pub guarded-condition-requires-clause-scene : goal.guarded-condition-requires-clause-scene
guarded-condition-requires-clause-scene t c = (label c.requires.scene c.label-label.ensures.labelled).scene

pub guarded-condition-requires-clause-open : goal.guarded-condition-requires-clause-open
guarded-condition-requires-clause-open t c = first_open (label c.requires.scene c.label-label.ensures.labelled)

pub guarded-condition-requires-clause-room : goal.guarded-condition-requires-clause-room
guarded-condition-requires-clause-room t c =
    opened_room c.requires.room (label c.requires.scene c.label-label.ensures.labelled) (omega arith)

pub guarded-returns : goal.guarded-returns
guarded-returns t c =
    record {
      lowered = (let one = opened
          (opened (label c.requires.scene c.label-label.ensures.labelled) c.in_ok-condition.ensures.lowered)
          c.in_ok-statement.ensures.lowered in
          tail_stands _ c.stand.result one c.stand.ensures.stands (omega arith));
      spends = parts_last_and _ _ _ _ c.stand.result
          (parts_after (parts_after (of_code (labelled_spent c.label-label.ensures.labelled))
          (of_expression c.in_ok-condition.ensures.spends))
          c.in_ok-statement.ensures.spends)
          c.stand.ensures.spent (omega arith) (omega arith) (omega arith) (λ w. omega arith);
      is = IfOk-weaker c.stand.result _ _
          (λ q h k n scalar. states_guarded _ c.requires.ordered c.requires.scene.ready.ordered n scalar
          c.label-label.ensures.labelled c.in_ok-condition.ensures.is c.in_ok-statement.ensures.is h)
          c.stand.ensures.stands;
    }

-- ---- lists of statements

pub statements-loop-s-init : goal.statements-loop-s-init
statements-loop-s-init t c =
    record {
      lowered = at_most (start c.requires.scene) (omega arith);
      spends = parts_within (of_expression nothing) (omega arith) (omega arith) (omega arith) (λ w. omega arith);
      is = states_end (routine c.args.cx) c.requires.ordered c.requires.scene.ready.ordered _ _;
    }

pub statements-loop-s-preserved : goal.statements-loop-s-preserved
statements-loop-s-preserved t c =
    let next = hefts_next c.args.cx.p.now c.args.body.now c.loop-s.s-index (omega arith) in
    let copied = copies_next c.args.cx.p.now c.args.body.now c.loop-s.s-index (omega arith) in
    let enters = all_entered_next c.args.cx.p.now c.args.cx.d.now c.args.body.now c.loop-s.s-index (omega arith) in
    record {
      lowered = at_most (both c.loop-s.invariant.lowered c.in_ok-statement.ensures.lowered) (omega (arith, next));
      spends = parts_within (parts_after c.loop-s.invariant.spends c.in_ok-statement.ensures.spends)
          (omega (arith, next))
          (omega (arith, next, enters)) (omega (arith, copied))
          (λ w. omega (
            arith,
            all_zeroed_next c.args.cx.p.now c.args.cx.d.now c.args.cx.homes.now c.args.body.now
                c.loop-s.s-index w (omega arith),
          ));
      is = states_seq _ c.requires.ordered c.requires.scene.ready.ordered _ _
          (take_more c.args.body.now c.loop-s.s-index 0 (omega arith)) c.loop-s.invariant.is
          c.in_ok-statement.ensures.is;
    }

pub statements-returns : goal.statements-returns
statements-returns t c =
    record {
      lowered = (let all = hefts_taken c.args.cx.p.now c.args.body.now c.loop-s.s-index in
          at_most c.loop-s.invariant.lowered (omega (arith, all)));
      spends = (let all = hefts_taken c.args.cx.p.now c.args.body.now c.loop-s.s-index in
          let copied = copies_taken c.args.cx.p.now c.args.body.now c.loop-s.s-index in
          let entered = all_entered_taken c.args.cx.p.now c.args.cx.d.now c.args.body.now c.loop-s.s-index in
          parts_within c.loop-s.invariant.spends (omega (arith, all)) (omega (arith, all, entered)) (omega (
            arith,
            copied,
          ))
          (λ w. omega (
            arith,
            all_zeroed_taken c.args.cx.p.now c.args.cx.d.now c.args.cx.homes.now c.args.body.now
                c.loop-s.s-index w,
          )));
      is = states_same (routine c.args.cx) c.requires.ordered c.requires.scene.ready.ordered (exits_as c.args.exits)
          (take_all c.loop-s.s-index c.args.body.now (omega arith)) c.loop-s.invariant.is;
    }

pub block-returns : goal.block-returns
block-returns t c =
    record {
      lowered = tail _ _ c.statements.result c.in_ok-enter.ensures.lowered c.statements.ensures.lowered
          (omega arith);
      spends = parts_last _ _ _ _ _ c.statements.result (of_entry c.in_ok-enter.ensures.spent)
          c.statements.ensures.spends
          (omega arith)
          (omega arith) (omega arith) (λ w. omega arith);
      is = IfOk-weaker c.statements.result _ _
          (λ q h. record { entry = c.enter.new.out; entered = c.in_ok-enter.ensures.is; body = h })
          c.statements.ensures.is;
    }

-- ---- a statement by its kind

pub statement-effect-requires-clause-typed : goal.statement-effect-requires-clause-typed
statement-effect-requires-clause-typed t c =
    (evaluates (frame_of c.args.cx.p.now c.args.cx.d.now) c.args.k c.in-Some.s.now c.requires.scene.ready.ordered
    c.in-Some.ensures c.requires.part c.in-Expr.is).value

pub statement-effect-requires-clause-room : goal.statement-effect-requires-clause-room
statement-effect-requires-clause-room t c =
    let w = (evaluates (frame_of c.args.cx.p.now c.args.cx.d.now) c.args.k c.in-Some.s.now
    c.requires.scene.ready.ordered c.in-Some.ensures c.requires.part c.in-Expr.is).weight in
    less_room c.requires.room (omega arith)

pub statement-returns-in-Expr : goal.statement-returns-in-Expr
statement-returns-in-Expr t c =
    record {
      lowered = (let w = (evaluates (frame_of c.args.cx.p.now c.args.cx.d.now) c.args.k c.in-Some.s.now
          c.requires.scene.ready.ordered c.in-Some.ensures c.requires.part c.in-Expr.is).weight in
          at_most_ok _ _ _ _ _ _ _ _ c.effect.result c.effect.ensures.lowered (omega arith));
      spends = (let h = evaluates (frame_of c.args.cx.p.now c.args.cx.d.now) c.args.k c.in-Some.s.now
          c.requires.scene.ready.ordered c.in-Some.ensures c.requires.part c.in-Expr.is in
          let w = h.weight in
          let few = h.copies in
          let one = heavy (expression c.args.cx.p.now c.in-Expr.a) in
          parts_last_of _ _ _ _ c.effect.result (of_expression nothing) c.effect.ensures.spends (omega arith) (omega
          arith)
          (omega arith) (λ w. omega arith));
      is = IfOk-weaker c.effect.result _ _
          (λ q h. states_evaluated _ c.requires.ordered c.requires.scene.ready.ordered
          (record { node = _; there = c.in-Some.ensures; is = c.in-Expr.is }) h) c.effect.ensures.is;
    }

pub statement-initialise-requires-clause-typed : goal.statement-initialise-requires-clause-typed
statement-initialise-requires-clause-typed t c =
    (initialises (frame_of c.args.cx.p.now c.args.cx.d.now) c.args.k c.in-Some.s.now c.requires.scene.ready.ordered
    c.in-Some.ensures c.requires.part c.in-Init.is).value

pub statement-initialise-requires-clause-lies : goal.statement-initialise-requires-clause-lies
statement-initialise-requires-clause-lies t c =
    (initialises (frame_of c.args.cx.p.now c.args.cx.d.now) c.args.k c.in-Some.s.now c.requires.scene.ready.ordered
    c.in-Some.ensures c.requires.part c.in-Init.is).lies

pub statement-initialise-requires-clause-room : goal.statement-initialise-requires-clause-room
statement-initialise-requires-clause-room t c =
    let w = (initialises (frame_of c.args.cx.p.now c.args.cx.d.now) c.args.k c.in-Some.s.now
    c.requires.scene.ready.ordered c.in-Some.ensures c.requires.part c.in-Init.is).weight in
    less_room c.requires.room (omega arith)

pub statement-returns-in-Init : goal.statement-returns-in-Init
statement-returns-in-Init t c =
    record {
      lowered = (let w = (initialises (frame_of c.args.cx.p.now c.args.cx.d.now) c.args.k c.in-Some.s.now
          c.requires.scene.ready.ordered c.in-Some.ensures c.requires.part c.in-Init.is).weight in
          at_most_ok _ _ _ _ _ _ _ _ c.initialise.result c.initialise.ensures.lowered (omega arith));
      spends = (let h = initialises (frame_of c.args.cx.p.now c.args.cx.d.now) c.args.k c.in-Some.s.now
          c.requires.scene.ready.ordered c.in-Some.ensures c.requires.part c.in-Init.is in
          let w = h.weight in
          let few = h.copies in
          parts_last_of _ _ _ _ c.initialise.result (of_expression nothing) c.initialise.ensures.spends (omega arith)
          (omega arith) (omega arith) (λ w. omega arith));
      is = (let p = c.args.cx.p.now in
          let part = initialises (frame_of p c.args.cx.d.now) c.args.k c.in-Some.s.now c.requires.scene.ready.ordered
          c.in-Some.ensures c.requires.part c.in-Init.is in
          IfOk-weaker c.initialise.result _ _
          (λ q h. states_init (routine c.args.cx) c.requires.ordered c.requires.scene.ready.ordered
          (record { node = _; there = c.in-Some.ensures; is = c.in-Init.is }) (given_in (type_in p c.args.cx.d.now.of))
          part.value (h c.requires.fits)) c.initialise.ensures.is);
    }

pub statement-leave-requires-clause-part : goal.statement-leave-requires-clause-part
statement-leave-requires-clause-part t c =
    returns_value (frame_of c.args.cx.p.now c.args.cx.d.now) c.args.k c.in-Some.s.now c.requires.scene.ready.ordered
    c.in-Some.ensures c.requires.part c.in-Return.is

pub statement-choice-requires : goal.statement-choice-requires
statement-choice-requires t c =
    let h = chooses (frame_of c.args.cx.p.now c.args.cx.d.now) c.args.k c.in-Some.s.now
    c.requires.scene.ready.ordered c.in-Some.ensures c.requires.part c.in-If.is in
    let w = h.weight in
    let n = ap (or_none (heft_in c.args.cx.p.now)) c.in-Some-b.is in
    let a_before = if_first c.args.cx.p.now c.args.k c.in-Some.s.now c.in-If.c c.in-If.a c.in-If.b
    c.requires.ordered c.in-Some.ensures c.in-If.is in
    let b_before = if_second c.args.cx.p.now c.args.k c.in-Some.s.now c.in-If.c c.in-If.a c.in-If.b c.in-Some-b.b
    c.requires.ordered c.in-Some.ensures c.in-If.is c.in-Some-b.is in (
      omega arith,
      (
        c.requires.ordered,
        (
          a_before,
          (
            b_before,
            (
              c.requires.scene,
              (
                c.requires.fits,
                (
                  h.test.typed,
                  (
                    record { inside = c.requires.part.inside; placed = h.first },
                    (
                      record { inside = c.requires.part.inside; placed = h.second c.in-Some-b.b c.in-Some-b.is },
                      (c.requires.exits, less_room c.requires.room (omega arith)),
                    ),
                  ),
                ),
              ),
            ),
          ),
        ),
      ),
    )

pub statement-guarded-requires : goal.statement-guarded-requires
statement-guarded-requires t c =
    let h = chooses (frame_of c.args.cx.p.now c.args.cx.d.now) c.args.k c.in-Some.s.now
    c.requires.scene.ready.ordered c.in-Some.ensures c.requires.part c.in-If.is in
    let w = h.weight in
    let a_before = if_first c.args.cx.p.now c.args.k c.in-Some.s.now c.in-If.c c.in-If.a c.in-If.b
    c.requires.ordered c.in-Some.ensures c.in-If.is in (
      omega arith,
      (
        c.requires.ordered,
        (
          c.requires.scene,
          (
            c.requires.fits,
            (
              h.test.typed,
              (
                record { inside = c.requires.part.inside; placed = h.first },
                (c.requires.exits, less_room c.requires.room (omega arith)),
              ),
            ),
          ),
        ),
      ),
    )

pub statement-returns-in-Some-b : goal.statement-returns-in-Some-b
statement-returns-in-Some-b t c =
    record {
      lowered = (let w = (chooses (frame_of c.args.cx.p.now c.args.cx.d.now) c.args.k c.in-Some.s.now
          c.requires.scene.ready.ordered c.in-Some.ensures c.requires.part c.in-If.is).weight in
          let n = ap (or_none (heft_in c.args.cx.p.now)) c.in-Some-b.is in
          at_most_ok _ _ _ _ _ _ _ _ c.choice.result c.choice.ensures.lowered (omega arith));
      spends = (let h = chooses (frame_of c.args.cx.p.now c.args.cx.d.now) c.args.k c.in-Some.s.now
          c.requires.scene.ready.ordered c.in-Some.ensures c.requires.part c.in-If.is in
          let w = h.weight in
          let few = h.copies in
          let enters = h.enters (is_entered (length c.args.cx.d.now.params) (length c.args.cx.d.now.vars)) in
          let n = ap (or_none (heft_in c.args.cx.p.now)) c.in-Some-b.is in
          let copied = ap (or_none (part_copies c.args.cx.p.now)) c.in-Some-b.is in
          let m = ap (or_none (entered_in c.args.cx.p.now c.args.cx.d.now)) c.in-Some-b.is in
          parts_last _ _ _ _ _ c.choice.result (of_expression nothing) c.choice.ensures.spends (omega arith) (omega
          arith)
          (omega arith)
          (λ w. omega (
            arith,
            h.enters (is_zeroed (length c.args.cx.d.now.params) c.args.cx.homes.now w),
            ap (or_none (declared_by c.args.cx.p.now (is_zeroed (length c.args.cx.d.now.params) c.args.cx.homes.now
                w)))
                c.in-Some-b.is,
          )));
      is = IfOk-weaker c.choice.result _ _
          (λ q h. h (record {
            node = _;
            there = c.in-Some.ensures;
            is = c.in-If.is
                ∙ ap (stmts.If c.in-If.c c.in-If.a) c.in-Some-b.is;
          })
          (test_scalar (chooses (frame_of c.args.cx.p.now c.args.cx.d.now) c.args.k c.in-Some.s.now
          c.requires.scene.ready.ordered c.in-Some.ensures c.requires.part c.in-If.is).test)) c.choice.ensures.is;
    }

pub statement-returns-in-None : goal.statement-returns-in-None
statement-returns-in-None t c =
    record {
      lowered = (let w = (chooses (frame_of c.args.cx.p.now c.args.cx.d.now) c.args.k c.in-Some.s.now
          c.requires.scene.ready.ordered c.in-Some.ensures c.requires.part c.in-If.is).weight in
          at_most_ok _ _ _ _ _ _ _ _ c.guarded.result c.guarded.ensures.lowered (omega arith));
      spends = (let h = chooses (frame_of c.args.cx.p.now c.args.cx.d.now) c.args.k c.in-Some.s.now
          c.requires.scene.ready.ordered c.in-Some.ensures c.requires.part c.in-If.is in
          let w = h.weight in
          let few = h.copies in
          let enters = h.enters (is_entered (length c.args.cx.d.now.params) (length c.args.cx.d.now.vars)) in
          parts_last _ _ _ _ _ c.guarded.result (of_expression nothing) c.guarded.ensures.spends (omega arith) (omega
          arith)
          (omega arith)
          (λ w. omega (arith, h.enters (is_zeroed (length c.args.cx.d.now.params) c.args.cx.homes.now w))));
      is = IfOk-weaker c.guarded.result _ _
          (λ q h. h c.args.k (record {
            node = _;
            there = c.in-Some.ensures;
            is = c.in-If.is
                ∙ ap (stmts.If c.in-If.c c.in-If.a) c.in-None.is;
          })
          (test_scalar (chooses (frame_of c.args.cx.p.now c.args.cx.d.now) c.args.k c.in-Some.s.now
          c.requires.scene.ready.ordered c.in-Some.ensures c.requires.part c.in-If.is).test)) c.guarded.ensures.is;
    }

pub statement-repeated_loop-requires : goal.statement-repeated_loop-requires
statement-repeated_loop-requires t c =
    let h = does (frame_of c.args.cx.p.now c.args.cx.d.now) c.args.k c.in-Some.s.now c.requires.scene.ready.ordered
    c.in-Some.ensures c.requires.part c.in-Do.is in
    let w = h.weight in
    let before = do_body c.args.cx.p.now c.args.k c.in-Some.s.now c.in-Do.a c.in-Do.c c.requires.ordered
    c.in-Some.ensures c.in-Do.is in (
      omega arith,
      (
        c.requires.ordered,
        (
          c.requires.scene,
          (
            c.requires.fits,
            (h.test.typed, (record { inside = _; placed = h.body_fits }, less_room c.requires.room (omega arith))),
          ),
        ),
      ),
    )

pub statement-returns-in-Do : goal.statement-returns-in-Do
statement-returns-in-Do t c =
    record {
      lowered = (let w = (does (frame_of c.args.cx.p.now c.args.cx.d.now) c.args.k c.in-Some.s.now
          c.requires.scene.ready.ordered
          c.in-Some.ensures c.requires.part c.in-Do.is).weight in
          at_most_ok _ _ _ _ _ _ _ _ c.repeated_loop.result c.repeated_loop.ensures.lowered (omega arith));
      spends = (let h = does (frame_of c.args.cx.p.now c.args.cx.d.now) c.args.k c.in-Some.s.now
          c.requires.scene.ready.ordered c.in-Some.ensures c.requires.part c.in-Do.is in
          let w = h.weight in
          let few = h.copies in
          let enters = h.enters (is_entered (length c.args.cx.d.now.params) (length c.args.cx.d.now.vars)) in
          parts_last _ _ _ _ _ c.repeated_loop.result (of_expression nothing) c.repeated_loop.ensures.spends (omega
          arith)
          (omega arith) (omega arith)
          (λ w. omega (arith, h.enters (is_zeroed (length c.args.cx.d.now.params) c.args.cx.homes.now w))));
      is = IfOk-weaker c.repeated_loop.result _ _
          (λ q h. h c.args.k (exits_as c.args.exits) (record { node = _; there = c.in-Some.ensures; is = c.in-Do.is })
          (test_scalar (does (frame_of c.args.cx.p.now c.args.cx.d.now) c.args.k c.in-Some.s.now
          c.requires.scene.ready.ordered c.in-Some.ensures c.requires.part c.in-Do.is).test))
          c.repeated_loop.ensures.is;
    }

pub statement-returns-in-While : goal.statement-returns-in-While
statement-returns-in-While t c =
    record {
      lowered = (let w = (whiles (frame_of c.args.cx.p.now c.args.cx.d.now) c.args.k c.in-Some.s.now
          c.requires.scene.ready.ordered c.in-Some.ensures c.requires.part c.in-While.is).weight in
          at_most_ok _ _ _ _ _ _ _ _ c.tested_loop.result c.tested_loop.ensures.lowered (omega arith));
      spends = (let h = whiles (frame_of c.args.cx.p.now c.args.cx.d.now) c.args.k c.in-Some.s.now
          c.requires.scene.ready.ordered c.in-Some.ensures c.requires.part c.in-While.is in
          let w = h.weight in
          let few = h.copies in
          let enters = h.enters (is_entered (length c.args.cx.d.now.params) (length c.args.cx.d.now.vars)) in
          parts_last _ _ _ _ _ c.tested_loop.result (of_expression nothing) c.tested_loop.ensures.spends (omega arith)
          (omega arith) (omega arith)
          (λ w. omega (arith, h.enters (is_zeroed (length c.args.cx.d.now.params) c.args.cx.homes.now w))));
      is = IfOk-weaker c.tested_loop.result _ _
          (λ q h. states_while _ c.requires.ordered c.requires.scene.ready.ordered
          (record { node = _; there = c.in-Some.ensures; is = c.in-While.is })
          (test_scalar (whiles (frame_of c.args.cx.p.now c.args.cx.d.now) c.args.k c.in-Some.s.now
          c.requires.scene.ready.ordered c.in-Some.ensures c.requires.part c.in-While.is).test) h)
          c.tested_loop.ensures.is;
    }

pub statement-returns-in-Break : goal.statement-returns-in-Break
statement-returns-in-Break t c =
    record {
      lowered = tail_grew _ _ c.jump_out.result (start c.requires.scene) c.jump_out.ensures.grown
          c.jump_out.ensures.adds (omega arith);
      spends = parts_last_and _ _ _ _ c.jump_out.result (of_expression nothing) c.jump_out.ensures.spent
          (omega arith) (omega (arith, hefty (statement c.args.cx.p.now c.args.k))) (omega arith) (λ w. omega arith);
      is = IfOk-weaker c.jump_out.result _ _
          (λ q h. states_break _ c.requires.ordered c.requires.scene.ready.ordered
          (record { node = _; there = c.in-Some.ensures; is = c.in-Break.is }) h) c.jump_out.ensures.is;
    }

pub statement-returns-in-Continue : goal.statement-returns-in-Continue
statement-returns-in-Continue t c =
    record {
      lowered = tail_grew _ _ c.jump_out-in-Continue.result (start c.requires.scene)
          c.jump_out-in-Continue.ensures.grown c.jump_out-in-Continue.ensures.adds (omega arith);
      spends = parts_last_and _ _ _ _ c.jump_out-in-Continue.result (of_expression nothing)
          c.jump_out-in-Continue.ensures.spent
          (omega arith) (omega (arith, hefty (statement c.args.cx.p.now c.args.k))) (omega arith) (λ w. omega arith);
      is = IfOk-weaker c.jump_out-in-Continue.result _ _
          (λ q h. states_continue _ c.requires.ordered c.requires.scene.ready.ordered
          (record { node = _; there = c.in-Some.ensures; is = c.in-Continue.is }) h) c.jump_out-in-Continue.ensures.is;
    }

pub statement-tested_loop-requires : goal.statement-tested_loop-requires
statement-tested_loop-requires t c =
    let h = whiles (frame_of c.args.cx.p.now c.args.cx.d.now) c.args.k c.in-Some.s.now
    c.requires.scene.ready.ordered c.in-Some.ensures c.requires.part c.in-While.is in
    let w = h.weight in
    let before = while_body c.args.cx.p.now c.args.k c.in-Some.s.now c.in-While.c c.in-While.a c.requires.ordered
    c.in-Some.ensures c.in-While.is in (
      omega arith,
      (
        c.requires.ordered,
        (
          c.requires.scene,
          (
            c.requires.fits,
            (
              typed_some h.test.typed,
              (typed_none, (record { inside = _; placed = h.body_fits }, less_room c.requires.room (omega arith))),
            ),
          ),
        ),
      ),
    )

pub statement-block-requires : goal.statement-block-requires
statement-block-requires t c =
    let h = blocks (frame_of c.args.cx.p.now c.args.cx.d.now) c.args.k c.in-Some.s.now
    c.requires.scene.ready.ordered c.in-Some.ensures c.requires.part c.in-Block.is in
    let w = h.weight in
    let same = ap (hefts_in c.args.cx.p.now) c.as_slice-in-Block.ensures in
    let before = block_body c.args.cx.p.now c.args.k c.in-Some.s.now c.in-Block.vars c.in-Block.body
    c.as_slice-in-Block.result.now c.requires.ordered c.in-Some.ensures c.in-Block.is
    c.as_slice-in-Block.ensures in
    let there = subst (λ z. AreVars (frame_of c.args.cx.p.now c.args.cx.d.now) z) (sym c.as_slice.ensures)
    h.vars_there in
    let parts = subst (λ z. AreParts (frame_of c.args.cx.p.now c.args.cx.d.now) z) (sym c.as_slice-in-Block.ensures)
    (are_parts h.body_fits) in (
      omega arith,
      (
        c.requires.ordered,
        (
          before,
          (
            c.requires.scene,
            (c.requires.fits, (there, (parts, (c.requires.exits, less_room c.requires.room (omega arith))))),
          ),
        ),
      ),
    )

pub statement-returns-in-Block : goal.statement-returns-in-Block
statement-returns-in-Block t c =
    record {
      lowered = (let w = (blocks (frame_of c.args.cx.p.now c.args.cx.d.now) c.args.k c.in-Some.s.now
          c.requires.scene.ready.ordered c.in-Some.ensures c.requires.part c.in-Block.is).weight in
          let same = ap (hefts_in c.args.cx.p.now) c.as_slice-in-Block.ensures in
          at_most_ok _ _ _ _ _ _ _ _ c.block.result c.block.ensures.lowered (omega arith));
      spends = (let h = blocks (frame_of c.args.cx.p.now c.args.cx.d.now) c.args.k c.in-Some.s.now
          c.requires.scene.ready.ordered c.in-Some.ensures c.requires.part c.in-Block.is in
          let w = h.weight in
          let few = h.copies in
          let enters = h.enters (is_entered (length c.args.cx.d.now.params) (length c.args.cx.d.now.vars)) in
          let same = ap (hefts_in c.args.cx.p.now) c.as_slice-in-Block.ensures in
          let copied = ap (all_part_copies c.args.cx.p.now) c.as_slice-in-Block.ensures in
          let vars = ap (entered c.args.cx.d.now) c.as_slice.ensures in
          let body = ap (all_entered_in c.args.cx.p.now c.args.cx.d.now) c.as_slice-in-Block.ensures in
          parts_last _ _ _ _ _ c.block.result (of_expression nothing) c.block.ensures.spends (omega arith) (omega
          arith)
          (omega arith)
          (λ w. omega (
            arith,
            h.enters (is_zeroed (length c.args.cx.d.now.params) c.args.cx.homes.now w),
            ap (λ xs. zeroed c.args.cx.d.now c.args.cx.homes.now xs w) c.as_slice.ensures,
            ap (λ xs. all_zeroed_in c.args.cx.p.now c.args.cx.d.now c.args.cx.homes.now xs w)
                c.as_slice-in-Block.ensures,
          )));
      is = IfOk-weaker c.block.result _ _
          (λ q h. states_block _ c.requires.ordered c.requires.scene.ready.ordered
          (record {
            node = _;
            there = c.in-Some.ensures;
            is = c.in-Block.is ∙ ap (λ z. stmts.Block z c.in-Block.body) (sym c.as_slice.ensures)
                ∙ ap (stmts.Block c.as_slice.result.now) (sym c.as_slice-in-Block.ensures);
          }) h) c.block.ensures.is;
    }

pub statement-block-requires-in-For : goal.statement-block-requires-in-For
statement-block-requires-in-For t c =
    let h = fors (frame_of c.args.cx.p.now c.args.cx.d.now) c.args.k c.in-Some.s.now c.requires.scene.ready.ordered
    c.in-Some.ensures c.requires.part c.in-For.is in
    let w = h.weight in
    let same = ap (hefts_in c.args.cx.p.now) c.as_slice-in-For-2.ensures in
    let before = for_first c.args.cx.p.now c.args.k c.in-Some.s.now c.in-For.vars c.in-For.first c.in-For.test
    c.in-For.step c.in-For.body c.as_slice-in-For-2.result.now c.requires.ordered c.in-Some.ensures c.in-For.is
    c.as_slice-in-For-2.ensures in
    let there = subst (λ z. AreVars (frame_of c.args.cx.p.now c.args.cx.d.now) z) (sym c.as_slice-in-For.ensures)
    h.vars_there in
    let parts = subst (λ z. AreParts (frame_of c.args.cx.p.now c.args.cx.d.now) z) (sym c.as_slice-in-For-2.ensures)
    (are_parts h.first_fits) in (
      omega arith,
      (
        c.requires.ordered,
        (
          before,
          (
            c.requires.scene,
            (c.requires.fits, (there, (parts, (c.requires.exits, less_room c.requires.room (omega arith))))),
          ),
        ),
      ),
    )

pub statement-tested_loop-requires-in-For : goal.statement-tested_loop-requires-in-For
statement-tested_loop-requires-in-For t c =
    let h = fors (frame_of c.args.cx.p.now c.args.cx.d.now) c.args.k c.in-Some.s.now c.requires.scene.ready.ordered
    c.in-Some.ensures c.requires.part c.in-For.is in
    let w = h.weight in
    let same = ap (hefts_in c.args.cx.p.now) c.as_slice-in-For-2.ensures in
    let before = for_body c.args.cx.p.now c.args.k c.in-Some.s.now c.in-For.vars c.in-For.first c.in-For.test
    c.in-For.step c.in-For.body c.requires.ordered c.in-Some.ensures c.in-For.is in
    let so_far = c.in_ok-block-in-For.ensures.lowered in (
      omega arith,
      (
        c.requires.ordered,
        (
          so_far.scene,
          (
            c.requires.fits,
            (
              record { each = λ j e. (h.test_fits j e).typed },
              (
                record { each = h.step_fits },
                (record { inside = _; placed = h.body_fits }, room c.requires.room so_far (omega arith)),
              ),
            ),
          ),
        ),
      ),
    )

pub statement-returns-in_ok-block-in-For : goal.statement-returns-in_ok-block-in-For
statement-returns-in_ok-block-in-For t c =
    record {
      lowered = (let w = (fors (frame_of c.args.cx.p.now c.args.cx.d.now) c.args.k c.in-Some.s.now
          c.requires.scene.ready.ordered
          c.in-Some.ensures c.requires.part c.in-For.is).weight in
          let same = ap (hefts_in c.args.cx.p.now) c.as_slice-in-For-2.ensures in
          tail _ _ c.tested_loop-in-For.result c.in_ok-block-in-For.ensures.lowered
          c.tested_loop-in-For.ensures.lowered (omega arith));
      spends = (let h = fors (frame_of c.args.cx.p.now c.args.cx.d.now) c.args.k c.in-Some.s.now
          c.requires.scene.ready.ordered c.in-Some.ensures c.requires.part c.in-For.is in
          let w = h.weight in
          let few = h.copies in
          let enters = h.enters (is_entered (length c.args.cx.d.now.params) (length c.args.cx.d.now.vars)) in
          let same = ap (hefts_in c.args.cx.p.now) c.as_slice-in-For-2.ensures in
          let copied = ap (all_part_copies c.args.cx.p.now) c.as_slice-in-For-2.ensures in
          let vars = ap (entered c.args.cx.d.now) c.as_slice-in-For.ensures in
          let body = ap (all_entered_in c.args.cx.p.now c.args.cx.d.now) c.as_slice-in-For-2.ensures in
          parts_last _ _ _ _ _ c.tested_loop-in-For.result c.in_ok-block-in-For.ensures.spends
          c.tested_loop-in-For.ensures.spends (omega arith) (omega arith) (omega arith)
          (λ w. omega (
            arith,
            h.enters (is_zeroed (length c.args.cx.d.now.params) c.args.cx.homes.now w),
            ap (λ xs. zeroed c.args.cx.d.now c.args.cx.homes.now xs w) c.as_slice-in-For.ensures,
            ap (λ xs. all_zeroed_in c.args.cx.p.now c.args.cx.d.now c.args.cx.homes.now xs w)
                c.as_slice-in-For-2.ensures,
          )));
      is = IfOk-weaker c.tested_loop-in-For.result _ _
          (λ q h. states_counted _ c.requires.ordered c.requires.scene.ready.ordered
          (record {
            node = _;
            there = c.in-Some.ensures;
            is = c.in-For.is
                ∙ ap (λ z. stmts.For z c.in-For.first c.in-For.test c.in-For.step c.in-For.body)
                (sym c.as_slice-in-For.ensures)
                ∙ ap (λ z. stmts.For c.as_slice-in-For.result.now z c.in-For.test c.in-For.step c.in-For.body)
                (sym c.as_slice-in-For-2.ensures);
          })
          (test_scalar_if_any c.in-For.test (fors (frame_of c.args.cx.p.now c.args.cx.d.now) c.args.k c.in-Some.s.now
          c.requires.scene.ready.ordered c.in-Some.ensures c.requires.part c.in-For.is).test_fits)
          c.in_ok-block-in-For.ensures.is h) c.tested_loop-in-For.ensures.is;
    }

pub statement-switch-requires : goal.statement-switch-requires
statement-switch-requires t c =
    let h = switches (frame_of c.args.cx.p.now c.args.cx.d.now) c.args.k c.in-Some.s.now
    c.requires.scene.ready.ordered c.in-Some.ensures c.requires.part c.in-Switch.is in
    let w = h.weight in
    let same = ap (hefts_in c.args.cx.p.now) c.as_slice-in-Switch-3.ensures in
    let many = ap length c.as_slice-in-Switch-2.ensures in
    let before = switch_body c.args.cx.p.now c.args.k c.in-Some.s.now c.in-Switch.on c.in-Switch.vars
    c.in-Switch.labels c.in-Switch.body c.as_slice-in-Switch-3.result.now c.requires.ordered c.in-Some.ensures
    c.in-Switch.is c.as_slice-in-Switch-3.ensures in
    let there = subst (λ z. AreVars (frame_of c.args.cx.p.now c.args.cx.d.now) z) (sym c.as_slice-in-Switch.ensures)
    h.vars_there in
    let parts = subst (λ z. AreParts (frame_of c.args.cx.p.now c.args.cx.d.now) z)
    (sym c.as_slice-in-Switch-3.ensures) (are_parts h.body_fits) in (
      omega arith,
      (
        c.requires.ordered,
        (
          before,
          (
            c.requires.scene,
            (
              c.requires.fits,
              (h.value, (there, (parts, (c.requires.exits, less_room c.requires.room (omega arith))))),
            ),
          ),
        ),
      ),
    )

pub statement-returns-in-Switch : goal.statement-returns-in-Switch
statement-returns-in-Switch t c =
    record {
      lowered = (let w = (switches (frame_of c.args.cx.p.now c.args.cx.d.now) c.args.k c.in-Some.s.now
          c.requires.scene.ready.ordered c.in-Some.ensures c.requires.part c.in-Switch.is).weight in
          let same = ap (hefts_in c.args.cx.p.now) c.as_slice-in-Switch-3.ensures in
          let many = ap length c.as_slice-in-Switch-2.ensures in
          at_most_ok _ _ _ _ _ _ _ _ c.switch.result c.switch.ensures.lowered (omega arith));
      spends = (let h = switches (frame_of c.args.cx.p.now c.args.cx.d.now) c.args.k c.in-Some.s.now
          c.requires.scene.ready.ordered c.in-Some.ensures c.requires.part c.in-Switch.is in
          let w = h.weight in
          let few = h.copies in
          let enters = h.enters (is_entered (length c.args.cx.d.now.params) (length c.args.cx.d.now.vars)) in
          let same = ap (hefts_in c.args.cx.p.now) c.as_slice-in-Switch-3.ensures in
          let copied = ap (all_part_copies c.args.cx.p.now) c.as_slice-in-Switch-3.ensures in
          let vars = ap (entered c.args.cx.d.now) c.as_slice-in-Switch.ensures in
          let body = ap (all_entered_in c.args.cx.p.now c.args.cx.d.now) c.as_slice-in-Switch-3.ensures in
          let many = ap length c.as_slice-in-Switch-2.ensures in
          parts_last _ _ _ _ _ c.switch.result (of_expression nothing) c.switch.ensures.spends (omega arith) (omega
          arith)
          (omega arith)
          (λ w. omega (
            arith,
            h.enters (is_zeroed (length c.args.cx.d.now.params) c.args.cx.homes.now w),
            ap (λ xs. zeroed c.args.cx.d.now c.args.cx.homes.now xs w) c.as_slice-in-Switch.ensures,
            ap (λ xs. all_zeroed_in c.args.cx.p.now c.args.cx.d.now c.args.cx.homes.now xs w)
                c.as_slice-in-Switch-3.ensures,
          )));
      is = IfOk-weaker c.switch.result _ _
          (λ q h. h (record {
            node = _;
            there = c.in-Some.ensures;
            is = c.in-Switch.is
                ∙ ap (λ z. stmts.Switch c.in-Switch.on z c.in-Switch.labels c.in-Switch.body)
                (sym c.as_slice-in-Switch.ensures)
                ∙ ap (λ z. stmts.Switch c.in-Switch.on c.as_slice-in-Switch.result.now z c.in-Switch.body)
                (sym c.as_slice-in-Switch-2.ensures)
                ∙ ap (stmts.Switch c.in-Switch.on c.as_slice-in-Switch.result.now c.as_slice-in-Switch-2.result.now)
                (sym c.as_slice-in-Switch-3.ensures);
          })
          (integer_scalar (switches (frame_of c.args.cx.p.now c.args.cx.d.now) c.args.k c.in-Some.s.now
          c.requires.scene.ready.ordered c.in-Some.ensures c.requires.part c.in-Switch.is).integer))
          c.switch.ensures.is;
    }

-- ---- switches

pub switch-compared_cases-requires-clause-scene : goal.switch-compared_cases-requires-clause-scene
switch-compared_cases-requires-clause-scene t c =
    (label c.in_ok-enter.ensures.lowered.scene c.label-end.ensures.labelled).scene

pub switch-compared_cases-requires-clause-temp : goal.switch-compared_cases-requires-clause-temp
switch-compared_cases-requires-clause-temp t c =
    let made = label c.in_ok-enter.ensures.lowered.scene c.label-end.ensures.labelled in
    as_kind (opened_has (still c.in_ok-v.ensures.has c.in_ok-enter.ensures.lowered) made)
    (sym (c.kind.ensures c.requires.scene.ready))

pub switch-compared_cases-requires-clause-end : goal.switch-compared_cases-requires-clause-end
switch-compared_cases-requires-clause-end t c =
    first_open (label c.in_ok-enter.ensures.lowered.scene c.label-end.ensures.labelled)

pub switch-loop-s-init : goal.switch-loop-s-init
switch-loop-s-init t c =
    let none = opened_none c.args.cx.p.now c.args.cx.d.now c.args.cx.types.now c.args.cx.homes.now c.args.out.now
    c.requires.scene in
    let one = opened_label (opened none (both c.in_ok-v.ensures.lowered c.in_ok-enter.ensures.lowered))
    c.label-end.ensures.labelled in
    let some = heavy (expression c.args.cx.p.now c.args.on) in
    record {
      opened =
          opened_at_most
          (opened_beside (c.label-end.result ∷ []) (labels_in c.in_ok-cases.cases) one c.in_ok-cases.ensures.opened)
          (omega arith);
      spends = parts_within
          (parts_after (parts_after (parts_after (of_expression c.in_ok-v.ensures.spends)
          (of_entry c.in_ok-enter.ensures.spent))
          (of_code (labelled_spent c.label-end.ensures.labelled)))
          (of_code c.in_ok-cases.ensures.spent)) (omega (arith, some)) (omega (arith, some)) (omega arith)
          (λ w. omega arith);
      count = refl;
      is = switch_begun (routine c.args.cx) c.requires.ordered c.requires.scene.ready.ordered
          c.in_ok-cases.cases (c.kind.ensures c.requires.scene.ready) c.in_ok-v.ensures.is c.in_ok-enter.ensures.is
          c.label-end.ensures.labelled c.in_ok-cases.ensures.is;
    }

pub switch-returns : goal.switch-returns
switch-returns t c =
    record {
      lowered = (let p = c.args.cx.p.now in
          let d = c.args.cx.d.now in
          let types = c.args.cx.types.now in
          let homes = c.args.cx.homes.now in
          let all = hefts_taken p c.args.body.now c.loop-s.s-index in
          let n = 4 * weight_in p c.args.on + (length c.args.labels.now + 3) + 4 * hefts_in p
          (take c.loop-s.s-index c.args.body.now) in
          let o = c.in_ok-stand_behind.ensures.stand.opened p d types homes c.args.out.now (c.label-end.result ∷ []) n
          c.loop-s.invariant.opened in
          let last = subst
          (λ z. Opened p d types homes c.args.out.now c.stand_behind.new.out (z ++ c.label-end.result ∷ []) n)
          (none_behind c.in_ok-cases.cases.cases.items) o in
          tail_stands _ c.stand.result last c.stand.ensures.stands (omega (arith, all)));
      spends = (let all = hefts_taken c.args.cx.p.now c.args.body.now c.loop-s.s-index in
          let copied = copies_taken c.args.cx.p.now c.args.body.now c.loop-s.s-index in
          let entered = all_entered_taken c.args.cx.p.now c.args.cx.d.now c.args.body.now c.loop-s.s-index in
          parts_last_and _ _ _ _ c.stand.result (parts_after c.loop-s.invariant.spends
          (of_code c.in_ok-stand_behind.ensures.spent))
          c.stand.ensures.spent (omega (arith, all)) (omega (arith, all, entered)) (omega (arith, copied))
          (λ w. omega (
            arith,
            all_zeroed_taken c.args.cx.p.now c.args.cx.d.now c.args.cx.homes.now c.args.body.now
                c.loop-s.s-index w,
          )));
      is = IfOk-weaker c.stand.result _ _
          (λ q h n scalar. states_switch (routine c.args.cx) c.requires.ordered c.requires.scene.ready.ordered n scalar
          (ap or_int scalar.is.is) refl c.requires.scene.housed c.requires.there
          (switch_same (routine c.args.cx) c.requires.ordered c.requires.scene.ready.ordered
          (take_all c.loop-s.s-index c.args.body.now (omega arith)) c.loop-s.invariant.is)
          c.in_ok-stand_behind.ensures.is h) c.stand.ensures.stands;
    }

pub switch-statement-requires : goal.switch-statement-requires
switch-statement-requires t c =
    let p = c.args.cx.p.now in
    let d = c.args.cx.d.now in
    let i = c.loop-s.s-index in
    let n = 4 * weight_in p c.args.on + (length c.args.labels.now + 3) + 4 * hefts_in p (take i c.args.body.now) in
    let o = c.in_ok-first.ensures.stand.opened p d c.args.cx.types.now c.args.cx.homes.now c.args.out.now
    (c.label-end.result ∷ []) n c.loop-s.invariant.opened in
    let lt = below c.args.k c.args.body.now i 0 c.requires.before (omega arith) in
    let next = hefts_within p c.args.body.now i (omega arith) in
    let part = part_at (frame_of p d) c.args.body.now i c.requires.parts (omega arith) in
    let break = open_last (drop c.in_ok-first.first (labels_in c.in_ok-cases.cases)) c.label-end.result o in
    let continue = exit_opened c.args.exits.continue_to c.requires.exits.continue_to o in (
      omega arith,
      (
        c.requires.ordered,
        (
          o.scene,
          (
            c.requires.fits,
            (
              part,
              (
                record { break_to = break; continue_to = continue },
                opened_room c.requires.room o
                    (omega (arith, next)),
              ),
            ),
          ),
        ),
      ),
    )

pub switch-loop-s-preserved : goal.switch-loop-s-preserved
switch-loop-s-preserved t c =
    let p = c.args.cx.p.now in
    let d = c.args.cx.d.now in
    let i = c.loop-s.s-index in
    let n = 4 * weight_in p c.args.on + (length c.args.labels.now + 3) + 4 * hefts_in p (take i c.args.body.now) in
    let o = c.in_ok-first.ensures.stand.opened p d c.args.cx.types.now c.args.cx.homes.now c.args.out.now
    (c.label-end.result ∷ []) n c.loop-s.invariant.opened in
    let next = hefts_next p c.args.body.now i (omega arith) in
    let copied = copies_next p c.args.body.now i (omega arith) in
    let enters = all_entered_next p c.args.cx.d.now c.args.body.now i (omega arith) in
    record {
      opened = opened_at_most (opened o c.in_ok-statement.ensures.lowered) (omega (arith, next));
      spends = parts_within (parts_after (parts_after c.loop-s.invariant.spends (of_code c.in_ok-first.ensures.spent))
          c.in_ok-statement.ensures.spends)
          (omega (arith, next)) (omega (arith, next, enters)) (omega (arith, copied))
          (λ w. omega (
            arith,
            all_zeroed_next c.args.cx.p.now c.args.cx.d.now c.args.cx.homes.now c.args.body.now i w
                (omega arith),
          ));
      count = omega (arith, c.loop-s.invariant.count, fewer_statements p c.args.body.now, c.requires.room.temps);
      is = switch_more (routine c.args.cx) c.requires.ordered c.requires.scene.ready.ordered _
          (take_more c.args.body.now i 0 (omega arith))
          (c.loop-s.invariant.count ∙ sym (length-take-le i c.args.body.now (omega arith)))
          c.loop-s.invariant.is c.in_ok-first.ensures.is c.in_ok-statement.ensures.is;
    }

pub statement-returns-in-Return : goal.statement-returns-in-Return
statement-returns-in-Return t c =
    record {
      lowered = search rules;
      spends = parts_last_of _ _ _ _ c.leave.result (of_expression nothing) c.leave.ensures.spends (omega arith)
          (omega arith)
          (omega arith) (λ w. omega arith);
      is = IfOk-weaker c.leave.result _ _
          (λ q h. h (exits_as c.args.exits) (record { node = _; there = c.in-Some.ensures; is = c.in-Return.is }))
          c.leave.ensures.is;
    }

pub statement-returns-in_default : goal.statement-returns-in_default
statement-returns-in_default t c =
    record {
      lowered = search rules;
      spends = parts_within (of_expression nothing) (omega arith) (omega arith) (omega arith) (λ w. omega arith);
      is = states_none _ c.requires.ordered c.requires.scene.ready.ordered c.args.k c.in_default.ensures;
    }

pub statement-returns-in-Empty : goal.statement-returns-in-Empty
statement-returns-in-Empty t c =
    record {
      lowered = search rules;
      spends = parts_within (of_expression nothing) (omega arith) (omega arith) (omega arith) (λ w. omega arith);
      is = states_nothing _ c.requires.ordered c.requires.scene.ready.ordered
          (record { node = _; there = c.in-Some.ensures; is = c.in-Empty.is });
    }

-- ---- whose code it is

-- ---- where memory lacks

pub loop_body-returns-in_err-statement : goal.loop_body-returns-in_err-statement
loop_body-returns-in_err-statement t c =
    let e = c.from_residual.ensures.0 in record { behind = fails _ _ e; is = fails _ _ e; spends = fails _ _ e }

pub tested_loop-returns-in_err-circle : goal.tested_loop-returns-in_err-circle
tested_loop-returns-in_err-circle t c =
    let e = c.from_residual.ensures.0 in record { is = fails _ _ e; lowered = fails _ _ e; spends = fails _ _ e }

pub tested_loop-returns-in_err-test_loop : goal.tested_loop-returns-in_err-test_loop
tested_loop-returns-in_err-test_loop t c =
    let e = c.from_residual-in_err-test_loop.ensures.0 in
    record {
      is = fails _ _ e;
      lowered = fails _ _ e;
      spends = fails _ _ e;
    }

pub tested_loop-returns-in_err-loop_body : goal.tested_loop-returns-in_err-loop_body
tested_loop-returns-in_err-loop_body t c =
    let e = c.from_residual-in_err-loop_body.ensures.0 in
    record {
      is = fails _ _ e;
      lowered = fails _ _ e;
      spends = fails _ _ e;
    }

pub tested_loop-returns-in_err-step_loop : goal.tested_loop-returns-in_err-step_loop
tested_loop-returns-in_err-step_loop t c =
    let e = c.from_residual-in_err-step_loop.ensures.0 in
    record {
      is = fails _ _ e;
      lowered = fails _ _ e;
      spends = fails _ _ e;
    }

pub repeated_loop-returns-in_err-circle : goal.repeated_loop-returns-in_err-circle
repeated_loop-returns-in_err-circle t c =
    let e = c.from_residual.ensures.0 in record { is = fails _ _ e; lowered = fails _ _ e; spends = fails _ _ e }

pub repeated_loop-returns-in_err-loop_body : goal.repeated_loop-returns-in_err-loop_body
repeated_loop-returns-in_err-loop_body t c =
    let e = c.from_residual-in_err-loop_body.ensures.0 in
    record {
      is = fails _ _ e;
      lowered = fails _ _ e;
      spends = fails _ _ e;
    }

pub repeated_loop-returns-in_err-condition : goal.repeated_loop-returns-in_err-condition
repeated_loop-returns-in_err-condition t c =
    let e = c.from_residual-in_err-condition.ensures.0 in
    record {
      is = fails _ _ e;
      lowered = fails _ _ e;
      spends = fails _ _ e;
    }

pub choice-returns-in_err-condition : goal.choice-returns-in_err-condition
choice-returns-in_err-condition t c =
    let e = c.from_residual.ensures.0 in record { is = fails _ _ e; lowered = fails _ _ e; spends = fails _ _ e }

pub choice-returns-in_err-statement : goal.choice-returns-in_err-statement
choice-returns-in_err-statement t c =
    let e = c.from_residual-in_err-statement.ensures.0 in
    record {
      is = fails _ _ e;
      lowered = fails _ _ e;
      spends = fails _ _ e;
    }

pub choice-returns-in_err-turn_fork : goal.choice-returns-in_err-turn_fork
choice-returns-in_err-turn_fork t c =
    let e = c.from_residual-in_err-turn_fork.ensures.0 in
    record {
      is = fails _ _ e;
      lowered = fails _ _ e;
      spends = fails _ _ e;
    }

pub choice-returns-in_err-statement-2 : goal.choice-returns-in_err-statement-2
choice-returns-in_err-statement-2 t c =
    let e = c.from_residual-in_err-statement-2.ensures.0 in
    record {
      is = fails _ _ e;
      lowered = fails _ _ e;
      spends = fails _ _ e;
    }

pub guarded-returns-in_err-condition : goal.guarded-returns-in_err-condition
guarded-returns-in_err-condition t c =
    let e = c.from_residual.ensures.0 in record { is = fails _ _ e; lowered = fails _ _ e; spends = fails _ _ e }

pub guarded-returns-in_err-statement : goal.guarded-returns-in_err-statement
guarded-returns-in_err-statement t c =
    let e = c.from_residual-in_err-statement.ensures.0 in
    record {
      is = fails _ _ e;
      lowered = fails _ _ e;
      spends = fails _ _ e;
    }

pub statements-returns-in_err-statement : goal.statements-returns-in_err-statement
statements-returns-in_err-statement t c =
    let e = c.from_residual.ensures.0 in record { is = fails _ _ e; lowered = fails _ _ e; spends = fails _ _ e }

pub block-returns-in_err-enter : goal.block-returns-in_err-enter
block-returns-in_err-enter t c =
    let e = c.from_residual.ensures.0 in record { is = fails _ _ e; lowered = fails _ _ e; spends = fails _ _ e }
