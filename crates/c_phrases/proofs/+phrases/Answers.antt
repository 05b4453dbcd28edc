use Rattle.std.specs.Prelude.{IfSome}
use Rattle.std.proofs.Common.{◌≡◌, suc, ◌+◌, ◌-◌, ◌≤◌, ◌<◌, ◌∷◌, [], refl, ap, sym, subst, ◌∙◌, arith, Some, None, Ok}
use Rattle.std.proofs.Common.{false, length, length-append}
use Rattle.std.proofs.lemmas.Result.{err_from_is_err_and, IfOk-weaker, MatchResult-weaker}
use Rattle.std.proofs.lemmas.Bool.{le-leb, eqb-true, eqb-false}
use Rattle.c_tree.specs.declared.syntax.NodeKind.TheVariants as Kinds
use Rattle.c_tree.specs.Syntax.{node, nil, one, more, then_one, own_token, first_token, weight}
use Rattle.c_tree.specs.Symbols.{symbol, tail_of, head_of}
use Rattle.c_tree.specs.Grammar.{declared_names, Expression, Declarator, Parameter, Member, Enumerator, Initializer}
use Rattle.c_phrases.specs.Reading
use Rattle.c_phrases.specs.Reading.{◌>>=◌, level, goes_on, starts, past, parts_of, begins_declarator, is_close_bracket}
use Rattle.c_phrases.specs.Reading.{is_open_parenthesis, is_close_parenthesis, goes_on_listing, starts_with}
use Rattle.c_phrases.specs.Reading.{begins_type}
use Rattle.c_phrases.specs.Reading.{opens_type, with_parts, is_close_brace}
use Rattle.c_phrases.specs.Got.{IsPlaceOf, Paid, GotCore, rest_of, in_force, naming_of, encloses, after, missing, there}
use Rattle.c_phrases.specs.Suffixes.{height_of, next_from, unmoved}
use Rattle.c_phrases.specs.Steps.{goal_of, alone, follow_from, members_from, made_by, run}
use Rattle.c_phrases.specs.Runs.{qualifiers_node}
use Rattle.c_phrases.proofs.Tools.{given}
use Rattle.c_phrases.proofs.Made.{bind_is, then_is, else_is, fails_bind, fails_same, fails_memory, grows_on, grows_same}
use Rattle.c_phrases.proofs.Made.{grows_to, means_on, holds_on, holds_more, joined_nil}
use Rattle.c_phrases.proofs.Productions.{run_begins, index_is, call_is, infix_is, choice_is, assign_is, measured_is}
use Rattle.c_phrases.proofs.Productions.{size_is, cast_is, parenthesized_is, prefix_is}
use Rattle.c_phrases.proofs.Climbing.{climbs_step, climbs_fail, climbs_end, level_kept, shut_le, means_at, holds_at}
use Rattle.c_phrases.proofs.Climbing.{grows_from, separated_fails, past_shorter, lists_begin, lists_fail, lists_step}
use Rattle.c_phrases.proofs.Followed.{parts_same, followed, type_name_is, listed_none, listed_some}
use Rattle.c_phrases.proofs.Declaring.{next_got, next_array, next_function, next_none, suffixes_begin, suffixes_more}
use Rattle.c_phrases.proofs.Declaring.{suffixes_fail, suffixes_end, paid_more, option_at, made_as, made_got}
use Rattle.c_phrases.proofs.Declaring.{bracketed_is, bracketed_fails, begins_open, begins_array, begins_function}
use Rattle.c_phrases.proofs.Declaring.{array_high, array_open, array_is, array_fails, function_high, function_is}
use Rattle.c_phrases.proofs.Declaring.{function_unlisted, function_unclosed, core_none, paid_behind, core_empty}
use Rattle.c_phrases.proofs.Declaring.{core_name, core_unnamed, core_enclosed, core_nameless, core_missing}
use Rattle.c_phrases.proofs.Declaring.{enclosed_is}
use Rattle.c_phrases.proofs.Declaring.{enclosed_fails, declarator_empty, declarator_direct, declarator_fails}
use Rattle.c_phrases.proofs.Declaring.{declarator_pointer, pointer_is, pointer_fails, optional_is, optional_fails}
use Rattle.c_phrases.proofs.Declaring.{optional_none, optional_missing, specifying_root, specified_is}
use Rattle.c_phrases.proofs.Declaring.{initializer_plain, initializer_braces, braces_empty, braces_is, braces_fail}
use Rattle.c_phrases.proofs.Answered.{got_same, got_on, got_from, got_grown, fails_grown, reads_lower, read_none}
use Rattle.c_phrases.proofs.Answered.{and_ok}
use Rattle.c_phrases.proofs.Answered.{operand_at, operand_none}
use Rattle.c_phrases.specs.declared.steps.Phrase.TheVariants as Phrases
use Rattle.c_phrases.specs.declared.steps.Step.TheVariants as Steps
use Rattle.c_phrases.proofs.Specifying.{no_items, no_kids, holds_none, holds_some, got_leaf, got_node, past_comma_is}
use Rattle.c_phrases.proofs.Specifying.{braced_fails, braced_open, braced_closed, fills_begin, fills_not, fills_fail}
use Rattle.c_phrases.proofs.Specifying.{fills_step, fills_end, record_tag, record_members, enum_tag, enum_listed}
use Rattle.c_phrases.proofs.Specifying.{gathers_begin, gathers_fail, gathers_step, gathers_end, names_has}
use Rattle.c_phrases.proofs.Specifying.{specifiers_end}
use Rattle.c_phrases.proofs.Specifying.{specifiers_none, specifiers_apart, specifiers_are, member_is, enumerator_end}
use Rattle.c_phrases.proofs.Specifying.{enumerator_not, enumerator_bare, enumerator_value, too_high}
use Rattle.c_phrases.proofs.Paying.{took, took_past, took_maybe, stayed, passed, noded, then_paid, then_owed, owed_paid}
use Rattle.c_phrases.proofs.Paying.{owed_owed, owes, pays, roomy_paid, room_paid, height_some, weight_low}
use Rattle.c_phrases.proofs.+phrases.Goals as goal

pub declarators::array-returns-in_err-parts : goal.declarators::array-returns-in_err-parts
declarators::array-returns-in_err-parts t c =
    let p = err_from_is_err_and c.from_residual.result c.from_residual.ensures.1 in
    rw (p.1, p.2) (record {
      size = tt;
      low = tt;
      taller = tt;
      tree =
          λ x m. (array_high (Reading.read c.args.below) c.args.below x c.args.item.now
          (in_force c.args.types.now) (rest_of c.args.cursor.now) _
          (c.in_err-parts.ensures.tree x (option_at c.takes.ensures.nodes m)));
    })

pub declarators::array-returns-in_err-parts-2 : goal.declarators::array-returns-in_err-parts-2
declarators::array-returns-in_err-parts-2 t c =
    let p = err_from_is_err_and c.from_residual-in_err-parts-2.result c.from_residual-in_err-parts-2.ensures.1 in
    rw (p.1, p.2) (record {
      size = tt;
      low = tt;
      taller = tt;
      tree =
          λ x m. (array_high (Reading.read c.args.below) c.args.below x c.args.item.now
          (in_force c.args.types.now) (rest_of c.args.cursor.now) _
          (c.in_err-parts-2.ensures.tree x (option_at c.takes.ensures.nodes m)));
    })

pub declarators::array-returns-then-takes : goal.declarators::array-returns-then-takes
declarators::array-returns-then-takes t c = record {
  size = IfOk-weaker c.make.result _ _
      (λ p e. owes (then_owed {m = 0} (took c.args.cursor.now c.takes.new.self c.takes.ensures.nodes
      (c.takes.ensures.shorter c.if-takes.true))
      (noded c.takes.new.self c.make.new.self e.0 c.make.ensures.rest) refl)) c.make.ensures.size;
  low = IfOk-weaker c.make.result _ _
      (λ p e. omega (arith, e, c.in_ok-parts.ensures.low)) c.make.ensures.low;
  taller = IfOk-weaker c.make.result _ _
      (λ p e. omega (arith, e.1, c.in_ok-parts.ensures.size, ap weight c.in_ok-parts.ensures.kind)) c.make.ensures.size;
  tree = (λ x m.
      let parts = c.in_ok-parts.ensures.tree x (option_at c.takes.ensures.nodes m) in
      let low = c.in_ok-parts.ensures.low in
      MatchResult-weaker c.make.result (and_ok c.make.result _ _ _ c.make.ensures.tree c.make.ensures.low)
      (λ y g. got_grown (suc c.args.below) (array_open (Reading.read c.args.below) c.args.below x c.args.item.now
      (in_force c.args.types.now) (rest_of c.args.cursor.now) (sym c.takes.ensures.found ∙ c.if-takes.true))
      (let l = g.1 in omega arith)
      (made_got c.takes.new.self (grows_to grows_same (sym c.takes.ensures.nodes)) g.0 (begins_open x parts.1) parts.0
      (ap (λ v. Some (node Kinds.OpenArray c.args.item.now (parts_of x), v))
      (sym (c.make.ensures.rest ∙ c.takes.ensures.taken c.if-takes.true)))))
      (λ e f. fails_memory e _ f));
}

pub declarators::array-returns-in_err-length : goal.declarators::array-returns-in_err-length
declarators::array-returns-in_err-length t c =
    let p = err_from_is_err_and c.from_residual-in_err-length.result c.from_residual-in_err-length.ensures.1 in
    rw (p.1, p.2) (record {
      size = tt;
      low = tt;
      taller = tt;
      tree =
          λ x m. (array_fails (Reading.read c.args.below) c.args.below x c.args.item.now
          (in_force c.args.types.now) (rest_of c.args.cursor.now) _ (sym c.takes.ensures.found ∙ c.if-takes.false)
          (fails_bind _ _ _ (fails_same _ (ap (λ v.
          Reading.read c.args.below (Expression 2) (in_force c.args.types.now) v)
          (sym (c.takes.ensures.left c.if-takes.false))) c.in_err-length.ensures.tree)));
    })

pub declarators::array-returns-in_err-expect : goal.declarators::array-returns-in_err-expect
declarators::array-returns-in_err-expect t c =
    let p = err_from_is_err_and c.from_residual-in_err-expect.result c.from_residual-in_err-expect.ensures.1 in
    rw (p.1, p.2) (record {
      size = tt;
      low = tt;
      taller = tt;
      tree =
          λ x m. (array_fails (Reading.read c.args.below) c.args.below x c.args.item.now
          (in_force c.args.types.now) (rest_of c.args.cursor.now) _ (sym c.takes.ensures.found ∙ c.if-takes.false)
          (bracketed_fails (Reading.read c.args.below) (Expression 2) is_close_bracket (in_force c.args.types.now)
          (rest_of c.args.cursor.now) _ (ap (λ v.
          Reading.read c.args.below (Expression 2) (in_force c.args.types.now) v)
          (sym (c.takes.ensures.left c.if-takes.false)) ∙ c.in_ok-length.ensures.tree.reads)
          c.in_err-expect.ensures.found));
    })

pub declarators::array-returns : goal.declarators::array-returns
declarators::array-returns t c = record {
  size = IfOk-weaker c.make-2.result _ _
      (λ p e. owes (then_owed {m = 0} (then_paid
      (owed_paid {m = 4} (stayed c.args.cursor.now c.takes.new.self c.takes.ensures.nodes
      (c.takes.ensures.left c.if-takes.false)) c.in_ok-length.ensures.size refl)
      (took c.read.new.cursor c.expect.new.self c.expect.ensures.nodes c.in_ok-expect.ensures.size))
      (noded c.expect.new.self c.make-2.new.self e.0 c.make-2.ensures.rest) refl)) c.make-2.ensures.size;
  low = IfOk-weaker c.make-2.result _ _
      (λ p e. omega (arith, e, c.in_ok-push.ensures.size, c.in_ok-parts-2.ensures.low, c.in_ok-length.ensures.low))
      c.make-2.ensures.low;
  taller = IfOk-weaker c.make-2.result _ _
      (λ p e. omega (
        arith,
        e.1,
        c.in_ok-push.ensures.size,
        c.in_ok-parts-2.ensures.size,
        ap weight c.in_ok-parts-2.ensures.kind,
      )) c.make-2.ensures.size;
  tree = (λ x m.
      let parts = c.in_ok-parts-2.ensures.tree x (option_at c.takes.ensures.nodes m) in
      let read = c.in_ok-length.ensures.tree in
      let nodes = c.expect.ensures.nodes in
      let inner = bracketed_is (Reading.read c.args.below) (Expression 2) is_close_bracket (in_force c.args.types.now)
      (rest_of c.args.cursor.now) (ap (λ v. Reading.read c.args.below (Expression 2)
      (in_force c.args.types.now) v) (sym (c.takes.ensures.left c.if-takes.false))
      ∙ c.in_ok-length.ensures.tree.reads) c.in_ok-expect.ensures.found in
      let low = c.in_ok-parts-2.ensures.low in
      let low' = c.in_ok-length.ensures.low in
      let size = c.in_ok-push.ensures.size in
      MatchResult-weaker c.make-2.result (and_ok c.make-2.result _ _ _ c.make-2.ensures.tree c.make-2.ensures.low)
      (λ y g. got_grown (suc c.args.below) (array_is (Reading.read c.args.below) c.args.below x c.args.item.now
      (in_force c.args.types.now) (rest_of c.args.cursor.now)
      (sym c.takes.ensures.found ∙ c.if-takes.false) inner) (let l = g.1 in omega arith)
      (made_got c.expect.new.self (grows_to (grows_from c.takes.ensures.nodes read.grows) (sym nodes)) g.0
      (begins_array x read.tree parts.1) (holds_more (holds_at nodes (holds_on read.grows parts.0))
      (means_at nodes read.means) c.in_ok-push.ensures.kids c.in_ok-push.ensures.size)
      (ap (λ v. Some (node Kinds.Array c.args.item.now (then_one (parts_of x) read.tree), v))
      (sym c.make-2.ensures.rest))))
      (λ e f. fails_memory e _ f));
}

pub phrases::braced-returns-in_err-parts : goal.phrases::braced-returns-in_err-parts
phrases::braced-returns-in_err-parts t c =
    let p = err_from_is_err_and c.from_residual.result c.from_residual.ensures.1 in
    rw (p.1, p.2) (record {
      size = tt;
      low = tt;
      tree =
          λ ys m. (braced_fails (Reading.read c.args.below) (goal_of c.args.what)
          (in_force c.args.types.now) ys _ (rest_of c.args.cursor.now) (c.in_err-parts.ensures.tree ys m));
    })

pub phrases::braced-returns-in_err-expect : goal.phrases::braced-returns-in_err-expect
phrases::braced-returns-in_err-expect t c =
    let p = err_from_is_err_and c.from_residual-in_err-expect.result c.from_residual-in_err-expect.ensures.1 in
    rw (p.1, p.2) (record {
      size = tt;
      low = tt;
      tree =
          λ ys m. (braced_open (Reading.read c.args.below) (goal_of c.args.what)
          (in_force c.args.types.now) ys _ (rest_of c.args.cursor.now) (rest_of c.takes.new.self)
          (c.in_ok-parts.ensures.tree ys m) (past_comma_is c.takes.result c.takes.ensures.found c.takes.ensures.taken
          c.takes.ensures.left) c.in_err-expect.ensures.found);
    })

pub phrases::braced-returns : goal.phrases::braced-returns
phrases::braced-returns t c = record {
  size = pays (then_paid (then_owed {m = 4} c.in_ok-parts.ensures.size (took_maybe c.separated.new.cursor
      c.takes.new.self c.takes.result c.takes.ensures.nodes c.takes.ensures.shorter c.takes.ensures.left) refl)
      (took c.takes.new.self c.expect.new.self c.expect.ensures.nodes c.in_ok-expect.ensures.size)) refl;
  low = c.in_ok-parts.ensures.low;
  tree = (λ ys m.
      braced_closed (Reading.read c.args.below) (goal_of c.args.what) (in_force c.args.types.now) ys
      (rest_of c.args.cursor.now) (rest_of c.takes.new.self) (c.in_ok-parts.ensures.tree ys m)
      (past_comma_is c.takes.result c.takes.ensures.found c.takes.ensures.taken c.takes.ensures.left)
      c.in_ok-expect.ensures.found (c.in_ok-expect.ensures.nodes ∙ c.takes.ensures.nodes));
}

pub expressions::climb-loop-item-init : goal.expressions::climb-loop-item-init
expressions::climb-loop-item-init t c =
    record {
      size = record { room = omega arith; shorter = omega arith; grows = omega arith };
      low = c.requires.start;
      climbs = λ x m. record {
        tree = x;
        means = m;
        turns = suc (suc c.args.below);
        enough = omega arith;
        same = refl;
        grows = grows_same;
      };
    }

pub expressions::climb-returns-in_err-part : goal.expressions::climb-returns-in_err-part
expressions::climb-returns-in_err-part t c =
    let p = err_from_is_err_and c.from_residual.result c.from_residual.ensures.1 in
    rw (p.1, p.2) (record {
      size = tt;
      low = tt;
      tree =
          let low = c.loop-item.invariant.low in
          λ x m. (let at = c.loop-item.invariant.climbs x m in
          climbs_fail c.take_tail.new.cursor _ at c.in-Some.ensures.rest
          (ap (λ v. goes_on (tail_of (symbol c.in-Some.item)) c.args.level v) (sym c.level_of.ensures)
          ∙ c.in-Some.ensures.found) (omega arith)
          (c.in_err-part.ensures.tree at.tree (means_at c.in-Some.ensures.nodes at.means)));
    })

pub expressions::climb-loop-item-preserved : goal.expressions::climb-loop-item-preserved
expressions::climb-loop-item-preserved t c = let s = c.loop-item.invariant.size in
    let room = s.room in let shorter = s.shorter in let grows = s.grows in let low = c.loop-item.invariant.low in
    let q = c.in_ok-part.ensures.size in let room' = q.room in let shorter' = q.shorter in let grows' = q.grows in
    let taken = c.in-Some.ensures.size in let before = ap length c.in-Some.ensures.nodes in
    record {
      size = record { room = omega arith; shorter = omega arith; grows = omega arith };
      low = c.in_ok-part.ensures.low;
      climbs = λ x m. let at = c.loop-item.invariant.climbs x m in
          climbs_step at c.in-Some.ensures.rest (ap (λ v. goes_on (tail_of (symbol c.in-Some.item)) c.args.level v)
          (sym c.level_of.ensures) ∙ c.in-Some.ensures.found) c.in-Some.ensures.nodes
          (omega arith) c.in_ok-part.ensures.taller
          (c.in_ok-part.ensures.tree at.tree (means_at c.in-Some.ensures.nodes at.means));
    }

pub expressions::climb-returns : goal.expressions::climb-returns
expressions::climb-returns t c = record {
  size = owed_owed c.loop-item.invariant.size
      (stayed c.loop-item.cursor c.take_tail.new.cursor c.take_tail.ensures.nodes
      c.in_default.ensures.left);
  low = c.loop-item.invariant.low;
  tree = (let low = c.loop-item.invariant.low in
      λ x m. climbs_end (c.loop-item.invariant.climbs x m)
      (subst (λ v. starts (λ s. goes_on (tail_of s) c.args.level v) (rest_of c.loop-item.cursor) ≡ false)
      c.level_of.ensures c.in_default.ensures.other) c.in_default.ensures.nodes c.in_default.ensures.left
      (omega arith));
}

pub declarators::core-returns-in_default : goal.declarators::core-returns-in_default
declarators::core-returns-in_default t c = record {
  size = tt;
  none = tt;
  low = tt;
  tree = core_empty (Reading.read c.args.below) (suc c.args.below) (naming_of c.args.naming)
      (in_force c.args.types.now) c.in_default.ensures;
}

pub declarators::core-returns-then-not-is_declared_by : goal.declarators::core-returns-then-not-is_declared_by
declarators::core-returns-then-not-is_declared_by t c = record {
  size = tt;
  none = tt;
  low = tt;
  tree = core_unnamed (Reading.read c.args.below) (suc c.args.below) (naming_of c.args.naming)
      (in_force c.args.types.now) c.in-Some.ensures (sym c.takes.ensures.found ∙ c.if-takes.true)
      (sym c.is_declared_by.ensures ∙ c.if-not-is_declared_by.true);
}

pub declarators::core-returns-then-takes : goal.declarators::core-returns-then-takes
declarators::core-returns-then-takes t c = record {
  size = then_owed (took c.args.cursor.now c.takes.new.self c.takes.ensures.nodes
      (c.takes.ensures.shorter c.if-takes.true))
      (noded c.takes.new.self c.make.new.self c.in_ok-part.ensures.size.0 c.make.ensures.rest) refl;
  none = tt;
  low = omega (arith, c.in_ok-part.ensures.low, c.no_parts-parts.ensures.size);
  tree = record {
    tree = Some (node Kinds.DeclaredName c.in-Some.item nil);
    means = there (made_as c.in_ok-part.ensures.tree
        (record {
          kind = refl;
          own = c.place-own.ensures;
          first = c.place-own.ensures;
          names = ap (λ v. v ∷ []) c.text.ensures;
        }) c.no_parts-parts.ensures.none);
    reads = core_name (Reading.read c.args.below) (suc c.args.below) (naming_of c.args.naming)
        (in_force c.args.types.now) c.in-Some.ensures (sym c.takes.ensures.found ∙ c.if-takes.true)
        (sym c.is_declared_by.ensures ∙ c.if-not-is_declared_by.false)
        ∙ ap (λ v. Some (Some (node Kinds.DeclaredName c.in-Some.item nil), v))
        (sym (c.make.ensures.rest ∙ c.takes.ensures.taken c.if-takes.true));
    grows = grows_from c.takes.ensures.nodes c.in_ok-part.ensures.tree.grows;
  };
}

pub declarators::core-returns-in_err-inner : goal.declarators::core-returns-in_err-inner
declarators::core-returns-in_err-inner t c =
    let p = err_from_is_err_and c.from_residual-in_err-inner.result c.from_residual-in_err-inner.ensures.1 in
    rw (p.1, p.2) (record {
      size = tt;
      none = tt;
      low = tt;
      tree =
          (fails_same _ (core_enclosed (Reading.read c.args.below) (suc c.args.below) (naming_of c.args.naming)
          (in_force c.args.types.now) c.in-Some.ensures (sym c.takes.ensures.found ∙ c.if-takes.false)
          (ap (λ v. encloses (naming_of c.args.naming) (in_force c.args.types.now) v)
          (sym (c.rest.ensures ∙ c.takes.ensures.left c.if-takes.false)) ∙ sym c.is_enclosed.ensures
          ∙ c.if-is_enclosed.true))
          (fails_bind _ _ _ (enclosed_fails (Reading.read c.args.below) (suc c.args.below) (naming_of c.args.naming)
          (in_force c.args.types.now) (past (rest_of c.args.cursor.now)) c.in-Some.item _
          (fails_bind _ _ _ (fails_same _ (ap (λ v.
          Reading.read c.args.below (Declarator (naming_of c.args.naming)) (in_force c.args.types.now) v)
          (sym (c.advance.ensures.rest ∙ ap past (c.takes.ensures.left c.if-takes.false))))
          c.in_err-inner.ensures.tree)))));
    })

pub declarators::core-returns-in_err-expect : goal.declarators::core-returns-in_err-expect
declarators::core-returns-in_err-expect t c =
    let p = err_from_is_err_and c.from_residual-in_err-expect.result c.from_residual-in_err-expect.ensures.1 in
    rw (p.1, p.2) (record {
      size = tt;
      none = tt;
      low = tt;
      tree =
          (fails_same _ (core_enclosed (Reading.read c.args.below) (suc c.args.below) (naming_of c.args.naming)
          (in_force c.args.types.now) c.in-Some.ensures (sym c.takes.ensures.found ∙ c.if-takes.false)
          (ap (λ v. encloses (naming_of c.args.naming) (in_force c.args.types.now) v)
          (sym (c.rest.ensures ∙ c.takes.ensures.left c.if-takes.false)) ∙ sym c.is_enclosed.ensures
          ∙ c.if-is_enclosed.true))
          (fails_bind _ _ _ (enclosed_fails (Reading.read c.args.below) (suc c.args.below) (naming_of c.args.naming)
          (in_force c.args.types.now) (past (rest_of c.args.cursor.now)) c.in-Some.item _
          (bracketed_fails (Reading.read c.args.below) (Declarator (naming_of c.args.naming)) is_close_parenthesis
          (in_force c.args.types.now) (past (rest_of c.args.cursor.now)) _
          (ap (λ v. Reading.read c.args.below (Declarator (naming_of c.args.naming)) (in_force c.args.types.now) v)
          (sym (c.advance.ensures.rest ∙ ap past (c.takes.ensures.left c.if-takes.false)))
          ∙ c.in_ok-inner.ensures.tree.reads) c.in_err-expect.ensures.found))));
    })

pub declarators::core-returns-then-is_enclosed : goal.declarators::core-returns-then-is_enclosed
declarators::core-returns-then-is_enclosed t c = record {
  size = then_owed (then_paid (owed_paid {m = 8} (stayed c.args.cursor.now c.takes.new.self c.takes.ensures.nodes
      (c.takes.ensures.left c.if-takes.false))
      (took_past c.takes.new.self c.advance.new.self
      (c.takes.ensures.left c.if-takes.false ∙ c.in-Some.ensures) c.advance.ensures.nodes c.advance.ensures.rest)
      refl) (then_paid c.in_ok-inner.ensures.size
      (took c.read.new.cursor c.expect.new.self c.expect.ensures.nodes c.in_ok-expect.ensures.size)))
      (noded c.expect.new.self c.make-then-is_enclosed.new.self c.in_ok-part-2.ensures.size.0
      c.make-then-is_enclosed.ensures.rest) refl;
  none = tt;
  low = omega (arith, c.in_ok-part-2.ensures.low, c.in_ok-parts.ensures.size, c.in_ok-inner.ensures.low);
  tree = (let inner = c.in_ok-inner.ensures.tree in
      let made = c.in_ok-part-2.ensures.tree in
      let nodes = c.expect.ensures.nodes in
      record {
        tree = Some (node Kinds.ParenthesizedDeclarator c.in-Some.item (one inner.tree));
        means = there (made_as made (record {
          kind = refl;
          own = c.place-own.ensures;
          first = c.place-own.ensures;
          names = inner.means.root.names;
        }) (c.in_ok-parts.ensures.one inner.tree (means_at nodes inner.means)));
        reads = core_enclosed (Reading.read c.args.below) (suc c.args.below) (naming_of c.args.naming)
            (in_force c.args.types.now) c.in-Some.ensures (sym c.takes.ensures.found ∙ c.if-takes.false)
            (ap (λ v. encloses (naming_of c.args.naming) (in_force c.args.types.now) v)
            (sym (c.rest.ensures ∙ c.takes.ensures.left c.if-takes.false)) ∙ sym c.is_enclosed.ensures
            ∙ c.if-is_enclosed.true)
            ∙ bind_is (λ a. Some (Some a.0, a.1)) (enclosed_is (Reading.read c.args.below) (suc c.args.below)
            (naming_of c.args.naming) (in_force c.args.types.now) (past (rest_of c.args.cursor.now))
            (bracketed_is (Reading.read c.args.below) (Declarator (naming_of c.args.naming)) is_close_parenthesis
            (in_force c.args.types.now) (past (rest_of c.args.cursor.now))
            (ap (λ v. Reading.read c.args.below (Declarator (naming_of c.args.naming))
            (in_force c.args.types.now) v) (sym
            (c.advance.ensures.rest ∙ ap past (c.takes.ensures.left c.if-takes.false)))
            ∙ c.in_ok-inner.ensures.tree.reads) c.in_ok-expect.ensures.found))
            ∙ ap (λ v. Some (Some (node Kinds.ParenthesizedDeclarator c.in-Some.item (one inner.tree)), v))
            (sym c.make-then-is_enclosed.ensures.rest);
        grows = grows_from (c.advance.ensures.nodes ∙ c.takes.ensures.nodes)
            (grows_on (grows_to inner.grows (sym nodes)) made.grows);
      });
}

pub declarators::core-returns-then-may_be_nameless : goal.declarators::core-returns-then-may_be_nameless
declarators::core-returns-then-may_be_nameless t c = record {
  size = tt;
  none = (c.takes.ensures.left c.if-takes.false, c.takes.ensures.nodes);
  low = tt;
  tree = core_none c.takes.ensures.nodes (c.takes.ensures.left c.if-takes.false)
      (core_nameless (Reading.read c.args.below) (suc c.args.below) (naming_of c.args.naming)
      (in_force c.args.types.now) c.in-Some.ensures (sym c.takes.ensures.found ∙ c.if-takes.false)
      (ap (λ v. encloses (naming_of c.args.naming) (in_force c.args.types.now) v)
      (sym (c.rest.ensures ∙ c.takes.ensures.left c.if-takes.false)) ∙ sym c.is_enclosed.ensures
      ∙ c.if-is_enclosed.false) (sym c.may_be_nameless.ensures ∙ c.if-may_be_nameless.true));
}

pub declarators::core-returns-else-may_be_nameless : goal.declarators::core-returns-else-may_be_nameless
declarators::core-returns-else-may_be_nameless t c = record {
  size = tt;
  none = tt;
  low = tt;
  tree = core_missing (Reading.read c.args.below) (suc c.args.below) (naming_of c.args.naming)
      (in_force c.args.types.now) c.in-Some.ensures (sym c.takes.ensures.found ∙ c.if-takes.false)
      (ap (λ v. encloses (naming_of c.args.naming) (in_force c.args.types.now) v)
      (sym (c.rest.ensures ∙ c.takes.ensures.left c.if-takes.false)) ∙ sym c.is_enclosed.ensures
      ∙ c.if-is_enclosed.false) (sym c.may_be_nameless.ensures ∙ c.if-may_be_nameless.false);
}

pub declarators::declarator-returns-in_default : goal.declarators::declarator-returns-in_default
declarators::declarator-returns-in_default t c = record {
  size = tt;
  low = tt;
  tree = declarator_empty (Reading.read c.args.below) (suc c.args.below) (naming_of c.args.naming)
      (in_force c.args.types.now) c.in_default.ensures;
}

pub declarators::declarator-returns-in_err-core : goal.declarators::declarator-returns-in_err-core
declarators::declarator-returns-in_err-core t c =
    let p = err_from_is_err_and c.from_residual.result c.from_residual.ensures.1 in
    rw (p.1, p.2) (record {
      size = tt;
      low = tt;
      tree =
          (declarator_fails (Reading.read c.args.below) (suc c.args.below) (naming_of c.args.naming)
          (in_force c.args.types.now) (rest_of c.args.cursor.now) _ (sym c.takes.ensures.found ∙ c.if-not-takes.true)
          (fails_same _ (ap (λ v. Reading.core (Reading.read c.args.below) (suc c.args.below) (naming_of c.args.naming)
          (in_force c.args.types.now) v) (sym (c.takes.ensures.left c.if-not-takes.true))) c.in_err-core.ensures.tree));
    })

pub declarators::declarator-returns-then-not-takes : goal.declarators::declarator-returns-then-not-takes
declarators::declarator-returns-then-not-takes t c = record {
  size = paid_behind c.args.cursor.now c.takes.new.self c.core.new.cursor c.suffixes.new.cursor c.in_ok-core.core
      c.suffixes.result (c.takes.ensures.left c.if-not-takes.true) c.takes.ensures.nodes c.in_ok-core.ensures.size
      c.in_ok-core.ensures.none c.suffixes.ensures.size c.suffixes.ensures.some;
  low = c.suffixes.ensures.low;
  tree = (let at = c.in_ok-core.ensures.tree in
      let same = declarator_direct (Reading.read c.args.below) (suc c.args.below) (naming_of c.args.naming)
      (in_force c.args.types.now) (rest_of c.args.cursor.now) (sym c.takes.ensures.found ∙ c.if-not-takes.true)
      (ap (λ v. Reading.core (Reading.read c.args.below) (suc c.args.below) (naming_of c.args.naming)
      (in_force c.args.types.now) v) (sym (c.takes.ensures.left c.if-not-takes.true)) ∙ at.reads) in
      MatchResult-weaker c.suffixes.result (c.suffixes.ensures.tree at.tree at.means)
      (λ y g. got_same same (got_on (grows_from c.takes.ensures.nodes at.grows) g)) (λ e f. fails_same e same f));
}

pub declarators::declarator-returns-in_err-inner : goal.declarators::declarator-returns-in_err-inner
declarators::declarator-returns-in_err-inner t c =
    let p = err_from_is_err_and c.from_residual-in_err-inner.result c.from_residual-in_err-inner.ensures.1 in
    rw (p.1, p.2) (record {
      size = tt;
      low = tt;
      tree =
          (fails_same _ (declarator_pointer (Reading.read c.args.below) (suc c.args.below)
          (naming_of c.args.naming) (in_force c.args.types.now) c.in-Some.ensures
          (sym c.takes.ensures.found ∙ c.if-not-takes.false))
          (pointer_fails (Reading.read c.args.below) (suc c.args.below) (naming_of c.args.naming)
          (in_force c.args.types.now) (past (rest_of c.args.cursor.now)) _
          (ap (λ v. qualifiers_node c.in-Some.item v) (sym (c.takes.ensures.taken c.if-not-takes.false))
          ∙ c.in_ok-qualifiers.ensures.tree.reads) c.in_err-inner.ensures.tree));
    })

pub declarators::declarator-returns-in_err-parts : goal.declarators::declarator-returns-in_err-parts
declarators::declarator-returns-in_err-parts t c =
    let p = err_from_is_err_and c.from_residual-in_err-parts.result c.from_residual-in_err-parts.ensures.1 in
    rw (p.1, p.2) (record {
      size = tt;
      low = tt;
      tree =
          (fails_memory _ _ c.in_err-parts.ensures.tree);
    })

pub declarators::declarator-returns : goal.declarators::declarator-returns
declarators::declarator-returns t c = record {
  size = IfOk-weaker c.make.result _ _
      (λ p e. then_owed (took c.args.cursor.now c.takes.new.self c.takes.ensures.nodes
      (c.takes.ensures.shorter c.if-not-takes.false))
      (owed_owed (owed_owed c.in_ok-qualifiers.ensures.size c.in_ok-inner.ensures.size)
      (noded c.optional_declarator.new.cursor c.make.new.self e.0 c.make.ensures.rest)) refl) c.make.ensures.size;
  low = IfOk-weaker c.make.result _ _
      (λ p e. omega (
        arith,
        e,
        c.in_ok-parts.ensures.size,
        c.in_ok-qualifiers.ensures.low,
        height_some c.args.below c.in_ok-inner.inner c.in_ok-inner.ensures.low,
      )) c.make.ensures.low;
  tree = (let star = c.in_ok-qualifiers.ensures.tree in
      let inner = c.in_ok-inner.ensures.tree in
      MatchResult-weaker c.make.result c.make.ensures.tree
      (λ y made. made_got c.optional_declarator.new.cursor
      (grows_from c.takes.ensures.nodes (grows_on star.grows inner.grows)) made
      (record {
        kind = refl;
        own = c.place-own.ensures;
        first = c.place-own.ensures;
        names = c.optional_name-name.ensures _ inner.tree inner.means;
      })
      (c.in_ok-parts.ensures.tree star.tree inner.tree (means_on inner.grows star.means) inner.means)
      ((declarator_pointer (Reading.read c.args.below) (suc c.args.below) (naming_of c.args.naming)
      (in_force c.args.types.now) c.in-Some.ensures (sym c.takes.ensures.found ∙ c.if-not-takes.false))
      ∙ pointer_is (Reading.read c.args.below) (suc c.args.below) (naming_of c.args.naming)
      (in_force c.args.types.now) (past (rest_of c.args.cursor.now))
      (ap (λ v. qualifiers_node c.in-Some.item v) (sym (c.takes.ensures.taken c.if-not-takes.false))
      ∙ c.in_ok-qualifiers.ensures.tree.reads) inner.reads
      ∙ ap (λ v. Some (node Kinds.Pointer c.in-Some.item (more star.tree (parts_of inner.tree)), v))
      (sym c.make.ensures.rest)))
      (λ e f. fails_memory e _ f));
}

pub declaration_specifiers::enum_specifier-returns-then-not-takes :
    goal.declaration_specifiers::enum_specifier-returns-then-not-takes
declaration_specifiers::enum_specifier-returns-then-not-takes t c = record {
  size = IfOk-weaker c.tag_alone.result _ _
      (λ p e. owed_owed (owed_owed c.in_ok-start.ensures.size
      (stayed c.tag.new.cursor c.takes.new.self c.takes.ensures.nodes (c.takes.ensures.left c.if-not-takes.true)))
      (noded c.takes.new.self c.tag_alone.new.cursor e c.tag_alone.ensures.rest)) c.tag_alone.ensures.size;
  low = IfOk-weaker c.tag_alone.result _ _
      (λ p e. omega (arith, e)) c.tag_alone.ensures.low;
  tree = (let got = c.in_ok-start.ensures.tree in
      let same = enum_tag (Reading.read c.args.below) c.args.keyword.now (in_force c.args.types.now)
      (rest_of c.args.cursor.now) got.reads (sym c.takes.ensures.found ∙ c.if-not-takes.true)
      ∙ ap (λ v. with_parts (node Kinds.Enum c.args.keyword.now) got.trees v)
      (sym (c.takes.ensures.left c.if-not-takes.true)) in
      MatchResult-weaker c.tag_alone.result (c.tag_alone.ensures.tree got.trees refl refl
      (holds_at c.takes.ensures.nodes got.holds))
      (λ y g. got_same same (got_on {mid = c.tag.new.cursor} got.grows (got_from c.takes.ensures.nodes g)))
      (λ e f. fails_same e same f));
}

pub declaration_specifiers::enum_specifier-returns-in_err-parts :
    goal.declaration_specifiers::enum_specifier-returns-in_err-parts
declaration_specifiers::enum_specifier-returns-in_err-parts t c =
    let p = err_from_is_err_and c.from_residual-in_err-parts.result c.from_residual-in_err-parts.ensures.1 in
    rw (p.1, p.2) (record {
      size = tt;
      low = tt;
      tree =
          let got = c.in_ok-start.ensures.tree in
          let same = enum_listed (Reading.read c.args.below) c.args.keyword.now (in_force c.args.types.now)
          (rest_of c.args.cursor.now) got.reads (sym c.takes.ensures.found ∙ c.if-not-takes.false)
          ∙ ap (λ v. after got.trees (Reading.listed_in_braces (Reading.read c.args.below) Enumerator
          (in_force c.args.types.now) v) >>= λ a. Some (node Kinds.Enum c.args.keyword.now a.0, a.1))
          (sym (c.takes.ensures.taken c.if-not-takes.false)) in
          (fails_same _ same (fails_bind _ _ _
          (c.in_err-parts.ensures.tree got.trees (holds_at c.takes.ensures.nodes got.holds))));
    })

pub declaration_specifiers::enum_specifier-returns : goal.declaration_specifiers::enum_specifier-returns
declaration_specifiers::enum_specifier-returns t c = record {
  size = IfOk-weaker c.join.result _ _
      (λ p e. owes (then_owed {m = 0} (then_paid
      (owed_paid {m = 8} c.in_ok-start.ensures.size
      (took c.tag.new.cursor c.takes.new.self c.takes.ensures.nodes
      (c.takes.ensures.shorter c.if-not-takes.false)) refl)
      c.in_ok-parts.ensures.size)
      (noded c.braced.new.cursor c.join.new.self e c.join.ensures.rest) refl)) c.join.ensures.size;
  low = IfOk-weaker c.join.result _ _
      (λ p e. omega (arith, e, c.in_ok-parts.ensures.low)) c.join.ensures.low;
  tree = (let got = c.in_ok-start.ensures.tree in
      let same = enum_listed (Reading.read c.args.below) c.args.keyword.now (in_force c.args.types.now)
      (rest_of c.args.cursor.now) got.reads (sym c.takes.ensures.found ∙ c.if-not-takes.false)
      ∙ ap (λ v. after got.trees (Reading.listed_in_braces (Reading.read c.args.below) Enumerator
      (in_force c.args.types.now) v) >>= λ a. Some (node Kinds.Enum c.args.keyword.now a.0, a.1))
      (sym (c.takes.ensures.taken c.if-not-takes.false)) in
      MatchResult-weaker c.join.result c.join.ensures.tree
      (λ part made. got_same same (got_on {mid = c.tag.new.cursor} got.grows
      (got_from c.takes.ensures.nodes (got_node Kinds.Enum c.args.keyword.now
      (c.in_ok-parts.ensures.tree got.trees (holds_at c.takes.ensures.nodes got.holds)) made c.join.ensures.rest
      c.place.ensures refl))))
      (λ e same. fails_memory e _ same));
}

pub phrases::enumerator-returns-in_default : goal.phrases::enumerator-returns-in_default
phrases::enumerator-returns-in_default t c = record {
  size = tt;
  low = tt;
  tree = enumerator_end (Reading.read c.args.below) (suc c.args.below)
      (in_force c.args.types.now) c.in_default.ensures.rest;
}

pub phrases::enumerator-returns-then-not-is_declared_by : goal.phrases::enumerator-returns-then-not-is_declared_by
phrases::enumerator-returns-then-not-is_declared_by t c = record {
  size = tt;
  low = tt;
  tree = enumerator_not (Reading.read c.args.below) (suc c.args.below)
      (in_force c.args.types.now) c.in-Some.ensures.rest
      (sym c.is_declared_by.ensures ∙ c.if-not-is_declared_by.true);
}

pub phrases::enumerator-returns-then-not-takes : goal.phrases::enumerator-returns-then-not-takes
phrases::enumerator-returns-then-not-takes t c = record {
  size = IfOk-weaker c.leaf.result _ _
      (λ p e. then_owed (then_owed {m = 8} (took c.args.cursor.now c.take.new.self c.take.ensures.nodes
      c.in-Some.ensures.size)
      (stayed c.take.new.self c.takes.new.self c.takes.ensures.nodes (c.takes.ensures.left c.if-not-takes.true)) refl)
      (noded c.takes.new.self c.leaf.new.self e c.leaf.ensures.rest) refl) c.leaf.ensures.size;
  low = IfOk-weaker c.leaf.result _ _
      (λ p e. omega (arith, e)) c.leaf.ensures.low;
  tree = (let same = enumerator_bare (Reading.read c.args.below) (suc c.args.below)
      (in_force c.args.types.now) c.in-Some.ensures.rest
      (sym c.is_declared_by.ensures ∙ c.if-not-is_declared_by.false)
      (sym c.takes.ensures.found ∙ c.if-not-takes.true) in
      MatchResult-weaker c.leaf.result (and_ok c.leaf.result _ _ _ c.leaf.ensures.tree c.leaf.ensures.grows)
      (λ part m. got_leaf c.takes.new.self (c.takes.ensures.nodes ∙ c.take.ensures.nodes) m.1 c.leaf.ensures.rest
      (same ∙ ap (λ v. Some (node Kinds.Enumerator c.in-Some.name nil, v))
      (sym (c.takes.ensures.left c.if-not-takes.true))) (m.0 refl))
      (λ e same. fails_memory e _ same));
}

pub phrases::enumerator-returns : goal.phrases::enumerator-returns
phrases::enumerator-returns t c = record {
  size = IfOk-weaker c.node.result _ _
      (λ p q. then_owed (then_paid (took c.args.cursor.now c.take.new.self c.take.ensures.nodes c.in-Some.ensures.size)
      (took c.take.new.self c.takes.new.self c.takes.ensures.nodes
      (c.takes.ensures.shorter c.if-not-takes.false))) q refl) c.node.ensures.size;
  low = c.node.ensures.low;
  tree = (let same = enumerator_value (Reading.read c.args.below) (suc c.args.below) (in_force c.args.types.now)
      c.in-Some.ensures.rest (sym c.is_declared_by.ensures ∙ c.if-not-is_declared_by.false)
      (sym c.takes.ensures.found ∙ c.if-not-takes.false)
      ∙ ap (λ v. made_by (Reading.read c.args.below) Kinds.Enumerator c.in-Some.name
      (Steps.Read (Phrases.Expression 2) ∷ []) nil (in_force c.args.types.now) v)
      (sym (c.takes.ensures.taken c.if-not-takes.false)) in
      MatchResult-weaker c.node.result (c.node.ensures.tree nil (λ zs. c.place.ensures)
      (λ zs. refl) c.no_parts-none.ensures.none)
      (λ y g. got_same same (got_from (c.takes.ensures.nodes ∙ c.take.ensures.nodes) g))
      (λ e f. fails_same e same f));
}

pub expressions::expression-returns-in_err-part : goal.expressions::expression-returns-in_err-part
unfolding Reading.expression
expressions::expression-returns-in_err-part t c =
    let p = err_from_is_err_and c.from_residual.result c.from_residual.ensures.1 in
    rw (p.1, p.2) (record {
      size = tt;
      low = tt;
      tree =
          (fails_bind _ _ _ c.in_err-part.ensures.tree);
    })

pub expressions::expression-returns-then-level_of-level : goal.expressions::expression-returns-then-level_of-level
unfolding Reading.expression
expressions::expression-returns-then-level_of-level t c = record {
  size = tt;
  low = tt;
  tree = (let at = c.in_ok-part.ensures.tree in
      bind_is _ at.reads ∙ else_is _ (shut_le c.args.level (level at.tree)
      (let a = level_kept at.means in let b = c.level_of.ensures in let l = c.if-level_of-level.true in omega arith)));
}

pub expressions::expression-returns : goal.expressions::expression-returns
unfolding Reading.expression
expressions::expression-returns t c = record {
  size = IfOk-weaker c.climb.result _ _
      (λ p q. then_owed c.in_ok-part.ensures.size q refl) c.climb.ensures.size;
  low = c.climb.ensures.low;
  tree = (let at = c.in_ok-part.ensures.tree in
      let a = level_kept at.means in let b = c.level_of.ensures in let l = c.if-level_of-level.false in
      let same = bind_is _ at.reads ∙ then_is None (le-leb c.args.level (level at.tree) (omega arith)) in
      MatchResult-weaker c.climb.result (c.climb.ensures.tree at.tree at.means)
      (λ y g. got_same same (got_on at.grows g))
      (λ e f. fails_same e same f));
}

pub expressions::follow-returns-in_err-part-in-TypeName : goal.expressions::follow-returns-in_err-part-in-TypeName
expressions::follow-returns-in_err-part-in-TypeName t c =
    let p = err_from_is_err_and c.from_residual-in_err-part-in-TypeName.result
    c.from_residual-in_err-part-in-TypeName.ensures.1 in
    rw (p.1, p.2) (record {
      size = tt;
      low = tt;
      keeps = tt;
      tree =
          λ ys h. (fails_bind _ _ _ (fails_same _
          (ap (λ v. follow_from (Reading.read c.args.below) v (in_force c.args.types.now) (rest_of c.args.cursor.now))
          c.in-TypeName.is ∙ ap alone (type_name_is (Reading.read c.args.below) (in_force c.args.types.now)
          (rest_of c.args.cursor.now))) (fails_bind _ _ _ c.in_err-part-in-TypeName.ensures.tree)));
    })

pub expressions::follow-returns-in_ok-part-in-Read : goal.expressions::follow-returns-in_ok-part-in-Read
expressions::follow-returns-in_ok-part-in-Read t c = record {
  size = IfOk-weaker c.with.result _ _
      (λ p e. owes c.in_ok-part-in-Read.ensures.size) c.with.ensures.size;
  low = IfOk-weaker c.with.result _ _
      (λ p e. omega (arith, e, c.in_ok-part-in-Read.ensures.low, c.requires.start)) c.with.ensures.size;
  keeps = IfOk-weaker c.with.result _ _
      (λ p e. omega (arith, e)) c.with.ensures.size;
  tree = (λ ys h. followed _ c.with.result (ap (λ v.
      follow_from (Reading.read c.args.below) v (in_force c.args.types.now) (rest_of c.args.cursor.now)) c.in-Read.is)
      c.in_ok-part-in-Read.ensures.tree h c.with.ensures.kids c.with.ensures.size c.with.ensures.full);
}

pub expressions::follow-returns-in_ok-part-in-TypeName : goal.expressions::follow-returns-in_ok-part-in-TypeName
expressions::follow-returns-in_ok-part-in-TypeName t c = record {
  size = IfOk-weaker c.with-in-TypeName.result _ _
      (λ p e. owes c.in_ok-part-in-TypeName.ensures.size) c.with-in-TypeName.ensures.size;
  low = IfOk-weaker c.with-in-TypeName.result _ _
      (λ p e. omega (arith, e, c.in_ok-part-in-TypeName.ensures.low, c.requires.start)) c.with-in-TypeName.ensures.size;
  keeps = IfOk-weaker c.with-in-TypeName.result _ _
      (λ p e. omega (arith, e)) c.with-in-TypeName.ensures.size;
  tree = (λ ys h. followed _ c.with-in-TypeName.result
      (ap (λ v. follow_from (Reading.read c.args.below) v (in_force c.args.types.now) (rest_of c.args.cursor.now))
      c.in-TypeName.is ∙ ap alone (type_name_is (Reading.read c.args.below) (in_force c.args.types.now)
      (rest_of c.args.cursor.now))) c.in_ok-part-in-TypeName.ensures.tree h c.with-in-TypeName.ensures.kids
      c.with-in-TypeName.ensures.size c.with-in-TypeName.ensures.full);
}

pub expressions::follow-returns-then-starts-clause-tree : goal.expressions::follow-returns-then-starts-clause-tree
expressions::follow-returns-then-starts-clause-tree t c = λ ys h. record {
  trees = ys;
  holds = h;
  reads = ap (λ v. after ys v) (ap (λ v. follow_from (Reading.read c.args.below) v (in_force c.args.types.now)
      (rest_of c.args.cursor.now)) c.in-Listed.is
      ∙ listed_none (Reading.read c.args.below) (in_force c.args.types.now) (rest_of c.args.cursor.now)
      (goal_of c.in-Listed.what) (ap (λ v. starts is_close_parenthesis v) (sym c.rest.ensures) ∙ sym c.starts.ensures
      ∙ c.if-starts.true)) ∙ ap (λ v. Some (v, (rest_of c.args.cursor.now))) (joined_nil ys);
  grows = grows_same;
}

pub expressions::follow-returns-else-starts : goal.expressions::follow-returns-else-starts
expressions::follow-returns-else-starts t c = record {
  size = IfOk-weaker c.separated.result _ _
      (λ p q. owes q) c.separated.ensures.size;
  low = c.separated.ensures.low;
  keeps = c.separated.ensures.keeps;
  tree = (λ ys h.
      let same = ap (λ v. after ys v) (ap (λ v.
      follow_from (Reading.read c.args.below) v (in_force c.args.types.now) (rest_of c.args.cursor.now))
      c.in-Listed.is ∙ listed_some (Reading.read c.args.below) (in_force c.args.types.now)
      (rest_of c.args.cursor.now) (goal_of c.in-Listed.what)
      (ap (λ v. starts is_close_parenthesis v) (sym c.rest.ensures) ∙ sym c.starts.ensures ∙ c.if-starts.false))
      in
      MatchResult-weaker c.separated.result (c.separated.ensures.tree ys h) (λ y g. parts_same same g)
      (λ e f. fails_same e same f));
}

pub expressions::follow-returns-in_ok-expect-in-Expect-clause-tree :
    goal.expressions::follow-returns-in_ok-expect-in-Expect-clause-tree
expressions::follow-returns-in_ok-expect-in-Expect-clause-tree t c = λ ys h. record {
  trees = ys;
  holds = holds_at c.expect.ensures.nodes h;
  reads = ap (λ v. after ys v) (ap (λ v. follow_from (Reading.read c.args.below) v (in_force c.args.types.now)
      (rest_of c.args.cursor.now)) c.in-Expect.is
      ∙ bind_is (λ rest. Some (nil, rest)) c.in_ok-expect-in-Expect.ensures.found)
      ∙ ap (λ v. Some (v, rest_of c.expect.new.self)) (joined_nil ys);
  grows = grows_to grows_same (sym c.expect.ensures.nodes);
}

pub declarators::function-returns-in_err-parts : goal.declarators::function-returns-in_err-parts
declarators::function-returns-in_err-parts t c =
    let p = err_from_is_err_and c.from_residual.result c.from_residual.ensures.1 in
    rw (p.1, p.2) (record {
      size = tt;
      low = tt;
      taller = tt;
      tree =
          λ x m. (function_high (Reading.read c.args.below) c.args.below x c.args.item.now
          (in_force c.args.types.now) (rest_of c.args.cursor.now) _ (c.in_err-parts.ensures.tree x m));
    })

pub declarators::function-returns-in_err-listed : goal.declarators::function-returns-in_err-listed
declarators::function-returns-in_err-listed t c =
    let p = err_from_is_err_and c.from_residual-in_err-listed.result c.from_residual-in_err-listed.ensures.1 in
    rw (p.1, p.2) (record {
      size = tt;
      low = tt;
      taller = tt;
      tree =
          λ x m. (function_unlisted (Reading.read c.args.below) c.args.below x c.args.item.now
          (in_force c.args.types.now) (rest_of c.args.cursor.now) _
          (c.in_err-listed.ensures.tree nil c.no_parts-none.ensures.none));
    })

pub declarators::function-returns-in_err-expect : goal.declarators::function-returns-in_err-expect
declarators::function-returns-in_err-expect t c =
    let p = err_from_is_err_and c.from_residual-in_err-expect.result c.from_residual-in_err-expect.ensures.1 in
    rw (p.1, p.2) (record {
      size = tt;
      low = tt;
      taller = tt;
      tree =
          λ x m. (let listed = c.in_ok-listed.ensures.tree nil c.no_parts-none.ensures.none in
          function_unclosed (Reading.read c.args.below) c.args.below x c.args.item.now (in_force c.args.types.now)
          (rest_of c.args.cursor.now) _ listed.reads c.in_err-expect.ensures.found);
    })

pub declarators::function-returns : goal.declarators::function-returns
declarators::function-returns t c = record {
  size = IfOk-weaker c.make.result _ _
      (λ p e. owes (then_owed {m = 6} (then_owed {m = 7} (owed_paid {m = 8} c.in_ok-listed.ensures.size
      (took c.follow.new.cursor c.expect.new.self c.expect.ensures.nodes c.in_ok-expect.ensures.size) refl)
      (noded c.expect.new.self c.join.new.self c.in_ok-parameters.ensures.size c.join.ensures.rest) refl)
      (noded c.join.new.self c.make.new.self e.0 c.make.ensures.rest) refl)) c.make.ensures.size;
  low = IfOk-weaker c.make.result _ _
      (λ p e. omega (
        arith,
        e,
        c.in_ok-push.ensures.size,
        c.in_ok-parts.ensures.low,
        c.in_ok-parameters.ensures.low,
        c.in_ok-listed.ensures.low,
      )) c.make.ensures.low;
  taller = IfOk-weaker c.make.result _ _
      (λ p e. omega (
        arith,
        e.1,
        c.in_ok-push.ensures.size,
        c.in_ok-parts.ensures.size,
        ap weight c.in_ok-parts.ensures.kind,
      )) c.make.ensures.size;
  tree = (λ x m.
      let parts = c.in_ok-parts.ensures.tree x m in
      let listed = c.in_ok-listed.ensures.tree nil c.no_parts-none.ensures.none in
      let joined = c.in_ok-parameters.ensures.tree in
      let nodes = c.expect.ensures.nodes in
      let parameters = node Kinds.Parameters c.args.item.now listed.trees in
      let grown = grows_on (grows_to listed.grows (sym nodes)) joined.grows in
      let low = c.in_ok-parts.ensures.low in
      let low' = c.in_ok-listed.ensures.low in
      let tall = c.in_ok-parameters.ensures.low in
      let size = c.in_ok-push.ensures.size in
      MatchResult-weaker c.make.result (and_ok c.make.result _ _ _ c.make.ensures.tree c.make.ensures.low)
      (λ y g. got_grown (suc c.args.below) (function_is (Reading.read c.args.below) c.args.below x c.args.item.now
      (in_force c.args.types.now) (rest_of c.args.cursor.now) listed.reads c.in_ok-expect.ensures.found)
      (let l = g.1 in omega arith)
      (made_got c.join.new.self grown g.0 (begins_function x parameters parts.1)
      (holds_more (holds_on grown parts.0) (joined.means listed.trees c.place.ensures refl
      (holds_at nodes listed.holds)) c.in_ok-push.ensures.kids c.in_ok-push.ensures.size)
      (ap (λ v. Some (node Kinds.Function c.args.item.now (then_one (parts_of x) parameters), v))
      (sym (c.make.ensures.rest ∙ c.in_ok-parameters.ensures.rest)))))
      (λ e f. fails_memory e _ f));
}

pub phrases::initializer-returns-in_default-clause-tree : goal.phrases::initializer-returns-in_default-clause-tree
phrases::initializer-returns-in_default-clause-tree t c =
    let same = initializer_plain (Reading.read c.args.below) (suc c.args.below) (in_force c.args.types.now)
    (rest_of c.args.cursor.now) c.in_default.ensures.other
    ∙ ap (λ v. Reading.expression (Reading.read c.args.below) (suc c.args.below) 1
    (in_force c.args.types.now) v) (sym c.in_default.ensures.left) in
    MatchResult-weaker c.expression.result c.expression.ensures.tree
    (λ y g. got_same same (got_from c.in_default.ensures.nodes g)) (λ e f. fails_same e same f)

pub phrases::initializer-returns-then-takes : goal.phrases::initializer-returns-then-takes
phrases::initializer-returns-then-takes t c = record {
  size = IfOk-weaker c.leaf.result _ _
      (λ p e. then_owed (then_paid (took c.args.cursor.now c.take_if.new.self c.take_if.ensures.nodes
      c.in-Some.ensures.size)
      (took c.take_if.new.self c.takes.new.self c.takes.ensures.nodes
      (c.takes.ensures.shorter c.if-takes.true)))
      (noded c.takes.new.self c.leaf.new.self e c.leaf.ensures.rest) refl) c.leaf.ensures.size;
  low = IfOk-weaker c.leaf.result _ _
      (λ p e. omega (arith, e)) c.leaf.ensures.low;
  tree = MatchResult-weaker c.leaf.result (and_ok c.leaf.result _ _ _ c.leaf.ensures.tree c.leaf.ensures.grows)
      (λ y g. record {
        tree = node Kinds.BracedInitializer c.in-Some.brace nil;
        means = g.0 refl;
        reads = (initializer_braces (Reading.read c.args.below) (suc c.args.below)
            (in_force c.args.types.now) c.in-Some.ensures.rest c.in-Some.ensures.found)
            ∙ braces_empty (Reading.read c.args.below) (suc c.args.below) (in_force c.args.types.now)
            (rest_of c.take_if.new.self) (sym c.takes.ensures.found ∙ c.if-takes.true)
            ∙ ap (λ v. Some (node Kinds.BracedInitializer c.in-Some.brace nil, v))
            (sym (c.leaf.ensures.rest ∙ c.takes.ensures.taken c.if-takes.true));
        grows = grows_from (c.takes.ensures.nodes ∙ c.in-Some.ensures.nodes) g.1;
      })
      (λ e f. fails_memory e _ f);
}

pub phrases::initializer-returns-in_err-parts : goal.phrases::initializer-returns-in_err-parts
phrases::initializer-returns-in_err-parts t c =
    let p = err_from_is_err_and c.from_residual.result c.from_residual.ensures.1 in
    rw (p.1, p.2) (record {
      size = tt;
      low = tt;
      tree =
          (fails_same _ (initializer_braces (Reading.read c.args.below) (suc c.args.below)
          (in_force c.args.types.now) c.in-Some.ensures.rest c.in-Some.ensures.found)
          (braces_fail (Reading.read c.args.below) (suc c.args.below) (in_force c.args.types.now)
          (rest_of c.take_if.new.self) c.in-Some.brace _ (sym c.takes.ensures.found ∙ c.if-takes.false)
          (fails_same _ (ap (λ v. after nil (Reading.listed_in_braces (Reading.read c.args.below) Initializer
          (in_force c.args.types.now) v)) (sym (c.takes.ensures.left c.if-takes.false)))
          (c.in_err-parts.ensures.tree nil c.no_parts-none.ensures.none))));
    })

pub phrases::initializer-returns : goal.phrases::initializer-returns
phrases::initializer-returns t c = record {
  size = IfOk-weaker c.join.result _ _
      (λ p e. then_owed (then_paid (then_owed {m = 8}
      (took c.args.cursor.now c.take_if.new.self c.take_if.ensures.nodes c.in-Some.ensures.size)
      (stayed c.take_if.new.self c.takes.new.self c.takes.ensures.nodes
      (c.takes.ensures.left c.if-takes.false)) refl) c.in_ok-parts.ensures.size)
      (noded c.braced.new.cursor c.join.new.self e c.join.ensures.rest) refl) c.join.ensures.size;
  low = IfOk-weaker c.join.result _ _
      (λ p e. omega (arith, e, c.in_ok-parts.ensures.low)) c.join.ensures.low;
  tree = (let parts = c.in_ok-parts.ensures.tree nil c.no_parts-none.ensures.none in
      MatchResult-weaker c.join.result c.join.ensures.tree
      (λ y joined. record {
        tree = node Kinds.BracedInitializer c.in-Some.brace parts.trees;
        means = joined.means parts.trees c.place.ensures refl parts.holds;
        reads = (initializer_braces (Reading.read c.args.below) (suc c.args.below)
            (in_force c.args.types.now) c.in-Some.ensures.rest c.in-Some.ensures.found)
            ∙ braces_is (Reading.read c.args.below) (suc c.args.below) (in_force c.args.types.now)
            (rest_of c.take_if.new.self) (sym c.takes.ensures.found ∙ c.if-takes.false)
            (ap (λ v. after nil (Reading.listed_in_braces (Reading.read c.args.below) Initializer
            (in_force c.args.types.now) v)) (sym (c.takes.ensures.left c.if-takes.false)) ∙ parts.reads)
            ∙ ap (λ v. Some (node Kinds.BracedInitializer c.in-Some.brace parts.trees, v)) (sym c.join.ensures.rest);
        grows = grows_from (c.takes.ensures.nodes ∙ c.in-Some.ensures.nodes) (grows_on parts.grows joined.grows);
      })
      (λ e f. fails_memory e _ f));
}

pub expressions::longer-returns-then-left-below : goal.expressions::longer-returns-then-left-below
expressions::longer-returns-then-left-below t c = record {
  size = tt;
  low = tt;
  taller = tt;
  tree = (λ x m. too_high (Reading.read c.args.below) (suc c.args.below) x c.args.item.now (in_force c.args.types.now)
      (let l = m.tall in let n = c.if-left-below.true in omega arith) (tail_of (symbol c.args.item.now))
      (rest_of c.args.cursor.now));
}

pub expressions::longer-returns-in-Indexes : goal.expressions::longer-returns-in-Indexes
expressions::longer-returns-in-Indexes t c = record {
  size = c.node.ensures.size;
  low = c.node.ensures.low;
  taller = IfOk-weaker c.node.result _ _
      (λ p e. omega (arith, e, c.in_ok-start.ensures.size)) c.node.ensures.taller;
  tree = (λ x m.
      let same = ap (λ k. Reading.longer (Reading.read c.args.below) (suc c.args.below) k x c.args.item.now
      (in_force c.args.types.now) (rest_of c.args.cursor.now))
      (ap tail_of (sym c.symbol.ensures) ∙ sym c.tail_of.ensures ∙ c.in-Indexes.is)
      ∙ index_is (Reading.read c.args.below) (suc c.args.below) x c.args.item.now (in_force c.args.types.now)
      (rest_of c.args.cursor.now) in
      MatchResult-weaker c.node.result (and_ok c.node.result _ _ _
      (c.node.ensures.tree (one x) (λ zs. m.root.first) (λ zs. refl) (c.in_ok-start.ensures.one x m))
      c.node.ensures.low)
      (λ y g. got_grown (suc c.args.below) same (let l = g.1 in omega arith) g.0)
      (λ e f. fails_grown _ (suc c.args.below) e same f));
}

pub expressions::longer-returns-in-Calls : goal.expressions::longer-returns-in-Calls
expressions::longer-returns-in-Calls t c = record {
  size = c.node-in-Calls.ensures.size;
  low = c.node-in-Calls.ensures.low;
  taller = IfOk-weaker c.node-in-Calls.result _ _
      (λ p e. omega (arith, e, c.in_ok-start.ensures.size)) c.node-in-Calls.ensures.taller;
  tree = (λ x m.
      let same = ap (λ k. Reading.longer (Reading.read c.args.below) (suc c.args.below) k x c.args.item.now
      (in_force c.args.types.now) (rest_of c.args.cursor.now))
      (ap tail_of (sym c.symbol.ensures) ∙ sym c.tail_of.ensures ∙ c.in-Calls.is)
      ∙ call_is (Reading.read c.args.below) (suc c.args.below) x c.args.item.now (in_force c.args.types.now)
      (rest_of c.args.cursor.now) in
      MatchResult-weaker c.node-in-Calls.result
      (and_ok c.node-in-Calls.result _ _ _ (c.node-in-Calls.ensures.tree (one x) (λ zs. m.root.first) (λ zs. refl)
      (c.in_ok-start.ensures.one x m)) c.node-in-Calls.ensures.low)
      (λ y g. got_grown (suc c.args.below) same (let l = g.1 in omega arith) g.0)
      (λ e f. fails_grown _ (suc c.args.below) e same f));
}

pub expressions::longer-returns-in-Selects : goal.expressions::longer-returns-in-Selects
expressions::longer-returns-in-Selects t c = record {
  size = c.select.ensures.size;
  low = c.select.ensures.low;
  taller = IfOk-weaker c.select.result _ _
      (λ p e. omega (arith, e, c.in_ok-start.ensures.size)) c.select.ensures.taller;
  tree = (λ x m.
      let same = ap (λ k. Reading.longer (Reading.read c.args.below) (suc c.args.below) k x c.args.item.now
      (in_force c.args.types.now) (rest_of c.args.cursor.now))
      (ap tail_of (sym c.symbol.ensures) ∙ sym c.tail_of.ensures ∙ c.in-Selects.is) in
      MatchResult-weaker c.select.result (c.select.ensures.tree x m.root.first (c.in_ok-start.ensures.one x m))
      (λ y g. got_same same g) (λ e f. fails_same e same f));
}

pub expressions::longer-returns-in-Joins : goal.expressions::longer-returns-in-Joins
expressions::longer-returns-in-Joins t c = record {
  size = c.join_operand.ensures.size;
  low = c.join_operand.ensures.low;
  taller = IfOk-weaker c.join_operand.result _ _
      (λ p e. omega (arith, e, c.in_ok-start.ensures.size)) c.join_operand.ensures.taller;
  tree = (λ x m.
      let same = ap (λ k. Reading.longer (Reading.read c.args.below) (suc c.args.below) k x c.args.item.now
      (in_force c.args.types.now) (rest_of c.args.cursor.now))
      (ap tail_of (sym c.symbol.ensures) ∙ sym c.tail_of.ensures ∙ c.in-Joins.is)
      ∙ infix_is (Reading.read c.args.below) (suc c.args.below) x c.args.item.now (in_force c.args.types.now)
      (rest_of c.args.cursor.now) c.in-Joins.operator _ (ap (λ v. v + 1) c.infix_level.ensures.level) in
      MatchResult-weaker c.join_operand.result
      (and_ok c.join_operand.result _ _ _ (c.join_operand.ensures.tree (one x) (λ zs. m.root.first) (λ zs. refl)
      (c.in_ok-start.ensures.one x m)) c.join_operand.ensures.low)
      (λ y g. got_grown (suc c.args.below) same (let l = g.1 in omega arith) g.0)
      (λ e f. fails_grown _ (suc c.args.below) e same f));
}

pub expressions::longer-returns-in-Asks : goal.expressions::longer-returns-in-Asks
expressions::longer-returns-in-Asks t c = record {
  size = c.node-in-Asks.ensures.size;
  low = c.node-in-Asks.ensures.low;
  taller = IfOk-weaker c.node-in-Asks.result _ _
      (λ p e. omega (arith, e, c.in_ok-start.ensures.size)) c.node-in-Asks.ensures.taller;
  tree = (λ x m.
      let same = ap (λ k. Reading.longer (Reading.read c.args.below) (suc c.args.below) k x c.args.item.now
      (in_force c.args.types.now) (rest_of c.args.cursor.now))
      (ap tail_of (sym c.symbol.ensures) ∙ sym c.tail_of.ensures ∙ c.in-Asks.is)
      ∙ choice_is (Reading.read c.args.below) (suc c.args.below) x c.args.item.now (in_force c.args.types.now)
      (rest_of c.args.cursor.now) in
      MatchResult-weaker c.node-in-Asks.result (and_ok c.node-in-Asks.result _ _ _
      (c.node-in-Asks.ensures.tree (one x) (λ zs. m.root.first) (λ zs. refl) (c.in_ok-start.ensures.one x m))
      c.node-in-Asks.ensures.low)
      (λ y g. got_grown (suc c.args.below) same (let l = g.1 in omega arith) g.0)
      (λ e f. fails_grown _ (suc c.args.below) e same f));
}

pub expressions::longer-returns-in-Assigns : goal.expressions::longer-returns-in-Assigns
expressions::longer-returns-in-Assigns t c = record {
  size = c.join_operand-in-Assigns.ensures.size;
  low = c.join_operand-in-Assigns.ensures.low;
  taller = IfOk-weaker c.join_operand-in-Assigns.result _ _
      (λ p e. omega (arith, e, c.in_ok-start.ensures.size)) c.join_operand-in-Assigns.ensures.taller;
  tree = (λ x m.
      let same = ap (λ k. Reading.longer (Reading.read c.args.below) (suc c.args.below) k x c.args.item.now
      (in_force c.args.types.now) (rest_of c.args.cursor.now))
      (ap tail_of (sym c.symbol.ensures) ∙ sym c.tail_of.ensures ∙ c.in-Assigns.is)
      ∙ assign_is (Reading.read c.args.below) (suc c.args.below) x c.args.item.now (in_force c.args.types.now)
      (rest_of c.args.cursor.now) c.in-Assigns.operator in
      MatchResult-weaker c.join_operand-in-Assigns.result
      (and_ok c.join_operand-in-Assigns.result _ _ _ (c.join_operand-in-Assigns.ensures.tree (one x) (λ zs. m.root.first) (λ zs. refl)
      (c.in_ok-start.ensures.one x m)) c.join_operand-in-Assigns.ensures.low)
      (λ y g. got_grown (suc c.args.below) same (let l = g.1 in omega arith) g.0)
      (λ e f. fails_grown _ (suc c.args.below) e same f));
}

pub expressions::measure-returns-then-opens_type : goal.expressions::measure-returns-then-opens_type
unfolding Reading.measure_from
expressions::measure-returns-then-opens_type t c = record {
  size = IfOk-weaker c.node.result _ _ (λ p q. owed_owed (passed c.args.cursor.now c.advance.new.self
      c.advance.ensures.nodes c.advance.ensures.rest) q) c.node.ensures.size;
  low = c.node.ensures.low;
  tree = (let same = then_is _ (ap (opens_type (in_force c.args.types.now)) (sym c.rest.ensures)
      ∙ sym c.opens_type.ensures
      ∙ c.if-opens_type.true) ∙ ap (λ v. Reading.size_from (Reading.read c.args.below)
      (suc c.args.below) c.args.item.now (in_force c.args.types.now) v) (sym c.advance.ensures.rest)
      ∙ size_is (Reading.read c.args.below) (suc c.args.below) c.args.item.now (in_force c.args.types.now)
      (rest_of c.advance.new.self) in
      MatchResult-weaker c.node.result (c.node.ensures.tree nil (λ zs. c.place.ensures) (λ zs. refl)
      (holds_at c.advance.ensures.nodes c.no_parts-none.ensures.none))
      (λ y g. got_same same (got_from c.advance.ensures.nodes g))
      (λ e f. fails_same e same f));
}

pub expressions::measure-returns-else-opens_type : goal.expressions::measure-returns-else-opens_type
unfolding Reading.measure_from
expressions::measure-returns-else-opens_type t c = record {
  size = c.node-else-opens_type.ensures.size;
  low = c.node-else-opens_type.ensures.low;
  tree = (let same = else_is _ (ap (opens_type (in_force c.args.types.now)) (sym c.rest.ensures)
      ∙ sym c.opens_type.ensures ∙ c.if-opens_type.false) ∙ measured_is (Reading.read c.args.below)
      (suc c.args.below) c.args.item.now (in_force c.args.types.now) (rest_of c.args.cursor.now) in
      MatchResult-weaker c.node-else-opens_type.result
      (c.node-else-opens_type.ensures.tree nil (λ zs. c.place-else-opens_type.ensures)
      (λ zs. refl) c.no_parts-none.ensures.none)
      (λ y g. got_same same g)
      (λ e f. fails_same e same f));
}

pub phrases::member-returns-in_err-specifiers : goal.phrases::member-returns-in_err-specifiers
unfolding Reading.member
phrases::member-returns-in_err-specifiers t c =
    let p = err_from_is_err_and c.from_residual.result c.from_residual.ensures.1 in
    rw (p.1, p.2) (record {
      size = tt;
      low = tt;
      tree =
          (fails_bind _ _ _ c.in_err-specifiers.ensures.tree);
    })

pub phrases::member-returns-in_err-parts-2 : goal.phrases::member-returns-in_err-parts-2
phrases::member-returns-in_err-parts-2 t c =
    let p = err_from_is_err_and c.from_residual-in_err-parts-2.result c.from_residual-in_err-parts-2.ensures.1 in
    rw (p.1, p.2) (record {
      size = tt;
      low = tt;
      tree =
          let got = c.in_ok-specifiers.ensures.tree.part in
          (fails_same _ (member_is (Reading.read c.args.below) (suc c.args.below) (in_force c.args.types.now)
          (rest_of c.args.cursor.now) (rest_of c.specifiers.new.cursor) got.tree got.reads)
          (fails_bind _ _ _ (c.in_err-parts-2.ensures.tree (one got.tree)
          (c.in_ok-parts.ensures.one got.tree got.means))));
    })

pub phrases::member-returns-in_err-expect : goal.phrases::member-returns-in_err-expect
phrases::member-returns-in_err-expect t c =
    let p = err_from_is_err_and c.from_residual-in_err-expect.result c.from_residual-in_err-expect.ensures.1 in
    rw (p.1, p.2) (record {
      size = tt;
      low = tt;
      tree =
          let got = c.in_ok-specifiers.ensures.tree.part in
          let sub = c.in_ok-parts-2.ensures.tree (one got.tree) (c.in_ok-parts.ensures.one got.tree got.means) in
          (fails_same _ (member_is (Reading.read c.args.below) (suc c.args.below) (in_force c.args.types.now)
          (rest_of c.args.cursor.now) (rest_of c.specifiers.new.cursor) got.tree got.reads ∙ bind_is _ sub.reads)
          (fails_bind _ _ _ c.in_err-expect.ensures.found));
    })

pub phrases::member-returns : goal.phrases::member-returns
phrases::member-returns t c = record {
  size = IfOk-weaker c.make.result _ _
      (λ p e. then_owed (then_paid (then_paid c.in_ok-specifiers.ensures.size c.in_ok-parts-2.ensures.size)
      (took c.separated.new.cursor c.expect.new.self c.expect.ensures.nodes c.in_ok-expect.ensures.size))
      (noded c.expect.new.self c.make.new.self e.0 c.make.ensures.rest) refl) c.make.ensures.size;
  low = IfOk-weaker c.make.result _ _
      (λ p e. omega (arith, e, c.in_ok-parts-2.ensures.low)) c.make.ensures.low;
  tree = (let got = c.in_ok-specifiers.ensures.tree.part in
      let sub = c.in_ok-parts-2.ensures.tree (one got.tree) (c.in_ok-parts.ensures.one got.tree got.means) in
      MatchResult-weaker c.make.result c.make.ensures.tree
      (λ part made. record {
        tree = node Kinds.Member (own_token got.tree) sub.trees;
        means = made.means (own_token got.tree) sub.trees
            (record { kind = refl; own = got.means.root.own; first = got.means.root.own; names = refl })
            (holds_at c.in_ok-expect.ensures.nodes sub.holds);
        reads = member_is (Reading.read c.args.below) (suc c.args.below) (in_force c.args.types.now)
            (rest_of c.args.cursor.now) (rest_of c.specifiers.new.cursor) got.tree got.reads ∙ bind_is _ sub.reads
            ∙ bind_is _ c.in_ok-expect.ensures.found
            ∙ ap (λ v. Some (node Kinds.Member (own_token got.tree) sub.trees, v)) (sym c.make.ensures.rest);
        grows = grows_on got.grows (grows_on sub.grows (grows_from c.in_ok-expect.ensures.nodes made.grows));
      })
      (λ e same. fails_memory e _ same));
}

pub declaration_specifiers::members-returns-in_err-part : goal.declaration_specifiers::members-returns-in_err-part
declaration_specifiers::members-returns-in_err-part t c =
    let p = err_from_is_err_and c.from_residual.result c.from_residual.ensures.1 in
    rw (p.1, p.2) (record {
      size = tt;
      low = tt;
      tree =
          λ ys turns much m. (fills_not c.args.cursor.now c.args.below
          (in_force c.args.types.now) ys _ turns much c.in_err-part.ensures.tree);
    })

pub declaration_specifiers::members-returns-in_err-part-2 : goal.declaration_specifiers::members-returns-in_err-part-2
declaration_specifiers::members-returns-in_err-part-2 t c =
    let p = err_from_is_err_and c.from_residual-in_err-part-2.result c.from_residual-in_err-part-2.ensures.1 in
    rw (p.1, p.2) (record {
      size = tt;
      low = tt;
      tree =
          λ ys turns much m. (fills_fail _ (c.list.invariant.fills ys turns much m)
          (ap (starts is_close_brace) (sym c.rest.ensures) ∙ sym c.starts.ensures ∙ c.list-test.true)
          c.in_err-part-2.ensures.tree);
    })

pub declaration_specifiers::members-returns : goal.declaration_specifiers::members-returns
declaration_specifiers::members-returns t c = record {
  size = pays (then_paid c.list.invariant.size
      (took c.list.cursor c.expect.new.self c.expect.ensures.nodes c.in_ok-expect.ensures.size)) refl;
  low = c.list.invariant.low;
  tree = (λ ys turns much m. fills_end (c.list.invariant.fills ys turns much m)
      (ap (starts is_close_brace) (sym c.rest.ensures) ∙ sym c.starts.ensures ∙ c.list-test.false)
      c.in_ok-expect.ensures.found c.in_ok-expect.ensures.nodes);
}

pub declaration_specifiers::members-list-init : goal.declaration_specifiers::members-list-init
declaration_specifiers::members-list-init t c =
    let q = c.in_ok-part.ensures.size in let low = c.in_ok-part.ensures.low in
    let tall = c.in_ok-push.ensures.size in let begun = c.requires.start in
    record {
      size = q;
      low = omega arith;
      fills = λ ys turns much m. fills_begin turns much m c.in_ok-part.ensures.tree q.shorter
          c.in_ok-push.ensures.kids c.in_ok-push.ensures.size;
    }

pub declaration_specifiers::members-list-preserved : goal.declaration_specifiers::members-list-preserved
declaration_specifiers::members-list-preserved t c = let s = c.list.invariant.size in let low = c.list.invariant.low in
    let room = s.room in let shorter = s.shorter in let grows = s.grows in
    let q = c.in_ok-part-2.ensures.size in let room' = q.room in let shorter' = q.shorter in let grows' = q.grows in
    let low' = c.in_ok-part-2.ensures.low in let tall = c.in_ok-push-2.ensures.size in
    record {
      size = record { room = omega arith; shorter = omega arith; grows = omega arith };
      low = omega arith;
      fills = λ ys turns much m. fills_step (c.list.invariant.fills ys turns much m)
          (ap (starts is_close_brace) (sym c.rest.ensures) ∙ sym c.starts.ensures ∙ c.list-test.true)
          c.in_ok-part-2.ensures.tree q.shorter c.in_ok-push-2.ensures.kids c.in_ok-push-2.ensures.size;
    }

pub declarators::next_suffix-returns-in_default : goal.declarators::next_suffix-returns-in_default
declarators::next_suffix-returns-in_default t c = record {
  size = tt;
  none = (refl, refl);
  low = tt;
  taller = tt;
  tree = (λ x m. core_none refl refl (ap (λ v. next_from (Reading.read c.args.below) (suc c.args.below) x
      (in_force c.args.types.now) v) c.in_default.ensures ∙ ap (λ v. Some (None, v)) (sym c.in_default.ensures)));
}

pub declarators::next_suffix-returns-then-takes : goal.declarators::next_suffix-returns-then-takes
declarators::next_suffix-returns-then-takes t c = record {
  size = then_owed (took c.args.cursor.now c.takes.new.self c.takes.ensures.nodes
      (c.takes.ensures.shorter c.if-takes.true)) c.in_ok-part.ensures.size refl;
  none = tt;
  low = c.in_ok-part.ensures.low;
  taller = c.in_ok-part.ensures.taller;
  tree = (λ x m. next_got c.takes.ensures.nodes
      (next_array (Reading.read c.args.below) (suc c.args.below) x (in_force c.args.types.now) c.in-Some.ensures
      (sym c.takes.ensures.found ∙ c.if-takes.true)
      ∙ ap (λ v. Reading.array_from (Reading.read c.args.below) (suc c.args.below) x c.in-Some.item
      (in_force c.args.types.now) v >>= λ b. Some (Some b.0, b.1)) (sym (c.takes.ensures.taken c.if-takes.true)))
      (c.in_ok-part.ensures.tree x (option_at c.takes.ensures.nodes m)));
}

pub declarators::next_suffix-returns-then-takes-2 : goal.declarators::next_suffix-returns-then-takes-2
declarators::next_suffix-returns-then-takes-2 t c = record {
  size = then_owed (took c.args.cursor.now c.takes-2.new.self (c.takes-2.ensures.nodes ∙ c.takes.ensures.nodes)
      (ap length (sym (c.takes.ensures.left c.if-takes.false))
      ∙ c.takes-2.ensures.shorter c.if-takes-2.true)) c.in_ok-part-2.ensures.size refl;
  none = tt;
  low = c.in_ok-part-2.ensures.low;
  taller = c.in_ok-part-2.ensures.taller;
  tree = (λ x m. next_got (c.takes-2.ensures.nodes ∙ c.takes.ensures.nodes)
      (next_function (Reading.read c.args.below) (suc c.args.below) x (in_force c.args.types.now) c.in-Some.ensures
      (sym c.takes.ensures.found ∙ c.if-takes.false)
      (ap (λ v. starts is_open_parenthesis v) (sym (c.takes.ensures.left c.if-takes.false))
      ∙ sym c.takes-2.ensures.found ∙ c.if-takes-2.true)
      ∙ ap (λ v. Reading.function_from (Reading.read c.args.below) (suc c.args.below) x c.in-Some.item
      (in_force c.args.types.now) v >>= λ b. Some (Some b.0, b.1))
      (sym (c.takes-2.ensures.taken c.if-takes-2.true ∙ ap past (c.takes.ensures.left c.if-takes.false))))
      (c.in_ok-part-2.ensures.tree x (option_at (c.takes-2.ensures.nodes ∙ c.takes.ensures.nodes) m)));
}

pub declarators::next_suffix-returns : goal.declarators::next_suffix-returns
declarators::next_suffix-returns t c = record {
  size = tt;
  none = (
    c.takes-2.ensures.left c.if-takes-2.false ∙ c.takes.ensures.left c.if-takes.false,
    c.takes-2.ensures.nodes ∙ c.takes.ensures.nodes,
  );
  low = tt;
  taller = tt;
  tree = (λ x m. core_none (c.takes-2.ensures.nodes ∙ c.takes.ensures.nodes)
      (c.takes-2.ensures.left c.if-takes-2.false ∙ c.takes.ensures.left c.if-takes.false)
      (next_none (Reading.read c.args.below) (suc c.args.below) x (in_force c.args.types.now)
      (rest_of c.args.cursor.now)
      (sym c.takes.ensures.found ∙ c.if-takes.false)
      (ap (λ v. starts is_open_parenthesis v) (sym (c.takes.ensures.left c.if-takes.false))
      ∙ sym c.takes-2.ensures.found ∙ c.if-takes-2.false)));
}

pub expressions::join_operand-returns : goal.expressions::join_operand-returns
expressions::join_operand-returns t c = record {
  size = IfOk-weaker c.join.result _ _
      (λ p e. owed_owed {k = 0} (owes c.in_ok-part.ensures.size)
      (noded c.read.new.cursor c.join.new.self e c.join.ensures.rest))
      c.join.ensures.size;
  low = IfOk-weaker c.join.result _ _
      (λ p e. omega (
        arith,
        e,
        c.in_ok-parts.ensures.size,
        c.in_ok-part.ensures.low,
        c.requires.start,
        weight_low c.args.kind,
      )) c.join.ensures.low;
  taller = IfOk-weaker c.join.result _ _
      (λ p e. omega (arith, e, c.in_ok-parts.ensures.size)) c.join.ensures.low;
  tree = (λ ys first names holds.
      let types = in_force c.args.types.now in
      let tokens = rest_of c.args.cursor.now in
      let step = Steps.Read (Phrases.Expression c.args.level) in
      let last = followed (follow_from (Reading.read c.args.below) step types tokens) (Ok c.in_ok-parts.parts) refl
      c.in_ok-part.ensures.tree holds c.in_ok-parts.ensures.kids c.in_ok-parts.ensures.size tt in
      let all = bind_is (λ a. run (Reading.read c.args.below) [] a.0 types a.1) last.reads in
      let whole = given (run_begins (Reading.read c.args.below) (step ∷ []) ys types tokens) all in
      MatchResult-weaker c.join.result c.join.ensures.tree
      (λ part made. record {
        tree = node c.args.kind c.args.item.now last.trees;
        means = made.means last.trees (subst (λ v.
            IsPlaceOf c.args.first (first_token (node c.args.kind c.args.item.now v))) (sym whole.1) (first whole.0))
            (subst (λ v. declared_names (node c.args.kind c.args.item.now v) ≡ []) (sym whole.1) (names whole.0))
            last.holds;
        reads = bind_is (λ a. Some (node c.args.kind c.args.item.now a.0, a.1)) all
            ∙ ap (λ v. Some (node c.args.kind c.args.item.now last.trees, v)) (sym c.join.ensures.rest);
        grows = grows_on last.grows made.grows;
      })
      (λ e same. fails_memory e _ same));
}

pub expressions::join_operand-returns-in_err-part : goal.expressions::join_operand-returns-in_err-part
expressions::join_operand-returns-in_err-part t c =
    let p = err_from_is_err_and c.from_residual.result c.from_residual.ensures.1 in
    rw (p.1, p.2) (record {
      size = tt;
      low = tt;
      taller = tt;
      tree = λ ys first names h.
          fails_bind _ _ _ (fails_bind _ _ _ (fails_bind _ _ _ (fails_bind _ _ _ c.in_err-part.ensures.tree)));
    })

pub expressions::node-returns : goal.expressions::node-returns
expressions::node-returns t c = record {
  size = IfOk-weaker c.join.result _ _
      (λ p e. owed_owed c.in_ok-parts.ensures.size
      (noded c.production.new.cursor c.join.new.self e c.join.ensures.rest))
      c.join.ensures.size;
  low = IfOk-weaker c.join.result _ _
      (λ p e. omega (arith, e, c.in_ok-parts.ensures.low, weight_low c.args.kind)) c.join.ensures.low;
  taller = IfOk-weaker c.join.result _ _
      (λ p e. omega (arith, e, c.in_ok-parts.ensures.keeps)) c.join.ensures.low;
  tree = (λ ys first names holds.
      let run = c.in_ok-parts.ensures.tree ys holds in
      let whole = given (run_begins (Reading.read c.args.below) c.args.steps.now ys (in_force c.args.types.now)
      (rest_of c.args.cursor.now)) run.reads in
      MatchResult-weaker c.join.result c.join.ensures.tree
      (λ part made. record {
        tree = node c.args.kind c.args.item.now run.trees;
        means = made.means run.trees (subst (λ v.
            IsPlaceOf c.args.first (first_token (node c.args.kind c.args.item.now v))) (sym whole.1) (first whole.0))
            (subst (λ v. declared_names (node c.args.kind c.args.item.now v) ≡ []) (sym whole.1) (names whole.0))
            run.holds;
        reads = bind_is (λ a. Some (node c.args.kind c.args.item.now a.0, a.1)) run.reads
            ∙ ap (λ v. Some (node c.args.kind c.args.item.now run.trees, v)) (sym c.join.ensures.rest);
        grows = grows_on run.grows made.grows;
      })
      (λ e same. fails_memory e _ same));
}

pub expressions::operand-returns-in_default : goal.expressions::operand-returns-in_default
expressions::operand-returns-in_default t c = record {
  size = tt;
  low = tt;
  tree = operand_none c.args.below (in_force c.args.types.now) (rest_of c.args.cursor.now) c.in_default.ensures.rest;
}

pub expressions::operand-returns-then-has : goal.expressions::operand-returns-then-has
expressions::operand-returns-then-has t c = record {
  size = tt;
  low = tt;
  tree = operand_at c.args.below (in_force c.args.types.now) (rest_of c.args.cursor.now)
      (rest_of c.take.new.self) c.in-Some.item _ c.in-Some.ensures.rest
      (ap head_of (sym c.symbol.ensures) ∙ sym c.head_of.ensures ∙ c.in-Name.is)
      ∙ then_is _ (sym c.has.ensures ∙ c.if-has.true);
}

pub expressions::operand-returns-else-has : goal.expressions::operand-returns-else-has
expressions::operand-returns-else-has t c = record {
  size = IfOk-weaker c.leaf.result _ _
      (λ p e. then_owed (took c.args.cursor.now c.take.new.self c.take.ensures.nodes c.in-Some.ensures.size)
      (noded c.take.new.self c.leaf.new.self e c.leaf.ensures.rest) refl) c.leaf.ensures.size;
  low = IfOk-weaker c.leaf.result _ _
      (λ p e. omega (arith, e)) c.leaf.ensures.low;
  tree = (let same = operand_at c.args.below (in_force c.args.types.now) (rest_of c.args.cursor.now)
      (rest_of c.take.new.self) c.in-Some.item _ c.in-Some.ensures.rest
      (ap head_of (sym c.symbol.ensures) ∙ sym c.head_of.ensures ∙ c.in-Name.is)
      ∙ else_is _ (sym c.has.ensures ∙ c.if-has.false) in
      MatchResult-weaker c.leaf.result (and_ok c.leaf.result _ _ _ c.leaf.ensures.tree c.leaf.ensures.grows)
      (λ part m. got_leaf c.take.new.self c.take.ensures.nodes m.1 c.leaf.ensures.rest same (m.0 refl))
      (λ e same. fails_memory e _ same));
}

pub expressions::operand-returns-in-Number : goal.expressions::operand-returns-in-Number
expressions::operand-returns-in-Number t c = record {
  size = IfOk-weaker c.leaf-in-Number.result _ _
      (λ p e. then_owed (took c.args.cursor.now c.take.new.self c.take.ensures.nodes c.in-Some.ensures.size)
      (noded c.take.new.self c.leaf-in-Number.new.self e c.leaf-in-Number.ensures.rest) refl)
      c.leaf-in-Number.ensures.size;
  low = IfOk-weaker c.leaf-in-Number.result _ _
      (λ p e. omega (arith, e)) c.leaf-in-Number.ensures.low;
  tree = (let same = operand_at c.args.below (in_force c.args.types.now) (rest_of c.args.cursor.now)
      (rest_of c.take.new.self) c.in-Some.item _ c.in-Some.ensures.rest
      (ap head_of (sym c.symbol.ensures) ∙ sym c.head_of.ensures ∙ c.in-Number.is) in
      MatchResult-weaker c.leaf-in-Number.result
      (and_ok c.leaf-in-Number.result _ _ _ c.leaf-in-Number.ensures.tree c.leaf-in-Number.ensures.grows)
      (λ part m. got_leaf c.take.new.self c.take.ensures.nodes m.1 c.leaf-in-Number.ensures.rest same (m.0 refl))
      (λ e same. fails_memory e _ same));
}

pub expressions::operand-returns-in-Character : goal.expressions::operand-returns-in-Character
expressions::operand-returns-in-Character t c = record {
  size = IfOk-weaker c.leaf-in-Character.result _ _
      (λ p e. then_owed (took c.args.cursor.now c.take.new.self c.take.ensures.nodes c.in-Some.ensures.size)
      (noded c.take.new.self c.leaf-in-Character.new.self e c.leaf-in-Character.ensures.rest) refl)
      c.leaf-in-Character.ensures.size;
  low = IfOk-weaker c.leaf-in-Character.result _ _
      (λ p e. omega (arith, e)) c.leaf-in-Character.ensures.low;
  tree = (let same = operand_at c.args.below (in_force c.args.types.now) (rest_of c.args.cursor.now)
      (rest_of c.take.new.self) c.in-Some.item _ c.in-Some.ensures.rest
      (ap head_of (sym c.symbol.ensures) ∙ sym c.head_of.ensures ∙ c.in-Character.is) in
      MatchResult-weaker c.leaf-in-Character.result
      (and_ok c.leaf-in-Character.result _ _ _ c.leaf-in-Character.ensures.tree c.leaf-in-Character.ensures.grows)
      (λ part m. got_leaf c.take.new.self c.take.ensures.nodes m.1 c.leaf-in-Character.ensures.rest same (m.0 refl))
      (λ e same. fails_memory e _ same));
}

pub expressions::operand-returns-in-Text : goal.expressions::operand-returns-in-Text
expressions::operand-returns-in-Text t c = record {
  size = IfOk-weaker c.text.result _ _
      (λ p q. then_owed (took c.args.cursor.now c.take.new.self c.take.ensures.nodes c.in-Some.ensures.size) q refl)
      c.text.ensures.size;
  low = c.text.ensures.low;
  tree = (let same = operand_at c.args.below (in_force c.args.types.now) (rest_of c.args.cursor.now)
      (rest_of c.take.new.self) c.in-Some.item _ c.in-Some.ensures.rest
      (ap head_of (sym c.symbol.ensures) ∙ sym c.head_of.ensures ∙ c.in-Text.is) in
      MatchResult-weaker c.text.result c.text.ensures.tree (λ y g. got_same same (got_from c.take.ensures.nodes g))
      (λ e f. fails_same e same f));
}

pub expressions::operand-returns-then-start : goal.expressions::operand-returns-then-start
expressions::operand-returns-then-start t c = record {
  size = IfOk-weaker c.node.result _ _
      (λ p q. then_owed (took c.args.cursor.now c.take.new.self c.take.ensures.nodes c.in-Some.ensures.size) q refl)
      c.node.ensures.size;
  low = c.node.ensures.low;
  tree = (let same = operand_at c.args.below (in_force c.args.types.now) (rest_of c.args.cursor.now)
      (rest_of c.take.new.self) c.in-Some.item _ c.in-Some.ensures.rest
      (ap head_of (sym c.symbol.ensures) ∙ sym c.head_of.ensures ∙ c.in-Opens.is)
      ∙ then_is _ (ap (starts_with (begins_type (in_force c.args.types.now))) (sym c.rest.ensures)
      ∙ sym c.start.ensures ∙ c.if-start.true)
      ∙ cast_is (Reading.read c.args.below) (suc c.args.below) c.in-Some.item (in_force c.args.types.now)
      (rest_of c.take.new.self) in
      MatchResult-weaker c.node.result (c.node.ensures.tree nil (λ zs. c.place-own.ensures)
      (λ zs. refl) c.no_parts-none.ensures.none) (λ y g. got_same same (got_from c.take.ensures.nodes g))
      (λ e f. fails_same e same f));
}

pub expressions::operand-returns-else-start : goal.expressions::operand-returns-else-start
expressions::operand-returns-else-start t c = record {
  size = IfOk-weaker c.node-else-start.result _ _
      (λ p q. then_owed (took c.args.cursor.now c.take.new.self c.take.ensures.nodes c.in-Some.ensures.size) q refl)
      c.node-else-start.ensures.size;
  low = c.node-else-start.ensures.low;
  tree = (let same = operand_at c.args.below (in_force c.args.types.now) (rest_of c.args.cursor.now)
      (rest_of c.take.new.self) c.in-Some.item _ c.in-Some.ensures.rest
      (ap head_of (sym c.symbol.ensures) ∙ sym c.head_of.ensures ∙ c.in-Opens.is)
      ∙ else_is _ (ap (starts_with (begins_type (in_force c.args.types.now))) (sym c.rest.ensures)
      ∙ sym c.start.ensures ∙ c.if-start.false)
      ∙ parenthesized_is (Reading.read c.args.below) (suc c.args.below) c.in-Some.item (in_force c.args.types.now)
      (rest_of c.take.new.self) in
      MatchResult-weaker c.node-else-start.result
      (c.node-else-start.ensures.tree nil (λ zs. c.place-own.ensures) (λ zs. refl) c.no_parts-none.ensures.none)
      (λ y g. got_same same (got_from c.take.ensures.nodes g)) (λ e f. fails_same e same f));
}

pub expressions::operand-returns-in-Prefixes : goal.expressions::operand-returns-in-Prefixes
expressions::operand-returns-in-Prefixes t c = record {
  size = IfOk-weaker c.node-in-Prefixes.result _ _
      (λ p q. then_owed (took c.args.cursor.now c.take.new.self c.take.ensures.nodes c.in-Some.ensures.size) q refl)
      c.node-in-Prefixes.ensures.size;
  low = c.node-in-Prefixes.ensures.low;
  tree = (let same = operand_at c.args.below (in_force c.args.types.now) (rest_of c.args.cursor.now)
      (rest_of c.take.new.self) c.in-Some.item _ c.in-Some.ensures.rest
      (ap head_of (sym c.symbol.ensures) ∙ sym c.head_of.ensures ∙ c.in-Prefixes.is)
      ∙ prefix_is (Reading.read c.args.below) (suc c.args.below) c.in-Some.item (in_force c.args.types.now)
      (rest_of c.take.new.self) c.in-Prefixes.operator _ c.operand_level.ensures in
      MatchResult-weaker c.node-in-Prefixes.result
      (c.node-in-Prefixes.ensures.tree nil (λ zs. c.place-own.ensures)
      (λ zs. refl) c.no_parts-none-in-Prefixes.ensures.none)
      (λ y g. got_same same (got_from c.take.ensures.nodes g)) (λ e f. fails_same e same f));
}

pub expressions::operand-returns-in-Measures : goal.expressions::operand-returns-in-Measures
expressions::operand-returns-in-Measures t c = record {
  size = IfOk-weaker c.measure.result _ _
      (λ p q. then_owed (took c.args.cursor.now c.take.new.self c.take.ensures.nodes c.in-Some.ensures.size) q refl)
      c.measure.ensures.size;
  low = c.measure.ensures.low;
  tree = (let same = operand_at c.args.below (in_force c.args.types.now) (rest_of c.args.cursor.now)
      (rest_of c.take.new.self) c.in-Some.item _ c.in-Some.ensures.rest
      (ap head_of (sym c.symbol.ensures) ∙ sym c.head_of.ensures ∙ c.in-Measures.is) in
      MatchResult-weaker c.measure.result c.measure.ensures.tree
      (λ y g. got_same same (got_from c.take.ensures.nodes g))
      (λ e f. fails_same e same f));
}

pub expressions::operand-returns-in-NoHead : goal.expressions::operand-returns-in-NoHead
expressions::operand-returns-in-NoHead t c = record {
  size = tt;
  low = tt;
  tree = operand_at c.args.below (in_force c.args.types.now) (rest_of c.args.cursor.now)
      (rest_of c.take.new.self) c.in-Some.item _ c.in-Some.ensures.rest
      (ap head_of (sym c.symbol.ensures) ∙ sym c.head_of.ensures ∙ c.in-NoHead.is);
}

pub declarators::optional_declarator-returns-in_err-part : goal.declarators::optional_declarator-returns-in_err-part
declarators::optional_declarator-returns-in_err-part t c =
    let p = err_from_is_err_and c.from_residual.result c.from_residual.ensures.1 in
    rw (p.1, p.2) (record {
      size = tt;
      low = tt;
      tree =
          (optional_fails (Reading.read c.args.below) (naming_of c.args.naming) (in_force c.args.types.now)
          (rest_of c.args.cursor.now) _ (ap (λ v. starts begins_declarator v) (sym c.rest.ensures)
          ∙ sym c.begins_declarator.ensures ∙ c.if-begins_declarator.true) c.in_err-part.ensures.tree);
    })

pub declarators::optional_declarator-returns-then-begins_declarator :
    goal.declarators::optional_declarator-returns-then-begins_declarator
declarators::optional_declarator-returns-then-begins_declarator t c = record {
  size = owes c.in_ok-part.ensures.size;
  low = c.in_ok-part.ensures.low;
  tree = (let at = c.in_ok-part.ensures.tree in
      record {
        tree = Some at.tree;
        means = there at.means;
        reads = optional_is (Reading.read c.args.below) (naming_of c.args.naming) (in_force c.args.types.now)
            (rest_of c.args.cursor.now) (ap (λ v. starts begins_declarator v) (sym c.rest.ensures)
            ∙ sym c.begins_declarator.ensures ∙ c.if-begins_declarator.true) at.reads;
        grows = at.grows;
      });
}

pub declarators::optional_declarator-returns-then-may_be_nameless-clause-tree :
    goal.declarators::optional_declarator-returns-then-may_be_nameless-clause-tree
declarators::optional_declarator-returns-then-may_be_nameless-clause-tree t c =
    record {
      tree = None;
      means = missing;
      reads = optional_none (Reading.read c.args.below) (naming_of c.args.naming) (in_force c.args.types.now)
          (rest_of c.args.cursor.now) (ap (λ v. starts begins_declarator v) (sym c.rest.ensures)
          ∙ sym c.begins_declarator.ensures ∙ c.if-begins_declarator.false)
          (sym c.may_be_nameless.ensures ∙ c.if-may_be_nameless.true);
      grows = grows_same;
    }

pub declarators::optional_declarator-returns-else-may_be_nameless :
    goal.declarators::optional_declarator-returns-else-may_be_nameless
declarators::optional_declarator-returns-else-may_be_nameless t c = record {
  size = tt;
  low = tt;
  tree = optional_missing (Reading.read c.args.below) (naming_of c.args.naming) (in_force c.args.types.now)
      (rest_of c.args.cursor.now) (ap (λ v. starts begins_declarator v) (sym c.rest.ensures)
      ∙ sym c.begins_declarator.ensures ∙ c.if-begins_declarator.false)
      (sym c.may_be_nameless.ensures ∙ c.if-may_be_nameless.false);
}

pub phrases::parameter_or_type_name-returns-in_err-parts :
    goal.phrases::parameter_or_type_name-returns-in_err-parts
phrases::parameter_or_type_name-returns-in_err-parts t c =
    let p = err_from_is_err_and c.from_residual-in_err-parts.result c.from_residual-in_err-parts.ensures.1 in
    rw (p.1, p.2) (record {
      size = tt;
      low = tt;
      tree =
          (fails_memory _ _ c.in_err-parts.ensures.tree);
    })

pub phrases::parameter_or_type_name-returns : goal.phrases::parameter_or_type_name-returns
phrases::parameter_or_type_name-returns t c = record {
  size = IfOk-weaker c.make.result _ _
      (λ p e. then_owed (then_owed {m = 5} c.in_ok-specifiers.ensures.size c.in_ok-declarator.ensures.size refl)
      (noded c.optional_declarator.new.cursor c.make.new.self e.0 c.make.ensures.rest) refl) c.make.ensures.size;
  low = IfOk-weaker c.make.result _ _
      (λ p e. omega (
        arith,
        e.1,
        c.in_ok-parts.ensures.size,
        c.in_ok-specifiers.ensures.low,
        height_some c.args.below c.in_ok-declarator.declarator c.in_ok-declarator.ensures.low,
      )) c.make.ensures.size;
  tree = (let s = c.in_ok-specifiers.ensures.tree.part in
      let d = c.in_ok-declarator.ensures.tree in
      MatchResult-weaker c.make.result c.make.ensures.tree
      (λ y made. made_got c.optional_declarator.new.cursor (grows_on s.grows d.grows) made
      (specifying_root c.args.kind (own_token s.tree)
      (more s.tree (parts_of d.tree)) c.requires.kind refl s.means.root.own s.means.root.own refl)
      (c.in_ok-parts.ensures.tree s.tree d.tree (means_on d.grows s.means) d.means)
      (specified_is (Reading.read c.args.below) c.args.kind (naming_of c.args.naming) (in_force c.args.types.now)
      (rest_of c.args.cursor.now) s.reads d.reads
      ∙ ap (λ v. Some (node c.args.kind (own_token s.tree) (more s.tree (parts_of d.tree)), v))
      (sym c.make.ensures.rest)))
      (λ e f. fails_memory e _ f));
}

pub phrases::read-returns-then-budget-eq0 : goal.phrases::read-returns-then-budget-eq0
phrases::read-returns-then-budget-eq0 t c = record {
  size = tt;
  low = tt;
  tree = read_none _ _ _ _ c.if-budget-eq0.true;
}

pub phrases::read-returns-in-Expression : goal.phrases::read-returns-in-Expression
phrases::read-returns-in-Expression t c = record {
  size = c.expression.ensures.size;
  low = IfOk-weaker c.expression.result _ _
      (λ p e. omega (arith, e, c.if-budget-eq0.false)) c.expression.ensures.low;
  tree = reads_lower c.args.budget (c.args.budget - 1) (goal_of c.args.phrase) (Expression c.in-Expression.level)
      (in_force c.args.types.now) c.args.cursor.now c.expression.new.cursor c.expression.result
      (ap goal_of c.in-Expression.is) (let n = c.if-budget-eq0.false in omega arith) c.expression.ensures.tree;
}

pub phrases::read-returns-in-Declarator : goal.phrases::read-returns-in-Declarator
phrases::read-returns-in-Declarator t c = record {
  size = c.declarator.ensures.size;
  low = IfOk-weaker c.declarator.result _ _
      (λ p e. omega (arith, e, c.if-budget-eq0.false)) c.declarator.ensures.low;
  tree = reads_lower c.args.budget (c.args.budget - 1) (goal_of c.args.phrase)
      (Declarator (naming_of c.in-Declarator.naming)) (in_force c.args.types.now)
      c.args.cursor.now c.declarator.new.cursor c.declarator.result
      (ap goal_of c.in-Declarator.is) (let n = c.if-budget-eq0.false in omega arith) c.declarator.ensures.tree;
}

pub phrases::read-returns-in-Parameter : goal.phrases::read-returns-in-Parameter
unfolding Reading.parameter
phrases::read-returns-in-Parameter t c = record {
  size = c.parameter_or_type_name.ensures.size;
  low = IfOk-weaker c.parameter_or_type_name.result _ _
      (λ p e. omega (arith, e, c.if-budget-eq0.false)) c.parameter_or_type_name.ensures.low;
  tree = reads_lower c.args.budget (c.args.budget - 1) (goal_of c.args.phrase) Parameter
      (in_force c.args.types.now) c.args.cursor.now c.parameter_or_type_name.new.cursor c.parameter_or_type_name.result
      (ap goal_of c.in-Parameter.is) (let n = c.if-budget-eq0.false in omega arith)
      c.parameter_or_type_name.ensures.tree;
}

pub phrases::read-returns-in-Member : goal.phrases::read-returns-in-Member
phrases::read-returns-in-Member t c = record {
  size = c.member.ensures.size;
  low = IfOk-weaker c.member.result _ _
      (λ p e. omega (arith, e, c.if-budget-eq0.false)) c.member.ensures.low;
  tree = reads_lower c.args.budget (c.args.budget - 1) (goal_of c.args.phrase) Member
      (in_force c.args.types.now) c.args.cursor.now c.member.new.cursor c.member.result
      (ap goal_of c.in-Member.is) (let n = c.if-budget-eq0.false in omega arith) c.member.ensures.tree;
}

pub phrases::read-returns-in-Enumerator : goal.phrases::read-returns-in-Enumerator
phrases::read-returns-in-Enumerator t c = record {
  size = c.enumerator.ensures.size;
  low = IfOk-weaker c.enumerator.result _ _
      (λ p e. omega (arith, e, c.if-budget-eq0.false)) c.enumerator.ensures.low;
  tree = reads_lower c.args.budget (c.args.budget - 1) (goal_of c.args.phrase) Enumerator
      (in_force c.args.types.now) c.args.cursor.now c.enumerator.new.cursor c.enumerator.result
      (ap goal_of c.in-Enumerator.is) (let n = c.if-budget-eq0.false in omega arith) c.enumerator.ensures.tree;
}

pub phrases::read-returns-in-Initializer : goal.phrases::read-returns-in-Initializer
phrases::read-returns-in-Initializer t c = record {
  size = c.initializer.ensures.size;
  low = IfOk-weaker c.initializer.result _ _
      (λ p e. omega (arith, e, c.if-budget-eq0.false)) c.initializer.ensures.low;
  tree = reads_lower c.args.budget (c.args.budget - 1) (goal_of c.args.phrase) Initializer
      (in_force c.args.types.now) c.args.cursor.now c.initializer.new.cursor c.initializer.result
      (ap goal_of c.in-Initializer.is) (let n = c.if-budget-eq0.false in omega arith) c.initializer.ensures.tree;
}

pub declaration_specifiers::record_specifier-returns-then-not-takes :
    goal.declaration_specifiers::record_specifier-returns-then-not-takes
declaration_specifiers::record_specifier-returns-then-not-takes t c = record {
  size = IfOk-weaker c.tag_alone.result _ _
      (λ p e. owed_owed (owed_owed c.in_ok-start.ensures.size
      (stayed c.tag.new.cursor c.takes.new.self c.takes.ensures.nodes (c.takes.ensures.left c.if-not-takes.true)))
      (noded c.takes.new.self c.tag_alone.new.cursor e c.tag_alone.ensures.rest)) c.tag_alone.ensures.size;
  low = IfOk-weaker c.tag_alone.result _ _
      (λ p e. omega (arith, e)) c.tag_alone.ensures.low;
  tree = (let got = c.in_ok-start.ensures.tree in
      let same = record_tag (Reading.read c.args.below) c.args.keyword.now (in_force c.args.types.now)
      (rest_of c.args.cursor.now) got.reads c.args.kind (sym c.takes.ensures.found ∙ c.if-not-takes.true)
      ∙ ap (λ v. with_parts (node (Kinds.Record c.args.kind) c.args.keyword.now) got.trees v)
      (sym (c.takes.ensures.left c.if-not-takes.true)) in
      MatchResult-weaker c.tag_alone.result (c.tag_alone.ensures.tree got.trees refl refl
      (holds_at c.takes.ensures.nodes got.holds))
      (λ y g. got_same same (got_on {mid = c.tag.new.cursor} got.grows (got_from c.takes.ensures.nodes g)))
      (λ e f. fails_same e same f));
}

pub declaration_specifiers::record_specifier-returns-in_err-parts :
    goal.declaration_specifiers::record_specifier-returns-in_err-parts
declaration_specifiers::record_specifier-returns-in_err-parts t c =
    let p = err_from_is_err_and c.from_residual-in_err-parts.result c.from_residual-in_err-parts.ensures.1 in
    rw (p.1, p.2) (record {
      size = tt;
      low = tt;
      tree =
          let got = c.in_ok-start.ensures.tree in let got_size = c.in_ok-start.ensures.size in
          let left = got_size.shorter in
          let taken = c.takes.ensures.shorter c.if-not-takes.false in
          let same = record_members (Reading.read c.args.below) c.args.keyword.now (in_force c.args.types.now)
          (rest_of c.args.cursor.now) got.reads c.args.kind (sym c.takes.ensures.found ∙ c.if-not-takes.false)
          ∙ ap (λ v. after got.trees (members_from (Reading.read c.args.below)
          (suc (length (rest_of c.args.cursor.now))) (in_force c.args.types.now) v)
          >>= λ a. Some (node (Kinds.Record c.args.kind) c.args.keyword.now a.0, a.1))
          (sym (c.takes.ensures.taken c.if-not-takes.false)) in
          (fails_same _ same (fails_bind _ _ _
          (c.in_err-parts.ensures.tree got.trees (suc (length (rest_of c.args.cursor.now))) (omega arith)
          (holds_at c.takes.ensures.nodes got.holds))));
    })

pub declaration_specifiers::record_specifier-returns : goal.declaration_specifiers::record_specifier-returns
declaration_specifiers::record_specifier-returns t c = record {
  size = IfOk-weaker c.join.result _ _
      (λ p e. owes (then_owed {m = 0} (then_paid
      (owed_paid {m = 8} c.in_ok-start.ensures.size
      (took c.tag.new.cursor c.takes.new.self c.takes.ensures.nodes
      (c.takes.ensures.shorter c.if-not-takes.false)) refl)
      c.in_ok-parts.ensures.size)
      (noded c.members.new.cursor c.join.new.self e c.join.ensures.rest) refl)) c.join.ensures.size;
  low = IfOk-weaker c.join.result _ _
      (λ p e. omega (arith, e, c.in_ok-parts.ensures.low)) c.join.ensures.low;
  tree = (let got = c.in_ok-start.ensures.tree in let got_size = c.in_ok-start.ensures.size in
      let left = got_size.shorter in
      let taken = c.takes.ensures.shorter c.if-not-takes.false in
      let same = record_members (Reading.read c.args.below) c.args.keyword.now (in_force c.args.types.now)
      (rest_of c.args.cursor.now) got.reads c.args.kind (sym c.takes.ensures.found ∙ c.if-not-takes.false)
      ∙ ap (λ v. after got.trees (members_from (Reading.read c.args.below)
      (suc (length (rest_of c.args.cursor.now))) (in_force c.args.types.now) v)
      >>= λ a. Some (node (Kinds.Record c.args.kind) c.args.keyword.now a.0, a.1))
      (sym (c.takes.ensures.taken c.if-not-takes.false)) in
      MatchResult-weaker c.join.result c.join.ensures.tree
      (λ part made. got_same same (got_on {mid = c.tag.new.cursor} got.grows
      (got_from c.takes.ensures.nodes (got_node (Kinds.Record c.args.kind) c.args.keyword.now
      (c.in_ok-parts.ensures.tree got.trees (suc (length (rest_of c.args.cursor.now))) (omega arith)
      (holds_at c.takes.ensures.nodes got.holds)) made c.join.ensures.rest c.place.ensures refl))))
      (λ e same. fails_memory e _ same));
}

pub phrases::separated-returns-in_err-part : goal.phrases::separated-returns-in_err-part
phrases::separated-returns-in_err-part t c =
    let p = err_from_is_err_and c.from_residual.result c.from_residual.ensures.1 in
    rw (p.1, p.2) (record {
      size = tt;
      low = tt;
      keeps = tt;
      tree =
          λ ys m. (separated_fails _ (Reading.read c.args.below) (length (rest_of c.args.cursor.now))
          (goal_of c.args.what) (in_force c.args.types.now) ys (rest_of c.args.cursor.now) c.in_err-part.ensures.tree);
    })

pub phrases::separated-list-init : goal.phrases::separated-list-init
phrases::separated-list-init t c =
    let q = c.in_ok-part.ensures.size in let low = c.in_ok-part.ensures.low in let tall = c.in_ok-push.ensures.size in
    let begun = c.requires.start in
    record {
      size = q;
      low = omega arith;
      keeps = omega arith;
      lists = λ ys m. lists_begin m c.in_ok-part.ensures.tree q.shorter c.in_ok-push.ensures.kids
          c.in_ok-push.ensures.size;
    }

pub phrases::separated-returns-in_err-part-2 : goal.phrases::separated-returns-in_err-part-2
phrases::separated-returns-in_err-part-2 t c =
    let p = err_from_is_err_and c.from_residual-in_err-part-2.result c.from_residual-in_err-part-2.ensures.1 in
    rw (p.1, p.2) (record {
      size = tt;
      low = tt;
      keeps = tt;
      tree =
          λ ys m. (lists_fail c.advance.new.self _ (c.list.invariant.lists ys m)
          (ap goes_on_listing (sym c.rest.ensures) ∙ sym c.goes_on_listing.ensures ∙ c.list-test.true)
          c.advance.ensures.rest c.in_err-part-2.ensures.tree);
    })

pub phrases::separated-list-preserved : goal.phrases::separated-list-preserved
phrases::separated-list-preserved t c =
    let s = c.list.invariant.size in let low = c.list.invariant.low in let keeps = c.list.invariant.keeps in
    let room = s.room in let shorter = s.shorter in let grows = s.grows in
    let q = c.in_ok-part-2.ensures.size in let room' = q.room in let shorter' = q.shorter in let grows' = q.grows in
    let low' = c.in_ok-part-2.ensures.low in let tall = c.in_ok-push-2.ensures.size in
    let on = ap goes_on_listing (sym c.rest.ensures) ∙ sym c.goes_on_listing.ensures ∙ c.list-test.true in
    let taken = past_shorter (rest_of c.list.cursor) on in let left = ap length c.advance.ensures.rest in
    let before = ap length c.advance.ensures.nodes in
    record {
      size = record { room = omega arith; shorter = omega arith; grows = omega arith };
      low = omega arith;
      keeps = omega arith;
      lists = λ ys m. lists_step (c.list.invariant.lists ys m) on c.advance.ensures.rest c.advance.ensures.nodes
          c.in_ok-part-2.ensures.tree q.shorter c.in_ok-push-2.ensures.kids c.in_ok-push-2.ensures.size;
    }

pub declaration_specifiers::specifier_list-returns-in_err-part :
    goal.declaration_specifiers::specifier_list-returns-in_err-part
declaration_specifiers::specifier_list-returns-in_err-part t c =
    let p = err_from_is_err_and c.from_residual.result c.from_residual.ensures.1 in
    rw (p.1, p.2) (record {
      size = tt;
      low = tt;
      tree =
          (gathers_fail c.take_specifier.new.cursor _ c.loop-item.invariant.gathers c.in-Some.ensures.rest
          c.in-Some.ensures.found c.in_err-part.ensures.tree);
    })

pub declaration_specifiers::specifier_list-returns-clause-tree :
    goal.declaration_specifiers::specifier_list-returns-clause-tree
declaration_specifiers::specifier_list-returns-clause-tree t c =
    gathers_end c.loop-item.invariant.gathers c.in_default.ensures.other c.in_default.ensures.nodes
    c.in_default.ensures.left

pub declaration_specifiers::specifier_list-loop-item-init : goal.declaration_specifiers::specifier_list-loop-item-init
declaration_specifiers::specifier_list-loop-item-init t c =
    let none = ap length (no_kids c.no_parts.ensures.none) in let flat = c.no_parts.ensures.size in
    record {
      size = record { room = omega arith; shorter = omega arith; grows = omega arith };
      low = omega arith;
      gathers = gathers_begin c.no_parts.ensures.none refl refl refl;
    }

pub declaration_specifiers::specifier_list-loop-item-preserved :
    goal.declaration_specifiers::specifier_list-loop-item-preserved
declaration_specifiers::specifier_list-loop-item-preserved t c =
    let s = c.loop-item.invariant.size in let low = c.loop-item.invariant.low in
    let room = s.room in let shorter = s.shorter in let grows = s.grows in
    let q = c.in_ok-part.ensures.size in let room' = q.room in let shorter' = q.shorter in let grows' = q.grows in
    let low' = c.in_ok-part.ensures.low in let tall = c.in_ok-gathered.ensures.size in
    let taken = c.in-Some.ensures.size in let before = ap length c.in-Some.ensures.nodes in
    let added = ap length c.in_ok-gathered.ensures.kids
    ∙ length-append c.loop-item.gathered.parts.kids.items (c.in_ok-part.part.number ∷ []) in
    record {
      size = record { room = omega arith; shorter = omega arith; grows = omega arith };
      low = omega arith;
      gathers = gathers_step c.loop-item.invariant.gathers c.in-Some.ensures.rest c.in-Some.ensures.found
          c.in-Some.ensures.nodes c.in_ok-part.ensures.tree shorter' c.in_ok-gathered.ensures.kids
          c.in_ok-gathered.ensures.size c.in_ok-gathered.ensures.gathered;
    }

pub declaration_specifiers::specifiers-returns-in_default : goal.declaration_specifiers::specifiers-returns-in_default
declaration_specifiers::specifiers-returns-in_default t c = record {
  size = tt;
  low = tt;
  tree = specifiers_end (Reading.read c.args.below) (in_force c.args.types.now) c.in_default.ensures;
}

pub declaration_specifiers::specifiers-returns-in_err-gathered :
    goal.declaration_specifiers::specifiers-returns-in_err-gathered
unfolding Reading.specifiers
declaration_specifiers::specifiers-returns-in_err-gathered t c =
    let p = err_from_is_err_and c.from_residual.result c.from_residual.ensures.1 in
    rw (p.1, p.2) (record {
      size = tt;
      low = tt;
      tree =
          (fails_bind _ _ _ c.in_err-gathered.ensures.tree);
    })

pub declaration_specifiers::specifiers-returns-then-is_empty :
    goal.declaration_specifiers::specifiers-returns-then-is_empty
declaration_specifiers::specifiers-returns-then-is_empty t c = record {
  size = tt;
  low = tt;
  tree = (let at = c.in_ok-gathered.ensures.tree in
      let none = eqb-true c.in_ok-gathered.gathered.parts.kids.len 0 (sym c.is_empty.ensures ∙ c.if-is_empty.true) in
      let held = c.in_ok-gathered.gathered.parts.kids.ok.0 in
      specifiers_none (Reading.read c.args.below) (in_force c.args.types.now)
      (rest_of c.args.cursor.now) _ _ at.parts.reads (holds_none at.parts.holds (no_items _ (omega arith))));
}

pub declaration_specifiers::specifiers-returns : goal.declaration_specifiers::specifiers-returns
declaration_specifiers::specifiers-returns t c = record {
  size = (let s = c.in_ok-gathered.ensures.size in let room = s.room in let shorter = s.shorter in
      let grows = s.grows in
      let more = c.in_ok-part.ensures.size in let left = ap length c.in_ok-part.ensures.rest in
      let some = eqb-false c.in_ok-gathered.gathered.parts.kids.len 0 (sym c.is_empty.ensures ∙ c.if-is_empty.false) in
      let held = c.in_ok-gathered.gathered.parts.kids.ok.0 in
      let many : 1 ≤ length c.in_ok-gathered.gathered.parts.kids.items = omega arith in
      record { room = omega arith; shorter = omega arith; grows = omega arith });
  low = omega (arith, c.in_ok-part.ensures.low, c.in_ok-gathered.ensures.low);
  tree = (let at = c.in_ok-gathered.ensures.tree in let made = c.in_ok-part.ensures.tree in
      let some = eqb-false c.in_ok-gathered.gathered.parts.kids.len 0 (sym c.is_empty.ensures ∙ c.if-is_empty.false) in
      let held = c.in_ok-gathered.gathered.parts.kids.ok.0 in
      let same = specifiers_are (Reading.read c.args.below) (in_force c.args.types.now) (rest_of c.args.cursor.now) _ _
      at.parts.reads c.in-Some.item _ c.in-Some.ensures
      (holds_some at.parts.holds (λ e. some (let l = ap length e in omega arith)))
      (sym (c.is_agreed.ensures at.parts.trees at.gathered) ∙ c.if-not-is_agreed.false) in
      record {
        part = record {
          tree = node Kinds.Specifiers c.in-Some.item at.parts.trees;
          means = made.means at.parts.trees c.place.ensures refl at.parts.holds;
          reads = same ∙ ap (λ v. Some (node Kinds.Specifiers c.in-Some.item at.parts.trees, v))
              (sym c.in_ok-part.ensures.rest);
          grows = grows_on at.parts.grows made.grows;
        };
        defines = at.gathered.defines;
        names = names_has at.gathered;
      });
}

pub declaration_specifiers::specifiers-returns-then-not-is_agreed :
    goal.declaration_specifiers::specifiers-returns-then-not-is_agreed
declaration_specifiers::specifiers-returns-then-not-is_agreed t c = record {
  size = tt;
  low = tt;
  tree = (let at = c.in_ok-gathered.ensures.tree in
      specifiers_apart (Reading.read c.args.below) (in_force c.args.types.now)
      (rest_of c.args.cursor.now) _ _ at.parts.reads
      (sym (c.is_agreed.ensures at.parts.trees at.gathered) ∙ c.if-not-is_agreed.true));
}

pub declarators::suffixes-loop-part-init : goal.declarators::suffixes-loop-part-init
declarators::suffixes-loop-part-init t c =
    record { size = unmoved refl refl refl; low = c.requires.start; suffixes = λ x m. suffixes_begin m }

pub declarators::suffixes-returns-in_err-part-clause-tree : goal.declarators::suffixes-returns-in_err-part-clause-tree
declarators::suffixes-returns-in_err-part-clause-tree t c =
    let p = err_from_is_err_and c.from_residual.result c.from_residual.ensures.1 in
    λ x m. rw (p.1, p.2) (let at = c.loop-part.invariant.suffixes x m in
    suffixes_fail _ at (let low = c.loop-part.invariant.low in omega arith)
    (c.in_err-part.ensures.tree at.tree at.means))

pub declarators::suffixes-loop-part-preserved : goal.declarators::suffixes-loop-part-preserved
declarators::suffixes-loop-part-preserved t c = record {
  size = paid_more c.loop-part.invariant.size
      (subst (λ v. IfSome v (λ _. Paid c.loop-part.cursor c.next_suffix.new.cursor 4)) c.in-Some.is
      c.in_ok-part.ensures.size);
  low = subst (λ v. IfSome v (λ p. p.height ≤ c.args.below + 1)) c.in-Some.is c.in_ok-part.ensures.low;
  suffixes = λ x m. let at = c.loop-part.invariant.suffixes x m in
      suffixes_more at (let low = c.loop-part.invariant.low in omega arith)
      (subst (λ v. IfSome v (λ p. height_of c.loop-part.inner < p.height)) c.in-Some.is c.in_ok-part.ensures.taller)
      (subst (λ v. GotCore c.loop-part.cursor c.next_suffix.new.cursor
      (next_from (Reading.read c.args.below) (suc c.args.below) at.tree (in_force c.args.types.now)
      (rest_of c.loop-part.cursor)) v) c.in-Some.is (c.in_ok-part.ensures.tree at.tree at.means));
}

pub declarators::suffixes-returns-clause-tree : goal.declarators::suffixes-returns-clause-tree
declarators::suffixes-returns-clause-tree t c = λ x m. let at = c.loop-part.invariant.suffixes x m in
    suffixes_end at c.ok_or.result (let low = c.loop-part.invariant.low in omega arith)
    (subst (λ v. GotCore c.loop-part.cursor c.next_suffix.new.cursor
    (next_from (Reading.read c.args.below) (suc c.args.below) at.tree (in_force c.args.types.now)
    (rest_of c.loop-part.cursor)) v) c.in_default.is (c.in_ok-part.ensures.tree at.tree at.means))
    c.ok_or.ensures.value

pub declarators::core-make-requires-then-is_enclosed : goal.declarators::core-make-requires-then-is_enclosed
declarators::core-make-requires-then-is_enclosed t c = record {
  room = room_paid (then_paid (owed_paid {m = 8} (stayed c.args.cursor.now c.takes.new.self c.takes.ensures.nodes
      (c.takes.ensures.left c.if-takes.false))
      (took_past c.takes.new.self c.advance.new.self
      (c.takes.ensures.left c.if-takes.false ∙ c.in-Some.ensures) c.advance.ensures.nodes c.advance.ensures.rest)
      refl) (then_paid c.in_ok-inner.ensures.size
      (took c.read.new.cursor c.expect.new.self c.expect.ensures.nodes c.in_ok-expect.ensures.size))) c.requires.room;
  height = omega (arith, c.in_ok-parts.ensures.size, c.in_ok-inner.ensures.low, c.requires.height);
}

pub declarators::core-make-requires : goal.declarators::core-make-requires
declarators::core-make-requires t c = record {
  room = room_paid (took c.args.cursor.now c.takes.new.self c.takes.ensures.nodes
      (c.takes.ensures.shorter c.if-takes.true)) c.requires.room;
  height = omega (arith, c.no_parts-parts.ensures.size);
}

pub declarators::declarator-make-requires : goal.declarators::declarator-make-requires
declarators::declarator-make-requires t c = record {
  room = room_paid (then_owed {m = 0} (took c.args.cursor.now c.takes.new.self c.takes.ensures.nodes
      (c.takes.ensures.shorter c.if-not-takes.false))
      (owed_owed c.in_ok-qualifiers.ensures.size c.in_ok-inner.ensures.size) refl) c.requires.room;
  height = omega (
    arith,
    c.in_ok-parts.ensures.size,
    c.in_ok-qualifiers.ensures.low,
    height_some c.args.below c.in_ok-inner.inner c.in_ok-inner.ensures.low,
    c.requires.height,
  );
}

pub declarators::declarator-qualifiers-requires : goal.declarators::declarator-qualifiers-requires
declarators::declarator-qualifiers-requires t c = record {
  room = roomy_paid (took c.args.cursor.now c.takes.new.self c.takes.ensures.nodes
      (c.takes.ensures.shorter c.if-not-takes.false)) c.requires.room;
}

pub phrases::parameter_or_type_name-make-requires : goal.phrases::parameter_or_type_name-make-requires
phrases::parameter_or_type_name-make-requires t c = record {
  room = room_paid (then_owed {m = 5} c.in_ok-specifiers.ensures.size c.in_ok-declarator.ensures.size refl)
      c.requires.room;
  height = omega (
    arith,
    c.in_ok-parts.ensures.size,
    c.in_ok-specifiers.ensures.low,
    height_some c.args.below c.in_ok-declarator.declarator c.in_ok-declarator.ensures.low,
    c.requires.height,
  );
}

pub declarators::function-make-requires : goal.declarators::function-make-requires
declarators::function-make-requires t c = record {
  room = room_paid (then_owed {m = 7} (owed_paid {m = 8} c.in_ok-listed.ensures.size
      (took c.follow.new.cursor c.expect.new.self c.expect.ensures.nodes c.in_ok-expect.ensures.size) refl)
      (noded c.expect.new.self c.join.new.self c.in_ok-parameters.ensures.size c.join.ensures.rest) refl)
      c.requires.room;
  height = omega (
    arith,
    c.in_ok-push.ensures.size,
    c.in_ok-parts.ensures.low,
    c.in_ok-parameters.ensures.low,
    c.in_ok-listed.ensures.low,
    c.requires.height,
  );
}

pub declarators::function-join-requires : goal.declarators::function-join-requires
declarators::function-join-requires t c = record {
  room = room_paid (owed_paid {m = 8} c.in_ok-listed.ensures.size
      (took c.follow.new.cursor c.expect.new.self c.expect.ensures.nodes c.in_ok-expect.ensures.size) refl)
      c.requires.room;
  height = omega (arith, c.in_ok-listed.ensures.low, c.requires.height);
}

pub declarators::array-make-requires-2 : goal.declarators::array-make-requires-2
declarators::array-make-requires-2 t c = record {
  room = room_paid (then_paid (owed_paid {m = 4} (stayed c.args.cursor.now c.takes.new.self c.takes.ensures.nodes
      (c.takes.ensures.left c.if-takes.false)) c.in_ok-length.ensures.size refl)
      (took c.read.new.cursor c.expect.new.self c.expect.ensures.nodes c.in_ok-expect.ensures.size)) c.requires.room;
  height = omega (
    arith,
    c.in_ok-push.ensures.size,
    c.in_ok-parts-2.ensures.low,
    c.in_ok-length.ensures.low,
    c.requires.height,
  );
}

pub declarators::array-make-requires : goal.declarators::array-make-requires
declarators::array-make-requires t c = record {
  room = room_paid (took c.args.cursor.now c.takes.new.self c.takes.ensures.nodes
      (c.takes.ensures.shorter c.if-takes.true)) c.requires.room;
  height = omega (arith, c.in_ok-parts.ensures.low, c.requires.height);
}

pub phrases::member-make-requires : goal.phrases::member-make-requires
phrases::member-make-requires t c = record {
  room = room_paid (then_paid (then_paid c.in_ok-specifiers.ensures.size c.in_ok-parts-2.ensures.size)
      (took c.separated.new.cursor c.expect.new.self c.expect.ensures.nodes c.in_ok-expect.ensures.size))
      c.requires.room;
  height = omega (arith, c.in_ok-parts-2.ensures.low, c.requires.height);
}

pub phrases::separated-returns-clause-low : goal.phrases::separated-returns-clause-low
phrases::separated-returns-clause-low t c = c.list.invariant.low

pub phrases::separated-returns-clause-keeps : goal.phrases::separated-returns-clause-keeps
phrases::separated-returns-clause-keeps t c = c.list.invariant.keeps

pub phrases::separated-returns-clause-size : goal.phrases::separated-returns-clause-size
phrases::separated-returns-clause-size t c = c.list.invariant.size

pub expressions::operand-leaf-requires : goal.expressions::operand-leaf-requires
expressions::operand-leaf-requires t c =
    record {
      room = room_paid (took c.args.cursor.now c.take.new.self c.take.ensures.nodes c.in-Some.ensures.size)
          c.requires.room;
    }

pub expressions::operand-leaf-requires-in-Character : goal.expressions::operand-leaf-requires-in-Character
expressions::operand-leaf-requires-in-Character t c =
    record {
      room = room_paid (took c.args.cursor.now c.take.new.self c.take.ensures.nodes c.in-Some.ensures.size)
          c.requires.room;
    }

pub expressions::operand-leaf-requires-in-Number : goal.expressions::operand-leaf-requires-in-Number
expressions::operand-leaf-requires-in-Number t c =
    record {
      room = room_paid (took c.args.cursor.now c.take.new.self c.take.ensures.nodes c.in-Some.ensures.size)
          c.requires.room;
    }

pub expressions::operand-text-requires : goal.expressions::operand-text-requires
expressions::operand-text-requires t c = record {
  room = roomy_paid (took c.args.cursor.now c.take.new.self c.take.ensures.nodes c.in-Some.ensures.size)
      c.requires.room;
  height = c.requires.height;
}

pub expressions::longer-returns-in-Steps-clause-size : goal.expressions::longer-returns-in-Steps-clause-size
expressions::longer-returns-in-Steps-clause-size t c = IfOk-weaker c.join.result _ _
    (λ p e. noded c.args.cursor.now c.join.new.self e c.join.ensures.rest) c.join.ensures.size

pub expressions::longer-returns-in-Steps-clause-low : goal.expressions::longer-returns-in-Steps-clause-low
expressions::longer-returns-in-Steps-clause-low t c = IfOk-weaker c.join.result _ _
    (λ p e. omega (arith, e, c.in_ok-start.ensures.size, c.if-left-below.false)) c.join.ensures.low

pub expressions::longer-returns-in-Steps-clause-taller : goal.expressions::longer-returns-in-Steps-clause-taller
expressions::longer-returns-in-Steps-clause-taller t c = IfOk-weaker c.join.result _ _
    (λ p e. omega (arith, e, c.in_ok-start.ensures.size)) c.join.ensures.low

pub phrases::initializer-join-requires : goal.phrases::initializer-join-requires
phrases::initializer-join-requires t c = record {
  room = room_paid (then_paid (then_owed {m = 8} (took c.args.cursor.now c.take_if.new.self c.take_if.ensures.nodes
      c.in-Some.ensures.size)
      (stayed c.take_if.new.self c.takes.new.self c.takes.ensures.nodes
      (c.takes.ensures.left c.if-takes.false)) refl) c.in_ok-parts.ensures.size) c.requires.room;
  height = omega (arith, c.in_ok-parts.ensures.low, c.requires.height);
}

pub phrases::initializer-leaf-requires : goal.phrases::initializer-leaf-requires
phrases::initializer-leaf-requires t c = record {
  room = room_paid (then_paid (took c.args.cursor.now c.take_if.new.self c.take_if.ensures.nodes c.in-Some.ensures.size)
      (took c.take_if.new.self c.takes.new.self c.takes.ensures.nodes
      (c.takes.ensures.shorter c.if-takes.true))) c.requires.room;
}

pub declaration_specifiers::enum_specifier-join-requires : goal.declaration_specifiers::enum_specifier-join-requires
declaration_specifiers::enum_specifier-join-requires t c = record {
  room = room_paid (then_paid (owed_paid {m = 8} c.in_ok-start.ensures.size
      (took c.tag.new.cursor c.takes.new.self c.takes.ensures.nodes
      (c.takes.ensures.shorter c.if-not-takes.false)) refl)
      c.in_ok-parts.ensures.size) c.requires.room;
  height = omega (arith, c.in_ok-parts.ensures.low, c.requires.height);
}

pub declaration_specifiers::record_specifier-join-requires : goal.declaration_specifiers::record_specifier-join-requires
declaration_specifiers::record_specifier-join-requires t c = record {
  room = room_paid (then_paid (owed_paid {m = 8} c.in_ok-start.ensures.size
      (took c.tag.new.cursor c.takes.new.self c.takes.ensures.nodes
      (c.takes.ensures.shorter c.if-not-takes.false)) refl)
      c.in_ok-parts.ensures.size) c.requires.room;
  height = omega (arith, c.in_ok-parts.ensures.low, c.requires.height);
}

pub declaration_specifiers::specifier_list-returns-clause-low :
    goal.declaration_specifiers::specifier_list-returns-clause-low
declaration_specifiers::specifier_list-returns-clause-low t c = c.loop-item.invariant.low

pub declaration_specifiers::specifiers-join-requires-clause-height :
    goal.declaration_specifiers::specifiers-join-requires-clause-height
declaration_specifiers::specifiers-join-requires-clause-height t c =
    omega (arith, c.in_ok-gathered.ensures.low, c.requires.height)

pub declaration_specifiers::specifier-returns-in-Specifier-clause-size :
    goal.declaration_specifiers::specifier-returns-in-Specifier-clause-size
declaration_specifiers::specifier-returns-in-Specifier-clause-size t c = IfOk-weaker c.leaf.result _ _
    (λ p e. noded c.args.cursor.now c.leaf.new.self e c.leaf.ensures.rest) c.leaf.ensures.size

pub declaration_specifiers::specifier-returns-in-Word-clause-size :
    goal.declaration_specifiers::specifier-returns-in-Word-clause-size
declaration_specifiers::specifier-returns-in-Word-clause-size t c = IfOk-weaker c.leaf-in-Word.result _ _
    (λ p e. noded c.args.cursor.now c.leaf-in-Word.new.self e c.leaf-in-Word.ensures.rest) c.leaf-in-Word.ensures.size

pub declaration_specifiers::specifier-returns-in-Specifier-clause-low :
    goal.declaration_specifiers::specifier-returns-in-Specifier-clause-low
declaration_specifiers::specifier-returns-in-Specifier-clause-low t c = IfOk-weaker c.leaf.result _ _
    (λ p e. omega (arith, e)) c.leaf.ensures.low

pub declaration_specifiers::specifier-returns-in-Word-clause-low :
    goal.declaration_specifiers::specifier-returns-in-Word-clause-low
declaration_specifiers::specifier-returns-in-Word-clause-low t c = IfOk-weaker c.leaf-in-Word.result _ _
    (λ p e. omega (arith, e)) c.leaf-in-Word.ensures.low

pub declarators::function-returns-in_err-push : goal.declarators::function-returns-in_err-push
declarators::function-returns-in_err-push t c =
    let p = err_from_is_err_and c.from_residual-in_err-push.result c.from_residual-in_err-push.ensures.1 in
    rw (p.1, p.2) (record {
      size = tt;
      low = tt;
      taller = tt;
      tree = λ x m. fails_memory _ _ c.in_err-push.ensures.full;
    })

pub declarators::function-returns-in_err-parameters : goal.declarators::function-returns-in_err-parameters
declarators::function-returns-in_err-parameters t c =
    let p = err_from_is_err_and c.from_residual-in_err-parameters.result c.from_residual-in_err-parameters.ensures.1 in
    rw (p.1, p.2) (record {
      size = tt;
      low = tt;
      taller = tt;
      tree = λ x m. fails_memory _ _ c.in_err-parameters.ensures.tree;
    })

pub declarators::array-returns-in_err-push : goal.declarators::array-returns-in_err-push
declarators::array-returns-in_err-push t c =
    let p = err_from_is_err_and c.from_residual-in_err-push.result c.from_residual-in_err-push.ensures.1 in
    rw (p.1, p.2) (record {
      size = tt;
      low = tt;
      taller = tt;
      tree = λ x m. fails_memory _ _ c.in_err-push.ensures.full;
    })

pub declarators::core-returns-in_err-part : goal.declarators::core-returns-in_err-part
declarators::core-returns-in_err-part t c =
    let p = err_from_is_err_and c.from_residual.result c.from_residual.ensures.1 in
    rw (p.1, p.2) (record { size = tt; none = tt; low = tt; tree = fails_memory _ _ c.in_err-part.ensures.tree })

pub declarators::core-returns-in_err-part-2 : goal.declarators::core-returns-in_err-part-2
declarators::core-returns-in_err-part-2 t c =
    let p = err_from_is_err_and c.from_residual-in_err-part-2.result c.from_residual-in_err-part-2.ensures.1 in
    rw (p.1, p.2) (record { size = tt; none = tt; low = tt; tree = fails_memory _ _ c.in_err-part-2.ensures.tree })

pub declarators::core-returns-in_err-parts : goal.declarators::core-returns-in_err-parts
declarators::core-returns-in_err-parts t c =
    let p = err_from_is_err_and c.from_residual-in_err-parts.result c.from_residual-in_err-parts.ensures.1 in
    rw (p.1, p.2) (record { size = tt; none = tt; low = tt; tree = fails_memory _ _ c.in_err-parts.ensures.one })

pub declaration_specifiers::members-returns-in_err-push : goal.declaration_specifiers::members-returns-in_err-push
declaration_specifiers::members-returns-in_err-push t c =
    let p = err_from_is_err_and c.from_residual-in_err-push.result c.from_residual-in_err-push.ensures.1 in
    rw (p.1, p.2) (record {
      size = tt;
      low = tt;
      tree = λ ys turns much m. fails_memory _ _ c.in_err-push.ensures.full;
    })

pub phrases::separated-returns-in_err-push : goal.phrases::separated-returns-in_err-push
phrases::separated-returns-in_err-push t c =
    let p = err_from_is_err_and c.from_residual-in_err-push.result c.from_residual-in_err-push.ensures.1 in
    rw (p.1, p.2) (record {
      size = tt;
      low = tt;
      keeps = tt;
      tree = λ ys m. fails_memory _ _ c.in_err-push.ensures.full;
    })

pub declaration_specifiers::members-returns-in_err-push-2 : goal.declaration_specifiers::members-returns-in_err-push-2
declaration_specifiers::members-returns-in_err-push-2 t c =
    let p = err_from_is_err_and c.from_residual-in_err-push-2.result c.from_residual-in_err-push-2.ensures.1 in
    rw (p.1, p.2) (record {
      size = tt;
      low = tt;
      tree = λ ys turns much m. fails_memory _ _ c.in_err-push-2.ensures.full;
    })

pub phrases::separated-returns-in_err-push-2 : goal.phrases::separated-returns-in_err-push-2
phrases::separated-returns-in_err-push-2 t c =
    let p = err_from_is_err_and c.from_residual-in_err-push-2.result c.from_residual-in_err-push-2.ensures.1 in
    rw (p.1, p.2) (record {
      size = tt;
      low = tt;
      keeps = tt;
      tree = λ ys m. fails_memory _ _ c.in_err-push-2.ensures.full;
    })

pub declaration_specifiers::specifiers-returns-in_err-part : goal.declaration_specifiers::specifiers-returns-in_err-part
declaration_specifiers::specifiers-returns-in_err-part t c =
    let p = err_from_is_err_and c.from_residual-in_err-part.result c.from_residual-in_err-part.ensures.1 in
    rw (p.1, p.2) (record { size = tt; low = tt; tree = fails_memory _ _ c.in_err-part.ensures.tree })

pub expressions::longer-returns-in_err-start : goal.expressions::longer-returns-in_err-start
expressions::longer-returns-in_err-start t c =
    let p = err_from_is_err_and c.from_residual.result c.from_residual.ensures.1 in
    rw (p.1, p.2) (record {
      size = tt;
      low = tt;
      taller = tt;
      tree = λ x m. fails_memory _ _ c.in_err-start.ensures.one;
    })

pub expressions::node-returns-in_err-parts : goal.expressions::node-returns-in_err-parts
expressions::node-returns-in_err-parts t c =
    let p = err_from_is_err_and c.from_residual.result c.from_residual.ensures.1 in
    rw (p.1, p.2) (record {
      size = tt;
      low = tt;
      taller = tt;
      tree = λ ys first named h. fails_bind _ _ _ (c.in_err-parts.ensures.tree ys h);
    })

pub phrases::member-returns-in_err-parts : goal.phrases::member-returns-in_err-parts
phrases::member-returns-in_err-parts t c =
    let p = err_from_is_err_and c.from_residual-in_err-parts.result c.from_residual-in_err-parts.ensures.1 in
    rw (p.1, p.2) (record { size = tt; low = tt; tree = fails_memory _ _ c.in_err-parts.ensures.one })

pub declaration_specifiers::specifier_list-returns-in_err-gathered :
    goal.declaration_specifiers::specifier_list-returns-in_err-gathered
declaration_specifiers::specifier_list-returns-in_err-gathered t c =
    let p = err_from_is_err_and c.from_residual-in_err-gathered.result c.from_residual-in_err-gathered.ensures.1 in
    rw (p.1, p.2) (record { size = tt; low = tt; tree = fails_memory _ _ c.in_err-gathered.ensures.full })

pub declaration_specifiers::members-list-smaller : goal.declaration_specifiers::members-list-smaller
declaration_specifiers::members-list-smaller t c = c.in_ok-part-2.ensures.size.shorter

pub phrases::separated-list-smaller : goal.phrases::separated-list-smaller
phrases::separated-list-smaller t c =
    let on = ap goes_on_listing (sym c.rest.ensures) ∙ sym c.goes_on_listing.ensures ∙ c.list-test.true in
    let taken = past_shorter (rest_of c.list.cursor) on in let left = ap length c.advance.ensures.rest in
    omega (arith, taken, left, c.in_ok-part-2.ensures.size.shorter)

pub declarators::suffixes-loop-part-smaller : goal.declarators::suffixes-loop-part-smaller
declarators::suffixes-loop-part-smaller t c =
    (subst (λ v. IfSome v (λ _. Paid c.loop-part.cursor c.next_suffix.new.cursor 4)) c.in-Some.is
    c.in_ok-part.ensures.size).shorter

pub declaration_specifiers::specifier_list-loop-item-smaller :
    goal.declaration_specifiers::specifier_list-loop-item-smaller
declaration_specifiers::specifier_list-loop-item-smaller t c =
    omega (arith, c.in-Some.ensures.size, c.in_ok-part.ensures.size.shorter)

pub expressions::climb-loop-item-smaller : goal.expressions::climb-loop-item-smaller
expressions::climb-loop-item-smaller t c = omega (arith, c.in-Some.ensures.size, c.in_ok-part.ensures.size.shorter)
