use Rattle.std.proofs.Common.{◌≡◌, ℕ, ◌<◌, List, [], ◌∷◌, ◌++◌, Some, length, get_or, take, drop, map, refl, ap}
use Rattle.std.proofs.Common.{subst, sym, ◌+◌, ◌∙◌, arith}
use Rattle.std.proofs.lemmas.List.{length-map, take_all}
use Rattle.std.specs.Prelude.{slice_get, IfOk}
use Rattle.c_tree.specs.declared.typed.Stmt.{Stmt}
use Rattle.c_tree.specs.Views.{values, parts}
use Rattle.c_tree.specs.Passed.{hidden_of, ahead, passed_form}
use Rattle.c_copy.specs.Copying.{stmt_form}
use Rattle.c_copy.proofs.Copies.{pushed}
use Rattle.passing_steps.specs.Source.{Source}
use Rattle.c_passing.specs.Lists.{hidden_in_each, hidden_of_each}
use Rattle.c_passing.specs.Passes.{written_term, written_before, FormWithin, ActionWithin}
use Rattle.c_passing.specs.Passes.{ActionsWithin, AddsTerms, AddsActions, IsReturned, ArePassed, IsPassedAction}
use Rattle.c_passing.specs.Passes.{ArePassedActions}
use Rattle.c_passing.proofs.Building.{Built, statement_made, returned_made, written_before_is, written_past}
use Rattle.c_passing.proofs.Building.{empty_made, expression_made}
use Rattle.c_passing.proofs.Each.{statements_turn, no_statements_add}
use Rattle.c_passing.proofs.Least.{count_both}
use Rattle.c_passing.proofs.Numbering.{if_ok}
use Rattle.c_passing.proofs.Within.{terms_there, form_within, values_within, parts_within, front_within, back_within}
use Rattle.c_passing.proofs.statements.+statements.Goals as goal
use Rattle.passing_steps.proofs.Results.{on_both}
use Rattle.passing_steps.proofs.Counting.{at_index}

pub statement-returns-in_ok-value-in-Some : goal.statement-returns-in_ok-value-in-Some
statement-returns-in_ok-value-in-Some t c =
    if_ok c.give_back.result _ _
    (λ j h. returned_made c.args.source.now c.args.out.now c.expression-in-Some.new.out c.give_back.new.out c.args.k c.in-Some.a
    c.in-Some.t c.in_ok-value-in-Some.value j c.stmt-s.result.now c.stmt-s.ensures c.in-Some.ensures
    c.in_ok-value-in-Some.ensures h)
    c.give_back.ensures

-- the steps of a statement that gives nothing back by a pointer
built : (t : ℕ) (c : goal.statement-After-drop-ks-in-None t) (j : ℕ) →
    c.push_stmt-in-None.new.self.stmts.items ≡ c.statements-in-None.new.out.stmts.items
    ++ record { kind = c.in_ok-kind-in-None-2.kind; pos = c.stmt-s.result.now.pos } ∷ [] →
    c.push_stmt-in-None.new.self ≡ record c.statements-in-None.new.out { stmts = c.push_stmt-in-None.new.self.stmts } →
    j ≡ length c.statements-in-None.new.out.stmts.items →
    Built c.args.source.now c.args.out.now c.statements.new.out c.expressions.new.out c.statements-in-None.new.out
    c.push_stmt-in-None.new.self c.args.k j c.stmt-s.result.now
    (record { kind = c.in_ok-kind-in-None-2.kind; pos = c.stmt-s.result.now.pos })
    c.in_ok-vs-in-None.vs.items c.statements.new.js.items c.statements-in-None.new.js.items
built t c j items rest n =
    let s = c.args.source.now in
    let d = c.stmt-s.result.now in
    let k = c.args.k in
    let old = c.args.out.now in
    let a = c.statements.new.out in
    let b = c.expressions.new.out in
    let e = c.statements-in-None.new.out in
    let parts_are = c.in_ok-ks-in-None.ensures in
    let values_are = c.in_ok-xs-in-None.ensures in
    let front : c.split_at.result.0.now ≡ take (ahead (stmt_form d.kind)) (parts d.kind) =
    c.split_at.ensures.front ∙ ap (λ zs. take c.ahead.result zs) (c.as_slice.ensures.value ∙ parts_are)
    ∙ ap (λ m. take m (parts d.kind)) c.ahead.ensures.is in
    let back : c.split_at.result.1.now ≡ drop (ahead (stmt_form d.kind)) (parts d.kind) =
    c.split_at.ensures.back ∙ ap (λ zs. drop c.ahead.result zs) (c.as_slice.ensures.value ∙ parts_are)
    ∙ ap (λ m. drop m (parts d.kind)) c.ahead.ensures.is in
    let vals : c.as_slice-in-None.result.now ≡ values d.kind = c.as_slice-in-None.ensures.value ∙ values_are in
    let with = c.in_ok-kind-in-None.ensures in
    let new = c.in_ok-kind-in-None-2.ensures in
    record {
      there = c.stmt-s.ensures;
      plainly = c.in-None.ensures;
      front =
          subst (λ zs. AddsActions s old a (λ names. hidden_of_each names (map (written_before s k) zs))
          (ArePassedActions s old a (map (written_before s k) zs) [] c.statements.new.js.items)) front
          (subst (λ zs. AddsActions s old a
          (λ names. hidden_of_each names (map (written_before s k) c.split_at.result.0.now))
          (ArePassedActions s old a (map (written_before s k) c.split_at.result.0.now) zs c.statements.new.js.items))
          c.new-js.ensures.items c.in_ok-statements-in-None.ensures);
      mid = subst (λ zs. AddsTerms s a b (λ names. hidden_in_each names (map (written_term s) zs))
          (ArePassed s a b (map (written_term s) zs) c.in_ok-vs-in-None.vs.items)) vals c.in_ok-vs-in-None.ensures;
      back = subst (λ zs. AddsActions s b e (λ names. hidden_of_each names (map (written_before s k) zs))
          (ArePassedActions s b e (map (written_before s k) zs) c.statements.new.js.items
          c.statements-in-None.new.js.items)) back c.in_ok-statements-in-None-2.ensures;
      values_are = new.values ∙ with.values ∙ c.as_slice-in-None-2.ensures.value;
      parts_are = new.parts ∙ with.parts ∙ c.as_slice-in-None-3.ensures.value;
      form = λ ts g fits. new.form ts g fits ∙ ap (passed_form g) with.form;
      place = refl;
      pushed = items;
      number = n;
      rest = rest;
    }

pub statement-returns-in_ok-kind-in-None-2 : goal.statement-returns-in_ok-kind-in-None-2
statement-returns-in_ok-kind-in-None-2 t c =
    pushed c.push_stmt-in-None.result _ _ _ (on_both c.push_stmt-in-None.result _ _ c.push_stmt-in-None.ensures.stmts c.push_stmt-in-None.ensures.rest)
    c.push_stmt-in-None.ensures.number
    (λ x. statement_made _ _ _ _ _ _ _ _ _ _ _ _ _ (built t c _ x.0 x.1 refl))

pub statement-returns-in-Expr : goal.statement-returns-in-Expr
statement-returns-in-Expr t c =
    pushed c.push_stmt.result _ _ _
    (on_both c.push_stmt.result _ _ c.push_stmt.ensures.stmts c.push_stmt.ensures.rest) c.push_stmt.ensures.number
    (λ x. expression_made c.args.source.now c.args.out.now c.expression.new.out c.push_stmt.new.self c.args.k
    c.in-Expr.a c.in_ok-value.value _ c.stmt-s.result.now c.stmt-s.ensures c.in-Expr.is c.in_ok-value.ensures
    x.0 x.1 refl)

pub statement-expression-requires : goal.statement-expression-requires
statement-expression-requires t c =
    values_within c.args.source.now c.args.k c.stmt-s.result.now (c.in-Expr.a ∷ []) c.requires c.stmt-s.ensures
    (rw c.in-Expr.is refl) 0 c.in-Expr.a refl

pub statements-loop-k-init : goal.statements-loop-k-init
statements-loop-k-init t c = no_statements_add c.args.source.now c.args.out.now c.args.js.now.items

pub statements-loop-k-preserved : goal.statements-loop-k-preserved
statements-loop-k-preserved t c =
    let l = c.loop-k in
    let s = c.args.source.now in
    statements_turn s (written_before s c.args.limit) c.args.out.now l.out c.part.new.out c.args.ks.now l.k-index _
    c.args.js.now.items l.js.items c.push.new.self.items c.in_ok-j.j c.loop-k-test.true refl l.invariant
    c.in_ok-j.ensures c.in_ok-push.ensures.items

pub statements-returns : goal.statements-returns
statements-returns t c =
    let s = c.args.source.now in
    let old = c.args.out.now in
    let l = c.loop-k in
    let go = written_before s c.args.limit in
    subst (λ ks. AddsActions s old l.out (λ names. hidden_of_each names (map go ks))
    (ArePassedActions s old l.out (map go ks) c.args.js.now.items l.js.items))
    (take_all l.k-index c.args.ks.now c.loop-k-test.false) l.invariant

pub statement-stmt-s-requires : goal.statement-stmt-s-requires
statement-stmt-s-requires t c = c.requires.there

pub statement-returned-requires : goal.statement-returned-requires
statement-returned-requires t c =
    let s = c.args.source.now in
    terms_there s _ (values_within s c.args.k c.stmt-s.result.now _ c.requires c.stmt-s.ensures refl)

pub statement-expression-requires-in-Some : goal.statement-expression-requires-in-Some
statement-expression-requires-in-Some t c =
    let s = c.args.source.now in
    let d = c.stmt-s.result.now in
    let r : IsReturned s d.kind (Some (c.in-Some.a, c.in-Some.t)) = c.in-Some.ensures in
    values_within s c.args.k d (c.in-Some.a ∷ []) c.requires c.stmt-s.ensures (rw (r.0) refl) 0 c.in-Some.a refl

pub statement-expressions-requires : goal.statement-expressions-requires
statement-expressions-requires t c =
    values_within c.args.source.now c.args.k c.stmt-s.result.now _ c.requires c.stmt-s.ensures
    (c.as_slice-in-None.ensures.value ∙ c.in_ok-xs-in-None.ensures)

parts_read : (s : Source) (k : ℕ) (d : Stmt) (ks : List ℕ) → ActionWithin s k →
    slice_get s.program.now.stmts k ≡ Some d → ks ≡ parts d.kind → ActionsWithin s k ks
parts_read s k d ks h g e = subst (ActionsWithin s k) (sym e) (parts_within s k d h g)

pub statement-statements-requires : goal.statement-statements-requires
statement-statements-requires t c =
    let s = c.args.source.now in
    let k = c.args.k in
    let ks = c.in_ok-ks-in-None.ks.items in
    let all = parts_read s k c.stmt-s.result.now ks c.requires c.stmt-s.ensures c.in_ok-ks-in-None.ensures in
    let front = c.split_at.ensures.front ∙ ap (λ zs. take c.ahead.result zs) c.as_slice.ensures.value in
    (omega arith, front_within s k c.ahead.result ks c.split_at.result.0.now front all)

pub statement-statements-requires-in-None : goal.statement-statements-requires-in-None
statement-statements-requires-in-None t c =
    let s = c.args.source.now in
    let k = c.args.k in
    let ks = c.in_ok-ks-in-None.ks.items in
    let all = parts_read s k c.stmt-s.result.now ks c.requires c.stmt-s.ensures c.in_ok-ks-in-None.ensures in
    let back = c.split_at.ensures.back ∙ ap (λ zs. drop c.ahead.result zs) c.as_slice.ensures.value in
    (omega arith, back_within s k c.ahead.result ks c.split_at.result.1.now back all)

pub statement-renumbered-requires : goal.statement-renumbered-requires
statement-renumbered-requires t c =
    let s = c.args.source.now in
    subst (FormWithin (length s.numbers.now)) (sym c.in_ok-kind-in-None.ensures.form)
    (form_within s c.args.k c.stmt-s.result.now c.requires c.stmt-s.ensures)

pub statement-stmt_with-requires-clause-values : goal.statement-stmt_with-requires-clause-values
statement-stmt_with-requires-clause-values t c =
    ap length c.as_slice-in-None-2.ensures.value ∙ c.in_ok-vs-in-None.ensures.is.count
    ∙ length-map c.as_slice-in-None.result.now (written_term c.args.source.now)
    ∙ ap length (c.as_slice-in-None.ensures.value ∙ c.in_ok-xs-in-None.ensures)

pub statement-stmt_with-requires-clause-parts : goal.statement-stmt_with-requires-clause-parts
statement-stmt_with-requires-clause-parts t c =
    ap length c.as_slice-in-None-3.ensures.value
    ∙ count_both c.ahead.result c.in_ok-ks-in-None.ks.items c.split_at.result.0.now c.split_at.result.1.now
    c.new-js.result.items c.statements.new.js.items c.statements-in-None.new.js.items c.new-js.ensures.items
    (c.split_at.ensures.front ∙ ap (λ zs. take c.ahead.result zs) c.as_slice.ensures.value)
    (c.split_at.ensures.back ∙ ap (λ zs. drop c.ahead.result zs) c.as_slice.ensures.value)
    (c.in_ok-statements-in-None.ensures.is.count
    ∙ ap (λ n. length c.new-js.result.items + n)
    (length-map c.split_at.result.0.now (written_before c.args.source.now c.args.k)))
    (c.in_ok-statements-in-None-2.ensures.is.count
    ∙ ap (λ n. length c.statements.new.js.items + n)
    (length-map c.split_at.result.1.now (written_before c.args.source.now c.args.k)))
    ∙ ap length c.in_ok-ks-in-None.ensures

pub statements-part-requires : goal.statements-part-requires
statements-part-requires t c =
    let ks = c.args.ks.now in
    let i = c.loop-k.k-index in
    (omega arith, c.requires i (get_or ks i 0) (at_index ks i c.loop-k-test.true))

pub part-statement-requires : goal.part-statement-requires
part-statement-requires t c =
    let lt : c.args.k < c.args.limit = c.if-k-limit.true in
    (omega arith, c.requires lt)

pub part-returns-then-k-limit : goal.part-returns-then-k-limit
part-returns-then-k-limit t c =
    let s = c.args.source.now in
    let old = c.args.out.now in
    let new = c.statement.new.out in
    subst (λ x. IfOk c.statement.result (λ j. AddsActions s old new (λ names. hidden_of names x)
    (IsPassedAction s old new x j)))
    (sym (written_before_is s c.args.limit c.args.k c.if-k-limit.true)) c.statement.ensures

pub part-returns-else-k-limit : goal.part-returns-else-k-limit
part-returns-else-k-limit t c =
    let s = c.args.source.now in
    let old = c.args.out.now in
    let new = c.push_stmt.new.self in
    subst (λ x. IfOk c.push_stmt.result (λ j. AddsActions s old new (λ names. hidden_of names x)
    (IsPassedAction s old new x j)))
    (sym (written_past s c.args.limit c.args.k c.if-k-limit.false))
    (pushed c.push_stmt.result _ _ _ (on_both c.push_stmt.result _ _ c.push_stmt.ensures.stmts c.push_stmt.ensures.rest)
    c.push_stmt.ensures.number (λ x. empty_made s old new _ x.0 x.1 refl))
