use Rattle.std.proofs.Common.{◌≡◌, false, suc, ◌+◌, ◌<◌, ◌≤◌, ◌∷◌, [], ◌++◌, length, get_or, map, refl, sym, ap, subst}
use Rattle.std.proofs.Common.{◌∙◌, arith}
use Rattle.std.proofs.lemmas.List.{take_all}
use Rattle.c_tree.specs.declared.typed.Expr.{Expr}
use Rattle.c_tree.specs.declared.typed.ExprKind.TheVariants as exprs
use Rattle.c_tree.specs.Views.{types_of, operands}
use Rattle.c_tree.specs.Passed.{hidden_in}
use Rattle.c_copy.specs.Copying.{AllBelow}
use Rattle.c_copy.proofs.Copies.{pushed}
use Rattle.c_passing.specs.Lists.{hidden_in_each}
use Rattle.c_passing.specs.Operands.{IsFew}
use Rattle.c_passing.specs.Passes.{written_term, AddsTerms, IsPassed, ArePassed, ArePassedArguments}
use Rattle.c_passing.specs.Passes.{IsPlainCall, IsCallByResult}
use Rattle.c_passing.proofs.Each.{terms_turn, no_terms_add, one_term, two_terms, made_of, none_counted}
use Rattle.c_passing.proofs.Each.{no_arguments_add, Arguments, arguments_at, arguments_plainly, arguments_by_address}
use Rattle.c_passing.proofs.Least.{least_above, least_is, item_below}
use Rattle.c_passing.proofs.Numbering.{if_ok}
use Rattle.c_passing.proofs.Passing.{calls, shape_calls, expression_passed, plain_call_passed, result_call_passed}
use Rattle.c_passing.proofs.Passing.{written_call_is, plain_call_made, result_call_made}
use Rattle.c_passing.proofs.Within.{term_within, operands_within, operands_below, operand_at, kind_within}
use Rattle.c_passing.proofs.expressions.+expressions.Goals as goal
use Rattle.c_passing.proofs.expressions.+expressions.Goals.{arguments-in-None+in_ok-push-in-None}
use Rattle.c_passing.proofs.expressions.+expressions.Goals.{arguments-in-Some+in_ok-argument-in-Some+in_ok-push-in-Some+in_ok-h-in-Some}
use Rattle.passing_steps.proofs.Results.{on_both}
use Rattle.passing_steps.proofs.Counting.{at_index}

pub arguments-loop-x-preserved : goal.arguments-loop-x-preserved
arguments-loop-x-preserved t c =
    let a = c.args in
    let s = a.source.now in
    let l = c.loop-x in
    let i = l.x-index in
    let v = c.in_ok-value in
    let now : Arguments s a.out.now l.out a.first a.pos a.xs.now i l.h a.list.now.items l.list.items =
    record { adds = l.invariant.adds; counted = l.invariant.counted } in
    let all : Arguments s a.out.now c.match-hidden_type.out a.first a.pos a.xs.now (i + 1) c.match-hidden_type.h
    a.list.now.items c.match-hidden_type.list.items =
    elim c.match-hidden_type.branch [
      | arguments-in-None+in_ok-push-in-None w ↦
          arguments_at s a.out.now c.expression.new.out _ a.first a.pos a.xs.now
          (i + 1) l.h _ a.list.now.items w.push.new.self.items _
          (arguments_plainly s a.out.now l.out c.expression.new.out a.first a.pos a.xs.now i l.h _ c.expr-e.result.now
          a.list.now.items l.list.items w.push.new.self.items v.value now c.loop-x-test.true refl
          c.expr-e.ensures v.ensures w.in-None.ensures w.in_ok-push-in-None.ensures.items)
          w.out-is w.h-is (ap (λ z. z.items) w.list-is)
      | arguments-in-Some+in_ok-argument-in-Some+in_ok-push-in-Some+in_ok-h-in-Some w ↦
          arguments_at s a.out.now w.by_address.new.out _ a.first a.pos a.xs.now (i + 1)
          (l.h + 1) _ a.list.now.items w.push-in-Some.new.self.items _
          (arguments_by_address s a.out.now l.out c.expression.new.out w.by_address.new.out a.first a.pos a.xs.now i l.h
          _ c.expr-e.result.now w.in-Some.t v.value a.list.now.items l.list.items w.push-in-Some.new.self.items
          w.in_ok-argument-in-Some.argument now
          c.loop-x-test.true refl c.expr-e.ensures v.ensures w.in-Some.ensures w.in_ok-argument-in-Some.ensures
          w.in_ok-push-in-Some.ensures.items)
          w.out-is (w.h-is ∙ w.in_ok-h-in-Some.ensures) (ap (λ z. z.items) w.list-is)
    ] in
    record { adds = all.adds; counted = all.counted }

pub arguments-loop-x-init : goal.arguments-loop-x-init
arguments-loop-x-init t c =
    let a = c.args in
    record {
      adds = no_arguments_add a.source.now a.out.now a.first a.pos a.list.now.items;
      counted = none_counted a.source.now a.first a.pos;
    }

pub arguments-returns : goal.arguments-returns
arguments-returns t c =
    let a = c.args in
    let s = a.source.now in
    let l = c.loop-x in
    subst (λ ks. AddsTerms s a.out.now l.out (λ names. hidden_in_each names (map (written_term s) ks))
    (ArePassedArguments s a.out.now l.out a.first a.pos (map (written_term s) ks) a.list.now.items l.list.items))
    (take_all l.x-index a.xs.now c.loop-x-test.false) l.invariant.adds

pub call-returns-in-None : goal.call-returns-in-None
call-returns-in-None t c =
    let s = c.args.source.now in
    let e = c.args.e.now in
    if_ok c.call_plainly.result _ _
    (λ j h.
    plain_call_passed s c.args.out.now c.expression.new.out c.hide_arguments.new.out c.hide.new.out
    c.call_plainly.new.out e c.args.f c.args.xs.now c.in_ok-called.called j
    (record {
      first = c.in_ok-called.ensures;
      second = c.in_ok-hide_arguments.ensures.hides;
      second_rest = c.in_ok-hide_arguments.ensures.rest;
      third = c.in_ok-hide.ensures.hides;
      third_rest = c.in_ok-hide.ensures.rest;
    })
    c.in-None.ensures
    (subst (λ own. AddsTerms s c.hide.new.out c.call_plainly.new.out
    (λ names. hidden_in_each names (map (written_term s) c.args.xs.now))
    (IsPlainCall s c.hide.new.out c.call_plainly.new.out e c.in_ok-called.called own c.args.xs.now j))
    c.in_ok-own.ensures h))
    c.call_plainly.ensures

pub call-returns-in-Some : goal.call-returns-in-Some
call-returns-in-Some t c =
    let s = c.args.source.now in
    let e = c.args.e.now in
    if_ok c.call_by_result.result _ _
    (λ j h.
    result_call_passed s c.args.out.now c.expression.new.out c.hide_arguments.new.out c.hide.new.out
    c.call_by_result.new.out e c.args.f c.args.xs.now c.in_ok-called.called c.in-Some.t j
    (record {
      first = c.in_ok-called.ensures;
      second = c.in_ok-hide_arguments.ensures.hides;
      second_rest = c.in_ok-hide_arguments.ensures.rest;
      third = c.in_ok-hide.ensures.hides;
      third_rest = c.in_ok-hide.ensures.rest;
    })
    c.in-Some.ensures
    (subst (λ own. AddsTerms s c.hide.new.out c.call_by_result.new.out
    (λ names. hidden_in_each names (map (written_term s) c.args.xs.now))
    (IsCallByResult s c.hide.new.out c.call_by_result.new.out e c.in_ok-called.called own
    (length c.hide_arguments.new.out.vars.items) c.in-Some.t c.args.xs.now j)) c.in_ok-own.ensures
    (subst (λ hid. AddsTerms s c.hide.new.out c.call_by_result.new.out
    (λ names. hidden_in_each names (map (written_term s) c.args.xs.now))
    (IsCallByResult s c.hide.new.out c.call_by_result.new.out e c.in_ok-called.called c.in_ok-own.own hid
    c.in-Some.t c.args.xs.now j)) c.in_ok-hidden.ensures h)))
    c.call_by_result.ensures

pub call_by_result-returns : goal.call_by_result-returns
call_by_result-returns t c =
    let a = c.args in
    if_ok c.by_result.result _ _
    (λ j is.
    result_call_made a.source.now a.out.now c.address.new.self c.arguments.new.out c.by_result.new.out a.e.now a.called
    a.own a.hidden a.t c.number-of.result c.pointer-pointer.result c.in_ok-address.address a.xs.now
    c.push.new.self.items _ j c.requires.tagged c.number-of.ensures c.pointer-pointer.ensures c.in_ok-address.ensures
    (c.in_ok-push.ensures.items ∙ ap (λ zs. zs ++ c.in_ok-address.address ∷ []) c.new-list.ensures.items)
    c.in_ok-arguments.ensures is)
    c.by_result.ensures

pub call_plainly-returns : goal.call_plainly-returns
call_plainly-returns t c =
    let a = c.args in
    let xs = map (written_term a.source.now) a.xs.now in
    let before : AddsTerms a.source.now a.out.now c.arguments.new.out (λ names. hidden_in_each names xs)
    (ArePassedArguments a.source.now a.out.now c.arguments.new.out a.own a.e.now.pos xs [] c.arguments.new.list.items) =
    subst (λ zs. AddsTerms a.source.now a.out.now c.arguments.new.out (λ names. hidden_in_each names xs)
    (ArePassedArguments a.source.now a.out.now c.arguments.new.out a.own a.e.now.pos xs zs
    c.arguments.new.list.items)) c.new-list.ensures.items c.in_ok-arguments.ensures in
    pushed c.push_expr.result _ _ _
    (on_both c.push_expr.result _ _ c.push_expr.ensures.exprs c.push_expr.ensures.rest) c.push_expr.ensures.number
    (λ x.
    plain_call_made a.source.now a.out.now c.arguments.new.out c.push_expr.new.self a.e.now a.called a.own
    c.number-of.result a.xs.now c.arguments.new.list.items _ c.number-of.ensures before
    (rw (← c.from_vec.ensures) x.0) x.1 refl)

pub expression-returns-in-Call : goal.expression-returns-in-Call
expression-returns-in-Call t c =
    let s = c.args.source.now in
    let e = c.expr-e.result.now in
    let k = c.args.k in
    let below = operands_below s k e c.requires c.expr-e.ensures in
    let is = written_call_is s k e c.in-Call.f c.as_slice.result.now c.expr-e.ensures below
    (rw c.as_slice.ensures c.in-Call.is) in
    if_ok c.call.result _ _
    (λ j h. subst (λ x. AddsTerms s c.args.out.now c.call.new.out (λ names. hidden_in names x)
    (IsPassed s c.args.out.now c.call.new.out x j)) (sym is) h)
    c.call.ensures

pub expression-returns-in_ok-kind-in_default : goal.expression-returns-in_ok-kind-in_default
expression-returns-in_ok-kind-in_default t c =
    let s = c.args.source.now in
    let e = c.expr-e.result.now in
    let k = c.args.k in
    let mid = c.made_of.new.out in
    let d : Expr = record { kind = c.in_ok-kind-in_default.kind; of = c.number-of.result; pos = e.pos } in
    let below = operands_below s k e c.requires c.expr-e.ensures in
    let calls = shape_calls (types_of s.program.now.types) e.kind c.in_default.not-Call in
    let h = c.in_ok-kind-in_default.ensures in
    let passed : AddsTerms s c.args.out.now mid
    (λ names. hidden_in_each names (map (written_term s) (operands e.kind)))
    (ArePassed s c.args.out.now mid (map (written_term s) (operands e.kind)) (operands d.kind)) =
    record { extends = h.extends; stmts = h.stmts; hides = h.hides; is = h.is.made } in
    pushed c.push_expr.result _ _ _
    (on_both c.push_expr.result _ _ c.push_expr.ensures.exprs c.push_expr.ensures.rest) c.push_expr.ensures.number
    (λ x. expression_passed s c.args.out.now mid c.push_expr.new.self k e d (operands d.kind) _ c.expr-e.ensures below
    calls passed h.is.kind c.number-of.ensures refl x.0 x.1 refl)

pub expression-made_of-requires : goal.expression-made_of-requires
expression-made_of-requires t c =
    let s = c.args.source.now in
    let k = c.args.k in
    let e = c.expr-e.result.now in
    let h : least_above (operands e.kind) ≤ k =
    least_is k (operands e.kind) (operands_below s k e c.requires c.expr-e.ensures) in (
      omega arith,
      (
        kind_within s k e c.requires c.expr-e.ensures,
        operands_within s k e (operands e.kind) c.requires c.expr-e.ensures refl,
      ),
    )

pub made_of-expression-requires : goal.made_of-expression-requires
made_of-expression-requires t c =
    let k = c.args.kind.now in
    let h = operand_at c.args.source.now k (c.in-One.a ∷ []) 0 c.in-One.a
    (subst (IsFew k) c.in-One.is c.few_operands.ensures) (omega arith) refl c.requires.there in
    let l = h.0 in (omega arith, h.1)

pub made_of-expression-requires-in-Two : goal.made_of-expression-requires-in-Two
made_of-expression-requires-in-Two t c =
    let k = c.args.kind.now in
    let h = operand_at c.args.source.now k (c.in-Two.a ∷ c.in-Two.b ∷ []) 0 c.in-Two.a
    (subst (IsFew k) c.in-Two.is c.few_operands.ensures) (omega arith) refl c.requires.there in
    let l = h.0 in (omega arith, h.1)

pub made_of-expression-requires-in-Two-2 : goal.made_of-expression-requires-in-Two-2
made_of-expression-requires-in-Two-2 t c =
    let k = c.args.kind.now in
    let h = operand_at c.args.source.now k (c.in-Two.a ∷ c.in-Two.b ∷ []) 1 c.in-Two.b
    (subst (IsFew k) c.in-Two.is c.few_operands.ensures) (omega arith) refl c.requires.there in
    let l = h.0 in (omega arith, h.1)

pub made_of-returns-in_ok-b-in-Two : goal.made_of-returns-in_ok-b-in-Two
made_of-returns-in_ok-b-in-Two t c =
    let s = c.args.source.now in
    let old = c.args.out.now in
    let mid = c.expression-in-Two.new.out in
    let new = c.expression-in-Two-2.new.out in
    let a = c.in_ok-a-in-Two.a in
    let b = c.in_ok-b-in-Two.b in
    if_ok c.kind_with-in-Two.result _ _
    (λ d w. made_of s old new c.args.kind.now d (c.in-Two.a ∷ c.in-Two.b ∷ []) (a ∷ b ∷ [])
    (subst (IsFew c.args.kind.now) c.in-Two.is c.few_operands.ensures)
    (two_terms s old mid new c.in-Two.a c.in-Two.b a b c.in_ok-a-in-Two.ensures c.in_ok-b-in-Two.ensures) w)
    c.kind_with-in-Two.ensures

pub made_of-returns-in-Nothing : goal.made_of-returns-in-Nothing
made_of-returns-in-Nothing t c =
    let s = c.args.source.now in
    let old = c.args.out.now in
    if_ok c.kind_with.result _ _
    (λ d w. made_of s old old c.args.kind.now d [] []
    (subst (IsFew c.args.kind.now) c.in-Nothing.is c.few_operands.ensures)
    (no_terms_add s old) w)
    c.kind_with.ensures

pub made_of-returns-in_ok-a-in-One : goal.made_of-returns-in_ok-a-in-One
made_of-returns-in_ok-a-in-One t c =
    let s = c.args.source.now in
    let old = c.args.out.now in
    let mid = c.expression.new.out in
    if_ok c.kind_with-in-One.result _ _
    (λ d w. made_of s old mid c.args.kind.now d (c.in-One.a ∷ []) (c.in_ok-a-in-One.a ∷ [])
    (subst (IsFew c.args.kind.now) c.in-One.is c.few_operands.ensures)
    (one_term s old mid c.in-One.a c.in_ok-a-in-One.a c.in_ok-a-in-One.ensures) w)
    c.kind_with-in-One.ensures

pub expressions-loop-k-init : goal.expressions-loop-k-init
expressions-loop-k-init t c = rw (c.new-js.ensures.items) (no_terms_add c.args.source.now c.args.out.now)

pub expressions-loop-k-preserved : goal.expressions-loop-k-preserved
expressions-loop-k-preserved t c =
    let l = c.loop-k in
    terms_turn c.args.source.now c.args.out.now l.out c.expression.new.out c.args.ks.now l.k-index _ l.js.items
    c.push.new.self.items c.in_ok-j.j c.loop-k-test.true refl l.invariant c.in_ok-j.ensures c.in_ok-push.ensures.items

pub expressions-returns : goal.expressions-returns
expressions-returns t c =
    let s = c.args.source.now in
    let old = c.args.out.now in
    let l = c.loop-k in
    subst (λ ks. AddsTerms s old l.out (λ names. hidden_in_each names (map (written_term s) ks))
    (ArePassed s old l.out (map (written_term s) ks) l.js.items))
    (take_all l.k-index c.args.ks.now c.loop-k-test.false) l.invariant

pub expression-expr-e-requires : goal.expression-expr-e-requires
expression-expr-e-requires t c = term_within c.args.source.now c.args.k c.requires

pub arguments-expression-requires : goal.arguments-expression-requires
arguments-expression-requires t c =
    let xs = c.args.xs.now in
    let i = c.loop-x.x-index in
    let h : get_or xs i 0 < least_above xs = item_below xs i c.loop-x-test.true in
    (omega arith, c.requires i (get_or xs i 0) (at_index xs i c.loop-x-test.true))

pub arguments-expr-e-requires : goal.arguments-expr-e-requires
arguments-expr-e-requires t c =
    let xs = c.args.xs.now in
    let i = c.loop-x.x-index in
    term_within c.args.source.now (get_or xs i 0) (c.requires i (get_or xs i 0) (at_index xs i c.loop-x-test.true))

pub expressions-expression-requires : goal.expressions-expression-requires
expressions-expression-requires t c =
    let ks = c.args.ks.now in
    let i = c.loop-k.k-index in
    let h : get_or ks i 0 < least_above ks = item_below ks i c.loop-k-test.true in
    (omega arith, c.requires i (get_or ks i 0) (at_index ks i c.loop-k-test.true))

pub expression-call-requires : goal.expression-call-requires
expression-call-requires t c =
    let s = c.args.source.now in
    let k = c.args.k in
    let e = c.expr-e.result.now in
    let are : c.in-Call.f ∷ c.as_slice.result.now ≡ operands e.kind = rw (c.as_slice.ensures, c.in-Call.is) refl in
    let h : least_above (c.in-Call.f ∷ c.as_slice.result.now) ≤ k =
    least_is k (c.in-Call.f ∷ c.as_slice.result.now)
    (subst (AllBelow k) (sym are) (operands_below s k e c.requires c.expr-e.ensures)) in
    let all = operands_within s k e _ c.requires c.expr-e.ensures are in
    (omega arith, (all 0 c.in-Call.f refl, λ j a q. all (suc j) a q))
