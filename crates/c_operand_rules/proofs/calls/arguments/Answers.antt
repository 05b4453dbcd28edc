use Rattle.std.proofs.Common.{◌<◌, ◌≤◌, ◌⊎◌, inl, inr, ⊎_elim, length, map, get_or, refl, arith}
use Rattle.std.proofs.lemmas.List.{get_or_default}
use Rattle.std.proofs.lemmas.Result.{err_from_is_err_and}
use Rattle.c_tree.specs.Conversions.{assigned}
use Rattle.c_expressions.specs.declared.nodes.Operand.{Operand}
use Rattle.c_operand_rules.specs.Called.{AreTerms}
use Rattle.c_expressions.specs.Nodes.{IsTerm, operand_in, type_in, term_in, type_count, term_count}
use Rattle.c_operand_rules.proofs.Arguments.{left_from, reached_start, below_at, there_at, reached_more}
use Rattle.c_operand_rules.proofs.Arguments.{reached_refuses, reached_end}
use Rattle.c_expressions.proofs.Keeping.{answers_err}
use Rattle.c_operand_rules.proofs.calls.arguments.Goals as goal

pub loop-k-init : goal.loop-k-init
loop-k-init c = rw c.new-values.ensures.items
    (reached_start c.args.nodes.now c.args.params.now c.args.xs.now c.requires.whole)

pub assigned-requires-clause-to : goal.assigned-requires-clause-to
assigned-requires-clause-to c =
    let n = c.args.nodes.now in
    let k = c.loop-k.k in
    let f = c.fewer-count.ensures.first in
    let lp : k < length c.args.params.now = omega arith in
    let h : get_or c.args.params.now k 0 < type_count n =
    below_at (type_count n) c.args.params.now k _ c.requires.params lp
    (get_or_default c.args.params.now k 0 _ lp) in
    let m = c.loop-k.invariant.keeps.more_types in
    omega arith

pub assigned-requires-clause-operand : goal.assigned-requires-clause-operand
assigned-requires-clause-operand c =
    let n = c.args.nodes.now in
    let k = c.loop-k.k in
    let f = c.fewer-count.ensures.second in
    let lx : k < length c.args.xs.now = omega arith in
    let x : Operand = get_or c.args.xs.now k (record { node = 0; first = record { line = 0; col = 0 } }) in
    let h : x.node < term_count n =
    there_at (term_count n) c.args.xs.now k x c.requires.operands lx (get_or_default c.args.xs.now k _ x lx) in
    let m = c.loop-k.invariant.keeps.more_terms in
    omega arith

pub returns-in_err-value : goal.returns-in_err-value
returns-in_err-value c =
    let n = c.args.nodes.now in
    let k = c.loop-k.k in
    let f = c.fewer-count.ensures.first in
    let g = c.fewer-count.ensures.second in
    let lp : k < length c.args.params.now = omega arith in
    let lx : k < length c.args.xs.now = omega arith in
    let x : Operand = get_or c.args.xs.now k (record { node = 0; first = record { line = 0; col = 0 } }) in
    let p = err_from_is_err_and c.from_residual.result c.from_residual.ensures.1 in
    rw (p.1, p.2)
    (answers_err c.loop-k.nodes c.assigned.new.self n c.assigned.new.self
    (assigned (type_in c.loop-k.nodes (get_or c.args.params.now k 0)) (operand_in c.loop-k.nodes x))
    (left_from n c.args.params.now c.args.xs.now 0) IsTerm AreTerms _
    (λ code q h. reached_refuses n c.loop-k.nodes c.args.params.now c.args.xs.now k _ x c.loop-k.values.items code q
    c.requires.params c.requires.operands c.loop-k.invariant lp lx
    (get_or_default c.args.params.now k 0 _ lp) (get_or_default c.args.xs.now k _ x lx) h) c.in_err-value.ensures)

pub loop-k-preserved : goal.loop-k-preserved
loop-k-preserved c =
    let n = c.args.nodes.now in
    let k = c.loop-k.k in
    let f = c.fewer-count.ensures.first in
    let g = c.fewer-count.ensures.second in
    let lp : k < length c.args.params.now = omega arith in
    let lx : k < length c.args.xs.now = omega arith in
    let x : Operand = get_or c.args.xs.now k (record { node = 0; first = record { line = 0; col = 0 } }) in
    rw c.in_ok-push.ensures
    (reached_more n c.loop-k.nodes c.assigned.new.self c.args.params.now c.args.xs.now k _ c.in_ok-value.value x
    c.loop-k.values.items c.requires.params c.requires.operands c.loop-k.invariant lp lx
    (get_or_default c.args.params.now k 0 _ lp) (get_or_default c.args.xs.now k _ x lx) c.in_ok-value.ensures)

pub returns : goal.returns
returns c =
    let n = c.args.nodes.now in
    let m = c.loop-k.nodes in
    let k = c.loop-k.k in
    let e : (length c.args.params.now ≤ k) ⊎ (length c.args.xs.now ≤ k) =
    ⊎_elim (λ h. inl (omega arith)) (λ h. inr (omega arith)) c.fewer-count.ensures.one in
    record {
      value = map (term_in m) c.loop-k.values.items;
      is = reached_end n m c.args.params.now c.args.xs.now k c.loop-k.values.items c.loop-k.invariant e;
      keeps = c.loop-k.invariant.keeps;
      shows = record { there = c.loop-k.invariant.there; is = refl };
    }
