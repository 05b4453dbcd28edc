use Rattle.std.proofs.Common.{◌<◌, ◌≤◌, ◌⊎◌, inl, inr, ⊎_elim, length, map, get_or, refl, arith}
use Rattle.std.proofs.lemmas.List.{get_or_default}
use Rattle.std.proofs.lemmas.Result.{err_from_is_err_and}
use Rattle.c_tree.specs.Expressions.{asked}
use Rattle.c_expressions.specs.declared.nodes.Operand.{Operand}
use Rattle.c_expressions.specs.Nodes.{IsTerm, operand_in, term_in, term_count}
use Rattle.c_expressions.proofs.Keeping.{answers_err}
use Rattle.c_operators.specs.declared.services.Asked.{Asked}
use Rattle.c_operators.specs.declared.services.Asked.TheVariants.{Capability}
use Rattle.c_operand_rules.specs.Called.{AreTerms}
use Rattle.c_operators.specs.Services.{asked_as}
use Rattle.c_operand_rules.proofs.Arguments.{there_at}
use Rattle.c_operators.proofs.Asking.{asked_from, asking_start, asking_more, asking_refuses, asking_end}
use Rattle.c_operators.proofs.services.all_asked.Goals as goal

pub loop-k-init : goal.loop-k-init
loop-k-init c = rw c.new-values.ensures.items
    (asking_start c.args.nodes.now c.args.takes.now c.args.xs.now c.requires.whole)

pub as_asked-requires-clause-operand : goal.as_asked-requires-clause-operand
as_asked-requires-clause-operand c =
    let n = c.args.nodes.now in
    let k = c.loop-k.k in
    let f = c.fewer-count.ensures.second in
    let lx : k < length c.args.xs.now = omega arith in
    let x : Operand = get_or c.args.xs.now k (record { node = 0; first = record { line = 0; col = 0 } }) in
    let h : x.node < term_count n =
    there_at (term_count n) c.args.xs.now k x c.requires.operands lx (get_or_default c.args.xs.now k _ x lx) in
    let m = c.loop-k.invariant.keeps.more_terms in
    omega arith

pub returns-in_err-value : goal.returns-in_err-value
returns-in_err-value c =
    let n = c.args.nodes.now in
    let k = c.loop-k.k in
    let f = c.fewer-count.ensures.first in
    let g = c.fewer-count.ensures.second in
    let la : k < length c.args.takes.now = omega arith in
    let lx : k < length c.args.xs.now = omega arith in
    let a : Asked = get_or c.args.takes.now k Capability in
    let x : Operand = get_or c.args.xs.now k (record { node = 0; first = record { line = 0; col = 0 } }) in
    let p = err_from_is_err_and c.from_residual.result c.from_residual.ensures.1 in
    rw (p.1, p.2)
    (answers_err c.loop-k.nodes c.as_asked.new.nodes n c.as_asked.new.nodes
    (asked (asked_as a) (operand_in c.loop-k.nodes x))
    (asked_from n c.args.takes.now c.args.xs.now 0) IsTerm AreTerms _
    (λ code q h. asking_refuses n c.loop-k.nodes c.args.takes.now c.args.xs.now k a x c.loop-k.values.items code q
    c.requires.operands c.loop-k.invariant la lx
    (get_or_default c.args.takes.now k _ a la) (get_or_default c.args.xs.now k _ x lx) h) c.in_err-value.ensures)

pub loop-k-preserved : goal.loop-k-preserved
loop-k-preserved c =
    let n = c.args.nodes.now in
    let k = c.loop-k.k in
    let f = c.fewer-count.ensures.first in
    let g = c.fewer-count.ensures.second in
    let la : k < length c.args.takes.now = omega arith in
    let lx : k < length c.args.xs.now = omega arith in
    let a : Asked = get_or c.args.takes.now k Capability in
    let x : Operand = get_or c.args.xs.now k (record { node = 0; first = record { line = 0; col = 0 } }) in
    rw c.in_ok-push.ensures
    (asking_more n c.loop-k.nodes c.as_asked.new.nodes c.args.takes.now c.args.xs.now k c.in_ok-value.value a x
    c.loop-k.values.items c.requires.operands c.loop-k.invariant la lx
    (get_or_default c.args.takes.now k _ a la) (get_or_default c.args.xs.now k _ x lx) c.in_ok-value.ensures)

pub returns : goal.returns
returns c =
    let n = c.args.nodes.now in
    let m = c.loop-k.nodes in
    let k = c.loop-k.k in
    let e : (length c.args.takes.now ≤ k) ⊎ (length c.args.xs.now ≤ k) =
    ⊎_elim (λ h. inl (omega arith)) (λ h. inr (omega arith)) c.fewer-count.ensures.one in
    record {
      value = map (term_in m) c.loop-k.values.items;
      is = asking_end n m c.args.takes.now c.args.xs.now k c.loop-k.values.items c.loop-k.invariant e;
      keeps = c.loop-k.invariant.keeps;
      shows = record { there = c.loop-k.invariant.there; is = refl };
    }
