use Rattle.std.proofs.Common.{◌≡◌, ap, ◌∙◌, map}
use Rattle.std.proofs.lemmas.Result.{err_from_is_err_and}
use Rattle.c_tree.specs.Types.{bare}
use Rattle.c_tree.specs.Terms.{Call, term, terms, with_term}
use Rattle.c_operand_rules.specs.Called.{AreTerms}
use Rattle.c_expressions.specs.Nodes.{IsOperand, operand_in, type_in, term_in}
use Rattle.c_operand_rules.proofs.Arguments.{left_from, call_in, call_refuses, call_few, call_done}
use Rattle.c_expressions.proofs.Keeping.{answers_err, given_operand, has_term_then}
use Rattle.c_operand_rules.proofs.calls.called.Goals as goal

pub returns-in_err-values : goal.returns-in_err-values
returns-in_err-values c =
    let n = c.args.nodes.now in
    let p = err_from_is_err_and c.from_residual.result c.from_residual.ensures.1 in
    rw (p.1, p.2)
    (answers_err n c.arguments.new.nodes n c.arguments.new.nodes (left_from n c.args.params.now c.args.xs.now 0)
    (call_in n c.args.f c.args.gives c.args.params.now c.args.xs.now c.args.pos) AreTerms IsOperand _
    (λ code q h. call_refuses n c.args.f c.args.gives c.args.params.now c.args.xs.now c.args.pos code q h)
    c.in_err-values.ensures)

pub returns-then-not-are_as_many : goal.returns-then-not-are_as_many
returns-then-not-are_as_many c =
    let n = c.args.nodes.now in
    let v = c.in_ok-values.ensures in
    call_few n c.args.f c.args.gives c.args.params.now c.args.xs.now c.args.pos v.value _ v.is
    (c.are_as_many.ensures (type_in n) (operand_in n)) c.if-not-are_as_many.true

pub returns : goal.returns
returns c =
    let n = c.args.nodes.now in
    let m = c.arguments.new.nodes in
    let v = c.in_ok-values.ensures in
    let to : type_in m c.bare-to.result ≡ bare (type_in n c.args.gives) =
    c.bare-to.ensures.is ∙ ap bare (v.keeps.types c.args.gives c.requires.gives) in
    given_operand n _ _ _ _
    (has_term_then n m _ _ _ _ v.keeps c.in_ok-node.ensures
    (ap (λ x. term Call (with_term x (terms (map (term_in m) c.in_ok-values.values.items)))
    (type_in m c.bare-to.result) c.args.pos) (v.keeps.terms c.args.f.node c.requires.called)
    ∙ ap (λ ys. term Call (with_term (term_in n c.args.f.node) (terms ys)) (type_in m c.bare-to.result) c.args.pos)
    v.shows.is
    ∙ ap (λ u. term Call (with_term (term_in n c.args.f.node) (terms v.value)) u c.args.pos) to))
    (call_done n c.args.f c.args.gives c.args.params.now c.args.xs.now c.args.pos v.value _ v.is
    (c.are_as_many.ensures (type_in n) (operand_in n)) c.if-not-are_as_many.false)
