use Rattle.std.proofs.Common.{◌≡◌, ap, ◌∙◌, map}
use Rattle.std.proofs.lemmas.Result.{err_from_is_err_and}
use Rattle.c_tree.specs.Terms.{Library, term, terms}
use Rattle.c_tree.specs.Expressions.{given_type}
use Rattle.c_expressions.specs.Nodes.{IsOperand, operand_in, type_in, term_in}
use Rattle.c_expressions.proofs.Keeping.{answers_err, given_operand, has_term_then, keeps_then}
use Rattle.c_operand_rules.specs.Called.{AreTerms}
use Rattle.c_operators.specs.Services.{given_as}
use Rattle.c_operators.proofs.Asking.{asked_from, served_in, served_refuses, served_few, served_done, terms_kept}
use Rattle.c_operators.proofs.services.served.Goals as goal

pub given_type-requires-clause-there : goal.given_type-requires-clause-there
given_type-requires-clause-there c = rw c.as_slice.ensures.value c.in_ok-values.ensures.shows.there

pub returns-in_err-values : goal.returns-in_err-values
returns-in_err-values c =
    let n = c.args.nodes.now in
    let p = err_from_is_err_and c.from_residual.result c.from_residual.ensures.1 in
    rw (p.1, p.2)
    (answers_err n c.all_asked.new.nodes n c.all_asked.new.nodes (asked_from n c.args.takes.now c.args.xs.now 0)
    (served_in n c.args.takes.now c.args.gives c.args.service c.args.xs.now c.args.pos c.args.first) AreTerms
    IsOperand _
    (λ code q h. served_refuses n c.args.takes.now c.args.gives c.args.service c.args.xs.now c.args.pos c.args.first
    code q h) c.in_err-values.ensures)

pub returns-then-not-are_as_many_asked : goal.returns-then-not-are_as_many_asked
returns-then-not-are_as_many_asked c =
    let n = c.args.nodes.now in
    let v = c.in_ok-values.ensures in
    served_few n c.args.takes.now c.args.gives c.args.service c.args.xs.now c.args.pos c.args.first v.value _ v.is
    c.are_as_many_asked.ensures c.if-not-are_as_many_asked.true

pub returns : goal.returns
returns c =
    let n = c.args.nodes.now in
    let m = c.all_asked.new.nodes in
    let l = c.given_type.new.nodes in
    let v = c.in_ok-values.ensures in
    let g = c.in_ok-of.ensures in
    let vs = c.in_ok-values.values.items in
    let same : map (term_in m) vs ≡ v.value = v.shows.is in
    let kept : map (term_in l) vs ≡ v.value = terms_kept m l vs g.keeps v.shows.there ∙ same in
    given_operand n _ _ _ _
    (has_term_then n l _ _ _ _ (keeps_then n m l v.keeps g.keeps) c.in_ok-node.ensures
    (ap (λ ys. term (Library c.args.service) (terms ys) (type_in l c.in_ok-of.of) c.args.pos) kept
    ∙ ap (λ t. term (Library c.args.service) (terms v.value) t c.args.pos)
    (g.is.is ∙ ap (λ ys. given_type (given_as c.args.gives) ys)
    (ap (map (term_in m)) c.as_slice.ensures.value ∙ same))))
    (served_done n c.args.takes.now c.args.gives c.args.service c.args.xs.now c.args.pos c.args.first v.value _ v.is
    c.are_as_many_asked.ensures c.if-not-are_as_many_asked.false)
