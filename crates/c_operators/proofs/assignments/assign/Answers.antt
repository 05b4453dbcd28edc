use Rattle.std.proofs.Common.{ap, sym, ◌∙◌}
use Rattle.std.proofs.lemmas.Result.{err_from_is_err_and}
use Rattle.c_tree.specs.Types.{bare}
use Rattle.c_tree.specs.Terms.{Assign, join}
use Rattle.c_tree.specs.Conversions.{assigned}
use Rattle.c_tree.specs.Expressions.{assign, is_modifiable}
use Rattle.c_expressions.specs.Nodes.{IsTerm, IsOperand, HasTerm, operand_in, term_in}
use Rattle.c_operators.proofs.Assigning.{then_refuses, then_gives, then_refused}
use Rattle.c_expressions.proofs.Keeping.{answers_err, given_operand, typed_right, type_is}
use Rattle.c_operators.proofs.assignments.assign.Goals as goal

pub returns-then-not-is_modifiable : goal.returns-then-not-is_modifiable
returns-then-not-is_modifiable c =
    then_refused (is_modifiable (term_in c.args.nodes.now c.args.a.node)) 133 c.args.a.first _ _
    (c.is_modifiable.ensures ∙ c.if-not-is_modifiable.true)

pub returns-in_err-value : goal.returns-in_err-value
returns-in_err-value c =
    let n = c.args.nodes.now in
    let p = err_from_is_err_and c.from_residual.result c.from_residual.ensures.1 in
    rw (p.1, p.2)
    (answers_err n c.assigned.new.self n c.assigned.new.self _
    (assign (operand_in n c.args.a) (operand_in n c.args.b) c.args.pos) IsTerm IsOperand _
    (λ code q h. then_refuses (is_modifiable (term_in n c.args.a.node)) 133 c.args.a.first _ _ code q
    (c.is_modifiable.ensures ∙ c.if-not-is_modifiable.false)
    (λ s. ap (λ t. assigned t (operand_in n c.args.b) s) (sym c.of-of.ensures.is) ∙ h s)) c.in_err-value.ensures)

pub returns : goal.returns
returns c =
    let n = c.args.nodes.now in
    let v = c.in_ok-value.ensures in
    let t = type_is n _ _ _ c.bare-to.ensures (ap bare c.of-of.ensures.is) in
    let h : HasTerm n c.assigned.new.self c.in_ok-value.value v.value = record { keeps = v.keeps; is = v.shows } in
    given_operand n _ _ _ _
    (typed_right (λ x y u. join Assign x y u c.args.pos) n c.assigned.new.self _ c.args.a.node _ _ c.bare-to.result
    v.value _ c.requires.left t h c.in_ok-node.ensures)
    (λ s. then_gives (is_modifiable (term_in n c.args.a.node)) 133 c.args.a.first _ _ v.value s
    (c.is_modifiable.ensures ∙ c.if-not-is_modifiable.false)
    (ap (λ t. assigned t (operand_in n c.args.b) s) (sym c.of-of.ensures.is) ∙ v.is s))
