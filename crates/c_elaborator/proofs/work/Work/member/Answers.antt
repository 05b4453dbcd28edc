use Rattle.std.proofs.Common.{ap, sym, ◌∙◌}
use Rattle.c_tree.specs.Types.{Ty}
use Rattle.c_expressions.specs.Nodes.{type_in}
use Rattle.c_elaborator.specs.Answers.{quietly, OperandThere, IsOperand, operand_in}
use Rattle.c_elaborator.proofs.Selecting.{spelled, membering, member_found}
use Rattle.c_elaborator.proofs.Sequencing.{answers_at}
use Rattle.c_elaborator.proofs.work.Work.member.Goals as goal

pub returns : goal.returns
returns c =
    let w = c.args.self.now in
    let a = operand_in w c.args.a in
    let p = c.args.pos in
    let k = c.in_ok-found.found.number in
    let t = type_in w.nodes c.of-whole.result in
    answers_at quietly w _ _ (membering a p (k, type_in w.nodes c.there-of.result)) OperandThere IsOperand _
    (λ s h. member_found a c.args.name.now p t (k, type_in w.nodes c.in_ok-found.found.of) s c.of-whole.ensures.is
    (c.in_ok-found.ensures s h.stands (spelled w s h))
    ∙ ap (λ (u : Ty). membering a p (k, u) s) (sym c.there-of.ensures.is))
    c.member_at.ensures
