use Rattle.std.proofs.Common.{ap, ◌∙◌}
use Rattle.c_tree.specs.Scopes.{State, take_address}
use Rattle.c_tree.specs.Expressions.{address}
use Rattle.c_operators.specs.Rules.{address_of}
use Rattle.c_elaborator.specs.Answers.{quietly, OperandThere, IsOperand, operand_in}
use Rattle.c_elaborator.proofs.Sequencing.{answers_at, changed, quiet_law, lift_operand}
use Rattle.c_elaborator.proofs.Using.{address_is, taken_local, taken_same, addressed_quiet, still_local, shows_address}
use Rattle.c_elaborator.proofs.Knowing.{local_none, local_known}
use Rattle.c_elaborator.proofs.work.Work.address_of_local.Goals as goal

pub returns-in-None : goal.returns-in-None
returns-in-None c =
    let w = c.args.self.now in
    let a = operand_in w c.args.a in
    let k = c.args.k in
    let p = c.args.pos in
    answers_at quietly w _ _ (address_of a p) OperandThere IsOperand _
    (λ s h. address_is a p s ∙ ap (λ (t : State). address_of a p t)
    (taken_same a.is k s c.requires.local (local_none w.nodes.p k s (c.in-None.ensures w.nodes.p s h.stands))))
    (lift_operand w _ _ _ c.address_of.ensures)

pub returns-in_ok-push_number-in-Some : goal.returns-in_ok-push_number-in-Some
returns-in_ok-push_number-in-Some c =
    let w = c.args.self.now in
    let a = operand_in w c.args.a in
    let p = c.args.pos in
    let ks = c.push_number.new.numbers in
    let k = c.args.k in
    changed quietly quiet_law w (record w { addressed = ks }) _ (take_address k) (address a p)
    (address_of a p) OperandThere IsOperand _
    c.requires.whole (addressed_quiet w ks _ c.in_ok-push_number-in-Some.ensures) (λ s h. still_local k s)
    (λ s h. let v = local_known w.nodes.p k _ s (c.in-Some.ensures w.nodes.p s h.stands) in
    shows_address w ks k s v.0 c.in_ok-push_number-in-Some.ensures v.1 h)
    (λ s h. address_is a p s ∙ ap (λ (t : State). address_of a p t) (taken_local a.is k s c.requires.local))
    (lift_operand (record w { addressed = ks }) _ _ _ c.address_of-in-Some.ensures)
