use Rattle.c_elaborator.specs.Answers.{quietly, OperandThere, IsOperand}
use Rattle.c_elaborator.specs.Rules.{denoting}
use Rattle.c_elaborator.proofs.Naming.{named_is}
use Rattle.c_elaborator.proofs.Sequencing.{answers_at}
use Rattle.c_elaborator.proofs.work.Work.named.Goals as goal

pub returns : goal.returns
returns c =
    let w = c.args.self.now in
    answers_at quietly w _ _ (denoting w.nodes c.look-entity.result c.args.name.pos) OperandThere IsOperand _
    (λ s h. named_is w c.args.name c.look-entity.result s
    (let e = c.look-entity.ensures w.nodes.p s h.stands in rw c.text.ensures at e)) c.denoted.ensures
