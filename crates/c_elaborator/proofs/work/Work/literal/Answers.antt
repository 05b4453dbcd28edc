use Rattle.c_elaborator.specs.Answers.{quietly, OperandThere, IsOperand}
use Rattle.c_elaborator.specs.Rules.{writing}
use Rattle.c_elaborator.specs.Parts.{token_of}
use Rattle.c_elaborator.proofs.Sequencing.{answers_at}
use Rattle.c_elaborator.proofs.Writing.{text_is}
use Rattle.c_elaborator.proofs.work.Work.literal.Goals as goal

pub returns : goal.returns
returns c xs h =
    let w = c.args.self.now in
    answers_at quietly w _ _ (writing c.in_ok-bytes.bytes.items c.args.name.pos) OperandThere IsOperand _
    (λ s k. text_is (token_of w c.args.name) xs _ s (c.in_ok-bytes.ensures xs h)) c.written.ensures
