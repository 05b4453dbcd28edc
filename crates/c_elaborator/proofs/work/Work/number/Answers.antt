use Rattle.c_elaborator.proofs.Sequencing.{lift_operand}
use Rattle.c_elaborator.proofs.work.Work.number.Goals as goal

pub returns : goal.returns
returns c = rw (← c.text-text.ensures) (lift_operand c.args.self.now _ _ _ c.number.ensures)
