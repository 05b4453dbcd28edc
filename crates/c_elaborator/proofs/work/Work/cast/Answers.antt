use Rattle.c_elaborator.proofs.Sequencing.{lift_operand}
use Rattle.c_elaborator.proofs.work.Work.cast.Goals as goal

pub returns : goal.returns
returns c = lift_operand c.args.self.now _ _ _ c.cast.ensures
