use Rattle.c_elaborator.proofs.Sequencing.{lift_term}
use Rattle.c_elaborator.proofs.work.Work.assigned.Goals as goal

pub returns : goal.returns
returns c = lift_term c.args.self.now _ _ _ c.assigned.ensures
