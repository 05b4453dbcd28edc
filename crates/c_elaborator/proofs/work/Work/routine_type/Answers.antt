use Rattle.c_elaborator.proofs.Knowing.{routine_void, routine_is}
use Rattle.c_elaborator.proofs.work.Work.routine_type.Goals as goal

pub returns-in-None-clause-is : goal.returns-in-None-clause-is
returns-in-None-clause-is c = routine_void c.args.self.now c.args.k c.requires c.in-None.ensures.is

pub returns-in-Some-clause-is : goal.returns-in-Some-clause-is
returns-in-Some-clause-is c = routine_is c.args.self.now c.args.k c.in-Some.of c.in-Some.ensures.is
