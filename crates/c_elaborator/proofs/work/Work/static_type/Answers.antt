use Rattle.c_elaborator.proofs.Knowing.{static_void, static_is}
use Rattle.c_elaborator.proofs.work.Work.static_type.Goals as goal

pub returns-in-None-clause-is : goal.returns-in-None-clause-is
returns-in-None-clause-is c = static_void c.args.self.now c.args.k c.requires c.in-None.ensures.is

pub returns-in-Some-clause-is : goal.returns-in-Some-clause-is
returns-in-Some-clause-is c = static_is c.args.self.now c.args.k c.in-Some.of c.in-Some.ensures.is
