use Rattle.obj_mem.proofs.Spread.{objects_are_exact_law}
use Rattle.obj_mem.proofs.laws.objects_are_exact.Goals as goal

pub returns : goal.returns
returns c = objects_are_exact_law
