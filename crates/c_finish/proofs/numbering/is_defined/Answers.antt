use Rattle.std.proofs.Common.{sym, ap}
use Rattle.c_tree.specs.Programs.{is_there}
use Rattle.c_finish.proofs.numbering.is_defined.Goals as goal

pub returns-in-None : goal.returns-in-None
returns-in-None c = sym (ap is_there (rw c.in-None.is at c.definition-found.ensures))

pub returns-in-Some : goal.returns-in-Some
returns-in-Some c = sym (ap is_there (rw c.in-Some.is at c.definition-found.ensures))
