use Rattle.same_programs.proofs.Gathered.{alike_law}
use Rattle.same_programs.proofs.laws.alike_programs_are_same.Goals as goal

pub returns : goal.returns
returns c = alike_law
