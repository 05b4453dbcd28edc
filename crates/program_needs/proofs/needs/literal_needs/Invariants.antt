use Rattle.std.proofs.Common.{◌≡◌, take, map}
use Rattle.obj_mem.specs.Needs.{literal_need}
use Rattle.program_needs.specs.Needs.{need}
use Rattle.program_needs.proofs.needs.literal_needs.Given as goal

abbrev pub invariant-loop-l : goal.invariant-loop-l
invariant-loop-l l = l.needs.items ≡ map need (map literal_need (take l.l-index l.literals))
