use Rattle.std.proofs.Common.{◌≡◌, take, map}
use Rattle.obj_mem.specs.Needs.{global_need}
use Rattle.program_needs.specs.Needs.{need}
use Rattle.program_needs.proofs.needs.global_needs.Given as goal

abbrev pub invariant-loop-g : goal.invariant-loop-g
invariant-loop-g l = l.needs.items ≡ map need (map (global_need l.p.types) (take l.g-index l.globals))
