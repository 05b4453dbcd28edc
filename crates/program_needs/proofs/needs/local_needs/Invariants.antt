use Rattle.std.proofs.Common.{◌≡◌, take, map}
use Rattle.std.specs.List.{filter}
use Rattle.obj_mem.specs.Needs.{local_need, is_object}
use Rattle.program_needs.specs.Needs.{owned_need}
use Rattle.program_needs.proofs.needs.local_needs.Given as goal

abbrev pub invariant-loop-v : goal.invariant-loop-v
invariant-loop-v l = l.needs.items ≡ map owned_need
    (map (local_need l.p.types) (filter is_object (take l.v-index l.vars)))
