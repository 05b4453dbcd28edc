use Rattle.std.proofs.Common.{◌≡◌, take}
use Rattle.std.specs.Prelude.{sum_by}
use Rattle.program_needs.specs.Needs.{counted}
use Rattle.program_needs.proofs.Locals.{var_room}
use Rattle.program_needs.proofs.needs.local_room.Given as goal

abbrev pub invariant-loop-v : goal.invariant-loop-v
invariant-loop-v l = l.total ≡ counted (sum_by (var_room l.p.types) (take l.v-index l.vars))
