use Rattle.std.proofs.Common.{◌≡◌, take}
use Rattle.std.specs.Prelude.{sum_by}
use Rattle.program_needs.specs.Needs.{room, counted}
use Rattle.program_needs.proofs.needs.room.Given as goal

abbrev pub invariant-loop-n : goal.invariant-loop-n
invariant-loop-n l = l.total ≡ counted (sum_by room (take l.n-index l.needs))
