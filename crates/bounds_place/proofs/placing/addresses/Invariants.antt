use Rattle.std.proofs.Common.{◌≡◌, ◌+◌, take, map}
use Rattle.bounds_place.proofs.placing.addresses.Given as goal

abbrev pub invariant-loop-at : goal.invariant-loop-at
invariant-loop-at l = l.addresses.items ≡ map (λ at. 1073741824 + at) (take l.at-index l.entries)
