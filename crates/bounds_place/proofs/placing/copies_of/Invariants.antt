use Rattle.std.proofs.Common.{◌≡◌, take}
use Rattle.bounds_place.proofs.placing.copies_of.Given as goal

abbrev pub invariant-loop-f : goal.invariant-loop-f
invariant-loop-f l = l.copies.items ≡ take l.f-index l.frames
