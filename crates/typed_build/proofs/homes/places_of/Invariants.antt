use Rattle.std.proofs.Common.{◌≡◌, length}
use Rattle.typed_build.specs.Frames.{HaveHomes}
use Rattle.typed_build.specs.Registers.{HavePlaces}
use Rattle.typed_build.proofs.homes.places_of.Given as goal

abbrev pub invariant-loop-f : goal.invariant-loop-f
invariant-loop-f l = record {
  len : length l.places.items ≡ l.f-index;
  homes : HaveHomes l.funs l.places.items;
  checked : HavePlaces l.funs l.places.items;
}
