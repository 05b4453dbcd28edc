use Rattle.std.proofs.Common.{◌≡◌, ℕ, ◌+◌, ◌<◌, ◌≤◌, List, ◌++◌, length, take, length-append, length-take-le, arith}
use Rattle.c_lex.specs.declared.places.Place.{Place}
use Rattle.c_lex.specs.Pieces.{place_behind}
use Rattle.c_lex.proofs.Positions.{place_bounds}
use Rattle.c_lex.proofs.places.behind.Goals as goal

bounds : (place : Place) (front bytes : List ℕ) (i : ℕ) → i < length bytes → length front + length bytes ≤ 4194304 →
    place ≡ place_behind (front ++ take i bytes) →
    (place.at < 4194304) × (place.pos.line ≤ 4194304) × (place.pos.col ≤ 4194304)
bounds place front bytes i within small is =
    let small_place = place_bounds place (front ++ take i bytes) is in
    let long = length-append front (take i bytes) in
    let taken = length-take-le i bytes (omega arith) in
    (omega (arith, small_place.0), omega (arith, small_place.1), omega (arith, small_place.2))

pub behind_byte-place-requires : goal.behind_byte-place-requires
behind_byte-place-requires c =
    let small = bounds c.loop-b.place c.requires.0 c.args.bytes.now c.loop-b.b-index (omega arith) c.requires.2
    (c.loop-b.invariant c.requires.0 c.requires.1) in
    record { at = omega (arith, small.0); line = omega (arith, small.1); col = omega (arith, small.2) }
