use Rattle.value_trees.proofs.Places.{are_placed}
use Rattle.value_trees.proofs.places_have_positions.Goals as goal

pub returns : goal.returns
returns c = record { placed = are_placed }
