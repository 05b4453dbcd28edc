-- A list of which one item is set, if it has so many.
use Rattle.std.proofs.lemmas.List.{set_past}

pub ruleset sets = (set_past)
