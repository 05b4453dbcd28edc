use Rattle.tac_lower.proofs.places.+place_pos.Given as goal

abbrev pub decreases-place_pos : goal.decreases-place_pos
decreases-place_pos l = l.k
