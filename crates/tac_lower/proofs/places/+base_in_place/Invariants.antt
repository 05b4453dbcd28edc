use Rattle.tac_lower.proofs.places.+base_in_place.Given as goal

abbrev pub decreases-base_in_place : goal.decreases-base_in_place
decreases-base_in_place l = l.k
