use Rattle.c_readings.proofs.expressions.+library.Given as goal

abbrev pub decreases-library : goal.decreases-library
decreases-library l = l.depth
