use Rattle.temp_homes.proofs.Kept.{homes_keep_temps_law}
use Rattle.temp_homes.proofs.laws.homes_keep_temps.Goals as goal

pub returns : goal.returns
returns c = homes_keep_temps_law
