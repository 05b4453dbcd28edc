use Rattle.typing_laws.proofs.Sound.{well_typed}
use Rattle.typing_laws.proofs.laws.sound_programs_fit.Goals as goal

pub returns : goal.returns
returns c = record { well_typed = well_typed }
