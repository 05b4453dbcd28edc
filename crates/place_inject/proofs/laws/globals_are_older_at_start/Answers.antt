use Rattle.place_inject.proofs.Older.{globals_are_older_at_start_law}
use Rattle.place_inject.proofs.laws.globals_are_older_at_start.Goals as goal

pub returns : goal.returns
returns c = globals_are_older_at_start_law
