use Rattle.place_inject.proofs.Older.{others_are_older_at_entries_law}
use Rattle.place_inject.proofs.laws.others_are_older_at_entries.Goals as goal

pub returns : goal.returns
returns c = others_are_older_at_entries_law
