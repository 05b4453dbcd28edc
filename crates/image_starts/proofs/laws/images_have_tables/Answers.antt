use Rattle.image_starts.proofs.Started.{images_have_tables_law}
use Rattle.image_starts.proofs.laws.images_have_tables.Goals as goal

pub returns : goal.returns
returns c = images_have_tables_law
