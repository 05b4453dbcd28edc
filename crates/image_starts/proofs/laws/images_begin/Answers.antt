use Rattle.image_starts.proofs.Texts.{images_begin_law}
use Rattle.image_starts.proofs.laws.images_begin.Goals as goal

pub returns : goal.returns
returns c = images_begin_law
