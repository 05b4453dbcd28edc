use Rattle.image_starts.proofs.Texts.{images_are_text_law}
use Rattle.image_starts.proofs.laws.images_are_text.Goals as goal

pub returns : goal.returns
returns c = images_are_text_law
