use Rattle.image_starts.proofs.Words.{images_have_words_law}
use Rattle.image_starts.proofs.laws.images_have_words.Goals as goal

pub returns : goal.returns
returns c = images_have_words_law
