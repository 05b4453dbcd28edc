use Rattle.image_starts.proofs.Loaded.{images_have_stacks_law}
use Rattle.image_starts.proofs.laws.images_have_stacks.Goals as goal

pub returns : goal.returns
returns c = images_have_stacks_law
