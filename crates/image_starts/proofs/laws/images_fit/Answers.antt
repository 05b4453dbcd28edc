use Rattle.image_starts.proofs.Started.{images_fit_by}
use Rattle.image_starts.proofs.laws.images_fit.Goals as goal

pub returns : goal.returns
returns c = images_fit_by c.start_fits.ensures
