use Rattle.cap_concentrate.proofs.Requests.{masked}
use Rattle.cap_concentrate.proofs.rounding.rounded_length.Goals as goal

pub returns : goal.returns
returns c = masked c.args.len _ c.alignment_mask-mask.ensures
