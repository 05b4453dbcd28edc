use Rattle.std.proofs.Common.{◌∙◌}
use Rattle.tac_rows.proofs.Framed.{homes_are}
use Rattle.tac_rows.proofs.selection.places.Goals as goal

pub returns : goal.returns
returns c = homes_are _ (c.from_vec.ensures ∙ c.in_ok-vec.ensures.items)
