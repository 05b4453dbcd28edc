use Rattle.tac_rows.proofs.Framed.{no_locals, framed_one}
use Rattle.tac_rows.proofs.selection.selected.Goals as goal

pub frame-requires-clause-locals : goal.frame-requires-clause-locals
frame-requires-clause-locals c = rw c.new.ensures.items no_locals

pub select_within-requires-clause-framed : goal.select_within-requires-clause-framed
select_within-requires-clause-framed c =
    framed_one _ _ _ _ c.in_ok-places.ensures.items c.in_ok-frames.ensures.items c.in_ok-f.ensures.saved
