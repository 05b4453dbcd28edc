use Rattle.c_passing.proofs.Numbering.{kept_push}
use Rattle.c_passing.proofs.types.plainly.Goals as goal
use Rattle.passing_steps.proofs.Results.{on_ok}

pub returns : goal.returns
returns c =
    on_ok c.keep.result _ _ (λ k. kept_push c.args.into.now c.push.new.into c.keep.new.into c.args.c _ _
    c.in_ok-k.ensures.list c.in_ok-k.ensures.rest (rw (← c.in_ok-k.ensures.number) k)) c.keep.ensures
