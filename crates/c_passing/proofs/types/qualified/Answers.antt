use Rattle.c_passing.proofs.Numbering.{adds_const, kept_push}
use Rattle.c_passing.proofs.types.qualified.Goals as goal
use Rattle.passing_steps.proofs.Results.{on_ok}

pub returns : goal.returns
returns c =
    on_ok c.keep.result _ _
    (λ k. adds_const c.args.types.now c.args.into.now c.keep.new.into c.args.t c.number-of.result
    c.pointer-pointer.result
    c.number-of.ensures c.pointer-pointer.ensures
    (kept_push c.args.into.now c.push.new.into c.keep.new.into _ _ _ c.in_ok-k.ensures.list c.in_ok-k.ensures.rest
    (rw (← c.in_ok-k.ensures.number) k)))
    c.keep.ensures
