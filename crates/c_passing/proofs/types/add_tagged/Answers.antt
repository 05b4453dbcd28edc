use Rattle.c_passing.proofs.Numbering.{pointer_number}
use Rattle.c_passing.proofs.types.add_tagged.Goals as goal
use Rattle.passing_steps.proofs.Results.{on_ok}

pub returns : goal.returns
returns c =
    on_ok c.keep.result _ _
    (λ k. pointer_number c.args.into.now c.push.new.into c.push-2.new.into c.keep.new.into c.args.c c.in_ok-k.k
    c.in_ok-pointer.pointer c.in_ok-k.ensures.list c.in_ok-k.ensures.number c.in_ok-k.ensures.rest
    c.in_ok-pointer.ensures.list c.in_ok-pointer.ensures.number c.in_ok-pointer.ensures.rest k)
    c.keep.ensures
