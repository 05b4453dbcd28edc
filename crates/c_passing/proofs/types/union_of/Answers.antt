use Rattle.c_passing.proofs.Numbering.{adds_union}
use Rattle.c_passing.proofs.types.union_of.Goals as goal
use Rattle.passing_steps.proofs.Results.{on_ok}

pub returns : goal.returns
returns c = on_ok c.add_tagged.result _ _ (λ k.
    adds_union c.args.types.now c.args.into.now c.add_tagged.new.into c.args.tag c.args.members.now
    (rw (← c.in_ok-members.ensures, ← c.from_vec.ensures) k)) c.add_tagged.ensures
