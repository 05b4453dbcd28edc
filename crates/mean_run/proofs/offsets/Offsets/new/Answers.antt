use Rattle.mean_run.proofs.Members.{listed_more, of_number}
use Rattle.mean_run.proofs.offsets.Offsets.new.Goals as goal

pub types-preserved : goal.types-preserved
types-preserved c =
    rw c.in_ok-push.ensures.items (listed_more c.args.p.now.types c.types.of_types.items c.types.t _ c.types.invariant
    (λ lt. of_number c.args.p.now.types c.types.t _ lt c.in_ok-of_type.ensures))
