use Rattle.std.proofs.Common.{sym}
use Rattle.mean_work.specs.Places.{place_of}
use Rattle.mean_run.proofs.Copying.{access_above, copy_goes}
use Rattle.mean_run.proofs.places.copy.Goals as goal

pub returns-in-Ok-clause-did : goal.returns-in-Ok-clause-did
returns-in-Ok-clause-did g c = λ n e.
    let overlaps = rw (c.capability.ensures, c.capability-2.ensures) at c.in-Ok.ensures in
    copy_goes (g.B.Operations.meaning c.args.m.now) c.args.pos c.args.bytes c.args.unit (place_of c.args.from)
    (place_of c.args.to) n c.count_of.result _ _ (c.count_of.ensures (access_above c.args.unit c.requires))
    (sym overlaps) (c.copy_units.ensures.did n e)
