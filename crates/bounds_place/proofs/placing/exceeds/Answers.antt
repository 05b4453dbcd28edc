use Rattle.bounds_place.proofs.Legal.{exceeds_by}
use Rattle.bounds_place.proofs.placing.exceeds.Goals as goal

pub returns : goal.returns
returns c =
    exceeds_by c.args.p.now c.args.globals.now c.args.literals.now c.data_exceeds.result c.some_locals_exceed.result
    c.data_exceeds.ensures c.some_locals_exceed.ensures c.requires.globals c.requires.literals
