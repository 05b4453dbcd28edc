use Rattle.tac_lower.specs.Trees.{setting}
use Rattle.tac_lower.proofs.Standing.{peels_then}
use Rattle.tac_lower.proofs.expressions.+peeled.Goals as goal

pub returns-in-Some-clause-peels : goal.returns-in-Some-clause-peels
returns-in-Some-clause-peels t c =
    peels_then (setting c.args.cx) c.requires.ordered c.requires.ready.ordered c.in-Some.ensures.peels
    c.peeled.ensures.peels
