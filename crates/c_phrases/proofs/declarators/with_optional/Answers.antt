use Rattle.c_phrases.proofs.Declaring.{with_there}
use Rattle.c_phrases.proofs.declarators.with_optional.Goals as goal

pub returns-in-Some-clause-tree : goal.returns-in-Some-clause-tree
returns-in-Some-clause-tree c =
    with_there c.with.result c.in_ok-parts.ensures.one c.in-Some.is c.with.ensures.kids c.with.ensures.size
    c.with.ensures.full
