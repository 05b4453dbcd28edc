use Rattle.std.proofs.Common.{refl}
use Rattle.reg_alloc.proofs.Choice.{own_choice, first_choice}
use Rattle.reg_alloc.proofs.scan.Scan.rank_for.Goals as goal

pub returns-in-Some-clause-choice : goal.returns-in-Some-clause-choice
returns-in-Some-clause-choice c = own_choice _ _ _ _ _ (c.in-Some.ensures {u = tt}) (c.if-is_free.ensures.0 refl)

pub returns-in_default-clause-choice : goal.returns-in_default-clause-choice
returns-in_default-clause-choice c =
    first_choice _ _ _ _ c.lowest_rank.result c.first_free.result c.lowest_rank.ensures.crossed
    c.lowest_rank.ensures.passed c.first_free.ensures.within c.first_free.ensures.free
