use Rattle.mean_types.proofs.Agreement.{none_within, none_first, none_second, both_there}
use Rattle.mean_types.proofs.compatibility.+compatible.Goals as goal

pub agree_within-returns-then-depth-eq0 : goal.agree_within-returns-then-depth-eq0
agree_within-returns-then-depth-eq0 t c =
    none_within c.args.depth c.args.types.now c.args.parameter c.args.t c.args.u c.if-depth-eq0.true

pub agree_within-returns-in-None : goal.agree_within-returns-in-None
agree_within-returns-in-None t c =
    none_first c.args.depth c.args.types.now c.args.parameter c.args.t c.args.u c.if-depth-eq0.false c.in-None.ensures

pub agree_within-returns-in-None-type_at : goal.agree_within-returns-in-None-type_at
agree_within-returns-in-None-type_at t c =
    none_second c.args.depth c.args.types.now c.args.parameter c.args.t c.args.u c.if-depth-eq0.false
    c.in-None-type_at.ensures

pub agree_within-returns-in-Some-type_at : goal.agree_within-returns-in-Some-type_at
agree_within-returns-in-Some-type_at t c =
    both_there c.args.depth c.args.types.now c.args.parameter c.args.t c.args.u _ _ _ c.if-depth-eq0.false
    c.in-Some.ensures c.in-Some-type_at.ensures c.agree_at.ensures
