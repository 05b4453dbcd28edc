use Rattle.std.proofs.Common.{◌+◌, sym, subst}
use Rattle.mean_types.proofs.Behind.{IsBegun, begun_more}
use Rattle.mean_types.proofs.types.Types.new.Goals as goal

pub types-preserved : goal.types-preserved
types-preserved c =
    subst (λ l. IsBegun c.args.p.now.types l (c.types.t + 1)) (sym c.in_ok-push.ensures.items)
    (begun_more c.args.p.now.types c.types.facts.items c.types.t c.facts_of.result c.types.invariant
    c.facts_of.ensures)
