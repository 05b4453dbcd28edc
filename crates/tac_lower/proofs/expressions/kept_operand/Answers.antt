use Rattle.tac_lower.proofs.Standing.{kept_peels}
use Rattle.tac_lower.proofs.Keeping.{node_at}
use Rattle.tac_lower.proofs.expressions.kept_operand.Goals as goal

pub returns-then-kept_alike-clause-typed : goal.returns-then-kept_alike-clause-typed
returns-then-kept_alike-clause-typed c =
    (node_at c.args.cx.d.now c.requires.ready c.requires.typed c.in-Some.ensures c.in-Convert.is).operand

pub returns-then-kept_alike-clause-kept : goal.returns-then-kept_alike-clause-kept
returns-then-kept_alike-clause-kept c = c.kept_alike.ensures c.if-kept_alike.true

pub returns-then-kept_alike-clause-peels : goal.returns-then-kept_alike-clause-peels
returns-then-kept_alike-clause-peels c =
    kept_peels _ c.requires.ordered c.requires.ready.ordered
    (record { node = _; there = c.in-Some.ensures; is = c.in-Convert.is }) (c.kept_alike.ensures c.if-kept_alike.true)
