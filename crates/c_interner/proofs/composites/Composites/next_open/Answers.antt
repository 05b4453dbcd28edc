use Rattle.std.proofs.Common.{sym, ap, ◌∙◌}
use Rattle.std.specs.Prelude.{is_some}
use Rattle.c_interner.proofs.Keeping.{below_last}
use Rattle.c_interner.proofs.composites.Composites.next_open.Goals as goal

pub pairs-preserved : goal.pairs-preserved
pairs-preserved c n h =
    (below_last n c.pop.new.self.items c.pairs.waiting.items c.in-Some.pair c.in-Some.ensures.items
    (c.pairs.invariant n h)).2

pub returns-in-None-clause-unknown : goal.returns-in-None-clause-unknown
returns-in-None-clause-unknown c = sym c.look.ensures.known ∙ ap is_some c.in-None.is

pub returns-in-None-clause-below : goal.returns-in-None-clause-below
returns-in-None-clause-below c n a b h =
    below_last n c.pop.new.self.items c.pairs.waiting.items c.in-Some.pair c.in-Some.ensures.items
    (c.pairs.invariant n h)
