use Rattle.std.proofs.Common.{◌∙◌, sym}
use Rattle.passing_nodes.proofs.types.bare_at.Goals as goal
use Rattle.passing_nodes.proofs.Tagging.{bare_plain, bare_const, bare_loose}

pub returns-in-None : goal.returns-in-None
returns-in-None c = λ types e. bare_plain types c.args.k c.args.c.now e (sym c.const_of.ensures ∙ c.in-None.is)

pub returns-then-t-k : goal.returns-then-t-k
returns-then-t-k c = λ types e. bare_const types c.args.k c.args.c.now c.in-Some.t e
    (sym c.const_of.ensures ∙ c.in-Some.is) c.if-t-k.true

pub returns-else-t-k : goal.returns-else-t-k
returns-else-t-k c = λ types e. bare_loose types c.args.k c.args.c.now c.in-Some.t e
    (sym c.const_of.ensures ∙ c.in-Some.is) c.if-t-k.false
