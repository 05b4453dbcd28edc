use Rattle.c_expressions.proofs.Converting.{loaded-plain}
use Rattle.c_expressions.proofs.Keeping.{has_term_same}
use Rattle.c_expressions.proofs.nodes.Nodes.loaded.Goals as goal

pub returns-then-not-designates : goal.returns-then-not-designates
returns-then-not-designates c =
    has_term_same c.args.self.now c.args.node _ c.requires.whole c.requires.there
    (loaded-plain _ _ c.designates.ensures c.if-not-designates.true)
