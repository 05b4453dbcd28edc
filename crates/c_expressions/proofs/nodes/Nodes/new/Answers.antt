use Rattle.c_expressions.proofs.Growth.{nothing_whole}
use Rattle.c_expressions.proofs.nodes.Nodes.new.Goals as goal

pub returns-clause-whole : goal.returns-clause-whole
returns-clause-whole c = nothing_whole c.args.p _ c.requires c.number_of.ensures.adds c.in_ok-void.ensures.ok
    c.new.ensures.items
