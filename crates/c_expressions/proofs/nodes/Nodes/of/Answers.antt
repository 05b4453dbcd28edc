use Rattle.std.proofs.Common.{refl}
use Rattle.c_expressions.proofs.Levels.{of_is, item_at}
use Rattle.c_expressions.proofs.nodes.Nodes.of.Goals as goal

pub returns : goal.returns
returns c = of_is c.args.self.now c.args.node _ c.requires.whole
    (item_at _ _ c.args.node _ c.index-as_slice-node.result c.as_slice.ensures c.requires.there refl)
