use Rattle.std.proofs.Common.{refl, sym}
use Rattle.c_expressions.proofs.Levels.{expr_shows, item_at}
use Rattle.c_expressions.proofs.nodes.Nodes.pos.Goals as goal

pub returns : goal.returns
returns c = sym (expr_shows c.args.self.now c.args.node _
    (item_at _ _ c.args.node _ c.index-as_slice-node.result c.as_slice.ensures c.requires.there refl)).1
