use Rattle.c_expressions.proofs.Levels.{class_is, item_at}
use Rattle.c_expressions.proofs.nodes.Nodes.class.Goals as goal

pub returns : goal.returns
returns c =
    class_is c.args.self.now c.args.t _ _ c.level.result c.requires.there
    (item_at _ _ c.args.t _ c.index-as_slice-t.result c.as_slice.ensures c.requires.there c.index-as_slice-t.is)
    c.class_of.ensures c.level.ensures.is c.level.ensures.there
