use Rattle.std.proofs.lemmas.Result.{IfOk-weaker}
use Rattle.c_expressions.proofs.Levels.{item_at, params_are}
use Rattle.c_expressions.proofs.nodes.Nodes.params.Goals as goal

pub returns-clause-is : goal.returns-clause-is
returns-clause-is c =
    IfOk-weaker c.all_parts.result _ _ (λ ps h.
    params_are c.args.self.now c.args.t _ _ ps.items
    (item_at _ _ c.args.t _ c.index-as_slice-t.result c.as_slice.ensures c.requires.there c.index-as_slice-t.is)
    c.params_of.ensures h) c.all_parts.ensures.is
