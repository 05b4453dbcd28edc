use Rattle.std.proofs.lemmas.Result.{IfOk-weaker}
use Rattle.c_expressions.proofs.Agreeing.{compatible_bare_is}
use Rattle.c_expressions.proofs.nodes.Nodes.compatible_bare.Goals as goal

pub returns : goal.returns
returns c =
    IfOk-weaker c.compatible.result _ _ (λ r h.
    compatible_bare_is c.args.self.now c.bare_elements.new.self c.bare_elements-2.new.self c.args.s c.args.t _ _ r
    c.requires.second c.in_ok-a.ensures c.in_ok-b.ensures h) c.compatible.ensures
