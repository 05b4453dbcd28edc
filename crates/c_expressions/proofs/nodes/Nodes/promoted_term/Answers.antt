use Rattle.std.proofs.Common.{ap}
use Rattle.std.proofs.lemmas.Result.{IfOk-weaker}
use Rattle.c_tree.specs.Types.{promoted}
use Rattle.c_tree.specs.Conversions.{converted_term}
use Rattle.c_expressions.proofs.Keeping.{typed_step, has_type_is}
use Rattle.c_expressions.proofs.nodes.Nodes.promoted_term.Goals as goal

pub returns : goal.returns
returns c =
    let n = c.args.self.now in
    let t = has_type_is n _ _ _ _ c.in_ok-to.ensures (ap promoted c.of-of.ensures.is) in
    IfOk-weaker c.converted.result _ _ (λ k h.
    typed_step (λ x u. converted_term u x) n c.promoted.new.self _ c.args.node _ k _ c.requires.there t h)
    c.converted.ensures
