use Rattle.std.proofs.lemmas.Result.{IfOk-weaker}
use Rattle.c_tree.specs.Terms.{Compare, join}
use Rattle.c_expressions.proofs.Keeping.{typed_join}
use Rattle.c_operators.proofs.pointers.comparison.Goals as goal

pub returns : goal.returns
returns c =
    IfOk-weaker c.join.result _ _ (λ k h. typed_join
    (λ x y u. join (Compare c.args.op) x y u c.args.pos) c.args.nodes.now c.int.new.self _ c.args.a c.args.b _ k _
    c.requires.left c.requires.right c.in_ok-of.ensures h) c.join.ensures
