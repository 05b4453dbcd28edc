use Rattle.std.proofs.Common.{refl}
use Rattle.c_tree.specs.Types.{same}
use Rattle.c_expressions.specs.Nodes.{type_in}
use Rattle.c_expressions.proofs.Converting.{converted-same}
use Rattle.c_expressions.proofs.Keeping.{has_term_same, one_type}
use Rattle.c_expressions.proofs.nodes.Nodes.converted.Goals as goal

pub returns-then-branch : goal.returns-then-branch
returns-then-branch c =
    let n = c.args.self.now in
    has_term_same n c.args.node _ c.requires.whole c.requires.there
    (converted-same _ _ _ (one_type (λ t. same t (type_in n c.args.to)) n _ _ _ _ c.of-of.ensures c.in_ok-same.ensures
    refl) c.if-branch.true)
