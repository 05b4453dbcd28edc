use Rattle.c_passing.proofs.Numbering.{if_ok}
use Rattle.c_passing.proofs.Passing.{kind_kept}
use Rattle.c_passing.proofs.expressions.kind_with.Goals as goal

pub returns-in_default : goal.returns-in_default
returns-in_default c =
    let n = c.in_default in
    if_ok c.inner_with.result _ _ (λ k h. kind_kept c.args.source.now c.args.kind.now k c.args.xs.now n.not-Constant
    n.not-Literal n.not-Var n.not-Global n.not-Fun n.not-Compound h) c.inner_with.ensures
