use Rattle.std.proofs.Common.{sym, ap, ◌∙◌}
use Rattle.c_tree.specs.Passed.{by_pointer}
use Rattle.c_passing.proofs.Standing.{param_pointed, param_plain}
use Rattle.c_passing.proofs.functions.passed.Goals as goal
use Rattle.passing_steps.specs.Numbered.{type_in}

pub returns-then-by_pointer : goal.returns-then-by_pointer
returns-then-by_pointer c =
    param_pointed c.args.whole.now c.args.v c.pointer-of.result
    (ap (λ ts. by_pointer (type_in ts c.args.v.of)) (sym c.as_slice.ensures) ∙ sym c.by_pointer.ensures
    ∙ c.if-by_pointer.true) c.pointer-of.ensures

pub returns-else-by_pointer : goal.returns-else-by_pointer
returns-else-by_pointer c =
    param_plain c.args.whole.now c.args.v c.retyped.result
    (ap (λ ts. by_pointer (type_in ts c.args.v.of)) (sym c.as_slice.ensures) ∙ sym c.by_pointer.ensures
    ∙ c.if-by_pointer.false) c.retyped.ensures
