use Rattle.std.proofs.Common.{refl, sym, ap, ◌∙◌}
use Rattle.c_tree.specs.Passed.{by_pointer}
use Rattle.c_passing.proofs.Standing.{pointed_added, plain_added}
use Rattle.c_passing.proofs.functions.add_param.Goals as goal
use Rattle.passing_steps.specs.Numbered.{type_in}

pub returns-in_ok-push-2 : goal.returns-in_ok-push-2
returns-in_ok-push-2 c =
    pointed_added c.args.whole.now c.args.into.now _ c.args.v c.retyped-local.result c.args.k c.in_ok-at.at
    (ap (λ ts. by_pointer (type_in ts c.args.v.of)) (sym c.as_slice.ensures) ∙ sym c.by_pointer.ensures
    ∙ c.if-by_pointer.true) c.in_ok-at.ensures
    c.retyped-local.ensures refl c.in_ok-into.ensures c.in_ok-push-2.ensures.items c.in_ok-push.ensures.items

pub returns-in_ok-push-3 : goal.returns-in_ok-push-3
returns-in_ok-push-3 c =
    plain_added c.args.whole.now c.args.into.now _ c.args.v c.args.k c.in_ok-at-2.at
    (ap (λ ts. by_pointer (type_in ts c.args.v.of)) (sym c.as_slice.ensures) ∙ sym c.by_pointer.ensures
    ∙ c.if-by_pointer.false) c.in_ok-at-2.ensures
    refl refl c.in_ok-push-3.ensures.items refl
