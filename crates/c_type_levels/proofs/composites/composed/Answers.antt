use Rattle.std.proofs.Common.{◌≡◌, ◌∷◌, ◌++◌, length, drop, ap, ◌∙◌}
use Rattle.c_type_levels.proofs.Composing.{composite_params}
use Rattle.c_type_levels.proofs.composites.composed.Goals as goal

pub returns-in_ok-params-in-Function-Function-clause-is : goal.returns-in_ok-params-in-Function-Function-clause-is
returns-in_ok-params-in-Function-Function-clause-is c go e =
    let first = c.in-Some.first.now in
    let others = c.in-Some.others.now in
    let whole : c.args.made.now ≡ first ∷ others = c.in-Some.ensures.cases.0 in
    let all : c.in_ok-params-in-Function-Function.params ≡ others ++ drop (length others) c.args.c.now.params.items =
    c.in_ok-params-in-Function-Function.ensures
    ∙ ap (λ ps. others ++ drop (length others) ps) c.as_slice.ensures.value in
    rw (c.in-Function-Function.is-0, c.in-Function-Function.is-1)
    (composite_params go c.in-Function-Function.field-0-0 c.in-Function-Function.field-0-1 first
    c.args.c.now.params.items c.args.d.now.params.items others c.in_ok-params-in-Function-Function.params
    (rw (whole, c.in-Function-Function.is-0, c.in-Function-Function.is-1) at e) all)
