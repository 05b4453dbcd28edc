use Rattle.std.proofs.Common.{ℕ, List, ◌∷◌, [], ◌++◌, ◌∙◌, sym, ap, subst}
use Rattle.c_passing.specs.Numbered.{AreParameters}
use Rattle.c_passing.proofs.Numbering.{adds_function, adds_result}
use Rattle.c_passing.proofs.types.function.Goals as goal
use Rattle.passing_steps.proofs.Results.{on_ok}

pub returns-in_ok-parameters : goal.returns-in_ok-parameters
returns-in_ok-parameters c =
    let p = c.pointer-pointer.result in
    on_ok c.plainly.result _ _
    (adds_result c.args.types.now c.args.into.now c.plainly.new.into c.args.gives p c.args.ts.now _
    c.pointer-pointer.ensures (sym c.by_pointer.ensures ∙ c.if-by_pointer.true)
    (subst (λ (ns : List ℕ). AreParameters c.args.types.now c.args.into.now c.args.ts.now (p ∷ []) ns)
    (sym c.from_vec.ensures)
    (subst (λ (ns : List ℕ). AreParameters c.args.types.now c.args.into.now c.args.ts.now ns
    c.parameters.new.list.items) (c.in_ok-push.ensures.items
    ∙ ap (λ (ns : List ℕ). ns ++ p ∷ []) c.new-params.ensures.items) c.in_ok-parameters.ensures)))
    c.plainly.ensures

pub returns-in_ok-parameters-2 : goal.returns-in_ok-parameters-2
returns-in_ok-parameters-2 c =
    on_ok c.plainly-else-by_pointer.result _ _
    (adds_function c.args.types.now c.args.into.now c.plainly-else-by_pointer.new.into c.args.gives c.number-of.result
    c.args.ts.now _ c.number-of.ensures (sym c.by_pointer.ensures ∙ c.if-by_pointer.false)
    (subst (λ (ns : List ℕ). AreParameters c.args.types.now c.args.into.now c.args.ts.now [] ns)
    (sym c.from_vec-else-by_pointer.ensures)
    (subst (λ (ns : List ℕ). AreParameters c.args.types.now c.args.into.now c.args.ts.now ns
    c.parameters-else-by_pointer.new.list.items) c.new-params.ensures.items c.in_ok-parameters-2.ensures)))
    c.plainly-else-by_pointer.ensures
