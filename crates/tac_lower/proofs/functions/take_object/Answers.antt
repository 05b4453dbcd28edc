use Rattle.std.proofs.Common.{refl, ap, sym, ◌∙◌, arith}
use Rattle.std.proofs.lemmas.Result.{IfOk-weaker}
use Rattle.c_tree.specs.WellTyped.{type_in}
use Rattle.tac_emit.proofs.Spending.{enters_within}
use Rattle.tac_emit.proofs.Wells.{as_capability}
use Rattle.tac_lower.specs.Nodes.{kept_as, or_int}
use Rattle.tac_lower.proofs.Bodies.{pointer_at, filled}
use Rattle.tac_lower.proofs.Steps.{as_kind}
use Rattle.tac_lower.proofs.Zeroing.{taken_one}
use Rattle.tac_lower.proofs.functions.take_object.Goals as goal

pub enter_with-requires-clause-at : goal.enter_with-requires-clause-at
enter_with-requires-clause-at c =
    as_capability _ _ _ (pointer_at c.args.x c.args.n c.args.at c.requires.scene.housed c.requires.home) refl

pub enter_with-requires-clause-value : goal.enter_with-requires-clause-value
enter_with-requires-clause-value c =
    let kind = c.kind_of_type-kind.ensures c.requires.scene.ready
    ∙ ap (λ t. or_int (kept_as (type_in c.args.cx.p.now t))) c.type_of_variable.ensures in
    as_kind c.requires.value (sym kind)

pub returns-clause-lowered : goal.returns-clause-lowered
returns-clause-lowered c =
    IfOk-weaker c.enter_with.result _ _
    (λ r h. filled c.args.x c.args.n c.args.at c.requires.scene c.requires.home h) c.enter_with.ensures.filled

pub returns-clause-spent : goal.returns-clause-spent
returns-clause-spent c =
    IfOk-weaker c.enter_with.result _ _
    (λ r h. enters_within h (omega arith) (omega arith) (omega arith)
    (λ v. omega (arith, taken_one c.args.cx.homes.now c.args.x c.args.n c.args.at v c.requires.home)))
    c.enter_with.ensures.spent
