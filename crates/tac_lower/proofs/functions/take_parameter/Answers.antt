use Rattle.std.proofs.Common.{Some, ap, sym, ◌∙◌, arith}
use Rattle.tac_emit.proofs.Spending.{spent_same, taken_enters, enters_within}
use Rattle.tac_lower.proofs.Steps.{start}
use Rattle.tac_lower.proofs.functions.take_parameter.Goals as goal

pub take_object-requires-clause-home : goal.take_object-requires-clause-home
take_object-requires-clause-home c =
    (sym c.home.ensures ∙ (c.in-Some-Object.is ∙ ap Some c.in-Some-Object.field-0-is))

pub returns-in_default-clause-lowered : goal.returns-in_default-clause-lowered
returns-in_default-clause-lowered c =
    start c.requires.scene

pub returns-in_default-clause-spent : goal.returns-in_default-clause-spent
returns-in_default-clause-spent c =
    enters_within (taken_enters (spent_same _ 0)) (omega arith) (omega arith) (omega arith) (λ v. omega arith)
