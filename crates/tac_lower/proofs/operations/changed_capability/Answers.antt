use Rattle.tac_emit.proofs.Spending.{spent_then, spent_within}
use Rattle.std.proofs.lemmas.Result.{IfOk-weaker, IfOk-from_err as fails}
use Rattle.tac_emit.proofs.Wells.{grown_then, adds_then, kept}
use Rattle.tac_lower.proofs.Operating.{changed_address_emits, changed_back_emits}
use Rattle.std.proofs.Common.{◌∙◌, sym, arith}
use Rattle.tac_lower.proofs.operations.changed_capability.Goals as goal

pub convert-requires-clause-to : goal.convert-requires-clause-to
convert-requires-clause-to c = kept _ _ _ _ c.requires.to c.in_ok-n.ensures.grown

pub returns-then-is_capability : goal.returns-then-is_capability
returns-then-is_capability c =
    record {
      grown = IfOk-weaker c.work.result _ _ (λ r g. grown_then _ _ _ c.in_ok-n.ensures.grown g) c.work.ensures.grown;
      adds = IfOk-weaker c.work.result _ _
          (λ r g. adds_then c.in_ok-n.ensures.adds g) c.work.ensures.adds;
      spent = IfOk-weaker c.work.result _ _
          (λ r g. spent_within (spent_then (c.in_ok-n.ensures.alike c.requires.right) g) (omega arith) (omega arith))
          c.work.ensures.spent;
      emits = IfOk-weaker c.work.result _ _
          (λ r g. changed_address_emits _ _ _ _ (sym c.is_capability.ensures ∙ c.if-is_capability.true)
          c.in_ok-n.ensures.next
          c.in_ok-n.ensures.emits g) c.work.ensures.emits;
    }

pub returns-else-is_capability : goal.returns-else-is_capability
returns-else-is_capability c =
    record {
      grown = IfOk-weaker c.convert.result _ _ (λ r g. grown_then _ _ _ c.in_ok-n.ensures.grown g)
          c.convert.ensures.grown;
      adds = IfOk-weaker c.convert.result _ _
          (λ r g. adds_then c.in_ok-n.ensures.adds g) c.convert.ensures.adds;
      spent = IfOk-weaker c.convert.result _ _
          (λ r g. spent_then (c.in_ok-n.ensures.alike c.requires.right) g)
          c.convert.ensures.spent;
      emits = IfOk-weaker c.convert.result _ _
          (λ r g. changed_back_emits _ _ _ _ (sym c.is_capability.ensures ∙ c.if-is_capability.false)
          c.in_ok-n.ensures.next
          c.in_ok-n.ensures.as_integer c.in_ok-n.ensures.emits g) c.convert.ensures.emits;
    }

pub returns-in_err-n : goal.returns-in_err-n
returns-in_err-n c =
    let e = c.from_residual.ensures.0 in
    record {
      adds = fails _ _ e;
      emits = fails _ _ e;
      grown = fails _ _ e;
      spent = fails _ _ e;
    }
