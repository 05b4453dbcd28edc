use Rattle.std.proofs.lemmas.Result.{IfOk-from_err as fails}
use Rattle.tac_emit.proofs.Spending.{spent_then}
use Rattle.tac_emit.proofs.Wells.{grown_then, adds_then, kept}
use Rattle.tac_lower.proofs.Operating.{computed_emits}
use Rattle.tac_lower.proofs.operations.computed_address.Goals as goal

pub address_operand-requires-clause-y : goal.address_operand-requires-clause-y
address_operand-requires-clause-y c = kept _ _ _ _ c.requires.y c.in_ok-n.ensures.grown

pub returns-clause-held : goal.returns-clause-held
returns-clause-held c = kept _ _ _ _ (kept _ _ _ _ c.in_ok-n.ensures.has c.in_ok-m.ensures.grown)
    c.in_ok-int.ensures.grown

pub returns-clause-grown : goal.returns-clause-grown
returns-clause-grown c = (grown_then _ _ _
    (grown_then _ _ _ c.in_ok-n.ensures.grown c.in_ok-m.ensures.grown) c.in_ok-int.ensures.grown)

pub returns-clause-emits : goal.returns-clause-emits
returns-clause-emits c =
    computed_emits _ _ _ c.address_kind-kind.ensures.is c.in_ok-n.ensures.next c.in_ok-m.ensures.temp
    c.in_ok-n.ensures.emits c.in_ok-m.ensures.emits c.in_ok-int.ensures.emits

pub int-requires-clause-left : goal.int-requires-clause-left
int-requires-clause-left c = kept _ _ _ _ c.in_ok-n.ensures.has c.in_ok-m.ensures.grown

pub int-requires-clause-to : goal.int-requires-clause-to
int-requires-clause-to c = kept _ _ _ _ c.in_ok-n.ensures.has c.in_ok-m.ensures.grown

pub returns-clause-spent : goal.returns-clause-spent
returns-clause-spent c =
    spent_then (spent_then c.in_ok-n.ensures.spent c.in_ok-m.ensures.spent)
    (c.in_ok-int.ensures.wide c.address_kind-kind.ensures.wide)

pub returns-clause-alike : goal.returns-clause-alike
returns-clause-alike c = λ fits.
    spent_then (spent_then c.in_ok-n.ensures.spent (c.in_ok-m.ensures.alike c.address_kind-kind.ensures.wide fits))
    (c.in_ok-int.ensures.wide c.address_kind-kind.ensures.wide)

pub returns-clause-adds : goal.returns-clause-adds
returns-clause-adds c = (adds_then (adds_then c.in_ok-n.ensures.adds c.in_ok-m.ensures.adds) c.in_ok-int.ensures.adds)

pub returns-in_err-n : goal.returns-in_err-n
returns-in_err-n c =
    let e = c.from_residual.ensures.0 in
    record {
      adds = fails _ _ e;
      alike = λ q. fails _ _ e;
      as_integer = fails _ _ e;
      emits = fails _ _ e;
      grown = fails _ _ e;
      held = fails _ _ e;
      next = fails _ _ e;
      spent = fails _ _ e;
      wide = fails _ _ e;
    }

pub returns-in_err-m : goal.returns-in_err-m
returns-in_err-m c =
    let e = c.from_residual-in_err-m.ensures.0 in
    record {
      adds = fails _ _ e;
      alike = λ q. fails _ _ e;
      as_integer = fails _ _ e;
      emits = fails _ _ e;
      grown = fails _ _ e;
      held = fails _ _ e;
      next = fails _ _ e;
      spent = fails _ _ e;
      wide = fails _ _ e;
    }

pub returns-in_err-int : goal.returns-in_err-int
returns-in_err-int c =
    let e = c.from_residual-in_err-int.ensures.0 in
    record {
      adds = fails _ _ e;
      alike = λ q. fails _ _ e;
      as_integer = fails _ _ e;
      emits = fails _ _ e;
      grown = fails _ _ e;
      held = fails _ _ e;
      next = fails _ _ e;
      spent = fails _ _ e;
      wide = fails _ _ e;
    }
