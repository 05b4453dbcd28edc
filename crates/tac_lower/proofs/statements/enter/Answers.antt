use Rattle.std.proofs.lemmas.Result.{IfOk-from_err as fails}
use Rattle.std.proofs.lemmas.Option.{slice_get-get_or}
use Rattle.std.proofs.Common.{arith}
use Rattle.std.proofs.lemmas.List.{take_more, take_all}
use Rattle.tac_lower.proofs.Sites.{entered_none, entered_same, entered_more}
use Rattle.tac_lower.proofs.Entering.{entered_next, entered_taken}
use Rattle.tac_emit.proofs.Spending.{spent_same, taken_enters, enters_then, enters_within}
use Rattle.tac_lower.proofs.Steps.{start, both, at_most}
use Rattle.tac_lower.proofs.Zeroing.{zeroed_next, zeroed_some}
use Rattle.tac_lower.proofs.statements.enter.Goals as goal

pub loop-x-init : goal.loop-x-init
loop-x-init c = record {
  lowered = start c.requires.scene;
  spent = enters_within (taken_enters (spent_same _ 0)) (omega arith) (omega arith) (omega arith)
      (λ v. omega arith);
  is = entered_none _ _;
}

pub enter_variable-requires-clause-scene : goal.enter_variable-requires-clause-scene
enter_variable-requires-clause-scene c = c.loop-x.invariant.lowered.scene

pub loop-x-preserved : goal.loop-x-preserved
loop-x-preserved c =
    let next = entered_next c.args.cx.d.now c.args.vars.now c.loop-x.x-index (omega arith) in
    record {
      lowered = at_most (both c.loop-x.invariant.lowered c.in_ok-enter_variable.ensures.lowered) (omega arith);
      spent = enters_within (enters_then c.loop-x.invariant.spent c.in_ok-enter_variable.ensures.spent) (omega arith)
          (omega (arith, next)) (omega arith)
          (λ v. omega (
            arith,
            zeroed_next c.args.cx.d.now c.args.cx.homes.now c.args.vars.now c.loop-x.x-index v
                (omega arith),
          ));
      is = entered_more _ (take_more c.args.vars.now c.loop-x.x-index 0 (omega arith)) c.loop-x.invariant.is
          c.in_ok-enter_variable.ensures.is;
    }

pub returns : goal.returns
returns c =
    record {
      lowered = c.loop-x.invariant.lowered;
      spent = (let all = entered_taken c.args.cx.d.now c.args.vars.now c.loop-x.x-index in
          enters_within c.loop-x.invariant.spent (omega arith) (omega (arith, all)) (omega arith)
          (λ v. omega (arith, zeroed_some c.args.cx.d.now c.args.cx.homes.now c.args.vars.now c.loop-x.x-index v)));
      is = entered_same _ (take_all c.loop-x.x-index c.args.vars.now (omega arith)) c.loop-x.invariant.is;
    }

pub enter_variable-requires-clause-there : goal.enter_variable-requires-clause-there
enter_variable-requires-clause-there c =
    c.requires.there _ _ (slice_get-get_or c.args.vars.now c.loop-x.x-index 0 c.loop-x-test.true)

pub returns-in_err-enter_variable : goal.returns-in_err-enter_variable
returns-in_err-enter_variable c =
    let e = c.from_residual.ensures.0 in record { is = fails _ _ e; lowered = fails _ _ e; spent = fails _ _ e }
