use Rattle.std.proofs.lemmas.Result.{IfOk-from_err as fails}
use Rattle.tac_emit.proofs.Spending.{spent_same, spent_then}
use Rattle.tac_lower.proofs.Switching.{stand_more, stand_none}
use Rattle.std.proofs.Common.{refl, arith, sym, ◌∙◌}
use Rattle.tac_lower.proofs.Cases as cases
use Rattle.tac_lower.proofs.Cases.{first_up, past_more, stands_later, stands_last}
use Rattle.tac_lower.proofs.switches.Cases.stand_at.Goals as goal

pub loop-c-init : goal.loop-c-init
loop-c-init c = record {
  stand = stand_none _ _ _;
  spent = spent_same _ 0;
  so_far = cases.stand_none _ _ _ _;
  left = refl;
}

pub loop-c-preserved : goal.loop-c-preserved
loop-c-preserved c =
    record {
      stand = stand_more c.args.self.now.cases.items c.args.first c.loop-c.at c.args.out.now c.loop-c.out
          c.stand.new.self
          c.in-Some.c c.loop-c.invariant.stand (sym c.case.ensures ∙ c.in-Some.is) c.in_ok-stand.ensures.stands;
      spent = spent_then c.loop-c.invariant.spent c.in_ok-stand.ensures.spent;
      so_far = cases.stand_more c.in-Some.c c.loop-c.invariant.so_far (sym c.case.ensures ∙ c.in-Some.is)
          (first_up c.args.before c.in-Some.c _ (omega arith)) c.in_ok-stand.ensures.stands;
      left = past_more c.args.self.now.cases.items c.args.first c.loop-c.at c.args.before c.in-Some.c
          c.loop-c.invariant.left (sym c.case.ensures ∙ c.in-Some.is) (omega arith);
    }

pub returns-then-c-before-clause-is : goal.returns-then-c-before-clause-is
returns-then-c-before-clause-is c =
    stands_later c.args.self.now.cases.items c.args.first c.loop-c.at c.args.before c.in-Some.c
    c.loop-c.invariant.so_far c.loop-c.invariant.left (sym c.case.ensures ∙ c.in-Some.is) (omega arith)

pub returns-clause-is : goal.returns-clause-is
returns-clause-is c = stands_last c.args.self.now.cases.items c.args.first c.loop-c.at c.args.before
    c.loop-c.invariant.so_far c.loop-c.invariant.left c.in_default.ensures

pub returns-in_err-stand : goal.returns-in_err-stand
returns-in_err-stand c =
    let e = c.from_residual.ensures.0 in record { is = fails _ _ e; spent = fails _ _ e; stand = fails _ _ e }
