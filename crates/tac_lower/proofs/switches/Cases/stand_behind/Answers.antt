use Rattle.std.proofs.lemmas.Result.{IfOk-from_err as fails}
use Rattle.tac_emit.proofs.Spending.{spent_same, spent_then}
use Rattle.tac_lower.proofs.Switching.{stand_none, stand_more, stand_all, items_end}
use Rattle.std.proofs.Common.{refl, sym, ◌∙◌}
use Rattle.tac_lower.proofs.Cases as cases
use Rattle.tac_lower.proofs.Cases.{drop_none}
use Rattle.tac_lower.proofs.switches.Cases.stand_behind.Goals as goal

pub loop-c-init : goal.loop-c-init
loop-c-init c = record {
  stand = stand_none _ _ _;
  spent = spent_same _ 0;
  so_far = cases.stand_none _ _ _ _;
}

pub loop-c-preserved : goal.loop-c-preserved
loop-c-preserved c =
    record {
      stand = stand_more c.args.self.now.cases.items c.args.first c.loop-c.at c.args.out.now c.loop-c.out
          c.stand.new.self
          c.in-Some.c c.loop-c.invariant.stand (sym c.case.ensures ∙ c.in-Some.is) c.in_ok-stand.ensures.stands;
      spent = spent_then c.loop-c.invariant.spent c.in_ok-stand.ensures.spent;
      so_far = cases.stand_more c.in-Some.c c.loop-c.invariant.so_far (sym c.case.ensures ∙ c.in-Some.is) refl
          c.in_ok-stand.ensures.stands;
    }

pub returns : goal.returns
returns c =
    record {
      stand = stand_all c.args.self.now.cases.items c.args.first c.loop-c.at c.args.out.now c.loop-c.out
          c.loop-c.invariant.stand
          (items_end c.args.self.now.cases.items c.loop-c.at c.in_default.ensures);
      is = cases.stand_all c.loop-c.invariant.so_far
          (drop_none c.args.self.now.cases.items c.loop-c.at c.in_default.ensures);
      spent = c.loop-c.invariant.spent;
    }

pub returns-in_err-stand : goal.returns-in_err-stand
returns-in_err-stand c =
    let e = c.from_residual.ensures.0 in record { is = fails _ _ e; spent = fails _ _ e; stand = fails _ _ e }
