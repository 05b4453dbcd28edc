use Rattle.std.proofs.Common.{refl, arith}
use Rattle.std.proofs.lemmas.Result.{IfOk-weaker}
use Rattle.tac_lower.proofs.Keeping.{two_values}
use Rattle.tac_emit.proofs.Spending.{spent_within}
use Rattle.tac_lower.proofs.Steps.{start, tail_grew}
use Rattle.tac_lower.proofs.Pointing.{place_object, place_missing}
use Rattle.tac_lower.proofs.places.variable_pointer.Goals as goal

pub transfer-requires : goal.transfer-requires
transfer-requires c = record {
  same = two_values c.requires.to
      (c.in-Some.ensures.has c.args.cx.d.now c.args.out.now c.requires.scene.housed);
}

pub returns-in-Some-clause-lowered : goal.returns-in-Some-clause-lowered
returns-in-Some-clause-lowered c =
    tail_grew _ _ c.transfer.result (start c.requires.scene) c.transfer.ensures.grown c.transfer.ensures.adds
    (omega arith)

pub returns-in-None : goal.returns-in-None
returns-in-None c =
    record {
      lowered = tail_grew _ _ c.constant.result (start c.requires.scene) c.constant.ensures.grown
          c.constant.ensures.adds
          (omega arith);
      spent = IfOk-weaker c.constant.result _ _ (λ r h. spent_within h (omega arith) (omega arith))
          (c.constant.ensures.short refl);
      is = IfOk-weaker c.constant.result _ _
          (λ r f k n node. place_missing _ c.requires.scene.ready.order c.requires.scene.ready.ordered c.args.cx.d.now
          c.requires.scene.housed.many n node c.in-None.ensures.other f) c.constant.ensures.emits;
    }

pub returns-in-Some-clause-is : goal.returns-in-Some-clause-is
returns-in-Some-clause-is c =
    IfOk-weaker c.transfer.result _ _
    (λ r f k n node. place_object _ c.requires.scene.ready.order c.requires.scene.ready.ordered n
    c.in-Some.ensures.stands.1 f)
    c.transfer.ensures.emits
