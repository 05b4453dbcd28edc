use Rattle.std.proofs.Common.{None, Some, sym, ap, ◌∙◌, subst, arith}
use Rattle.tac_lower.specs.Nodes.{weight_in, expression}
use Rattle.tac_lower.specs.Parts.{or_none, ReturnPart}
use Rattle.tac_lower.specs.Scenes.{frame_of}
use Rattle.tac_lower.proofs.Bodies.{none_returned, value_returned, return_of_none, return_of, tail_left}
use Rattle.tac_lower.proofs.Spending.{nothing, last_and}
use Rattle.tac_lower.proofs.Steps.{heavy, start, less_room}
use Rattle.std.proofs.lemmas.Result.{IfOk-weaker}
use Rattle.tac_lower.specs.Stating.{IsStmt}
use Rattle.c_tree.specs.declared.typed.StmtKind.TheVariants as stmts
use Rattle.tac_lower.proofs.Bodies.{given_kept}
use Rattle.tac_lower.proofs.Stated.{states_returned, states_left, states_given}
use Rattle.tac_lower.proofs.statements.leave.Goals as goal

pub returns-in_default : goal.returns-in_default
returns-in_default c =
    record {
      lowered = (let part = subst (λ z. ReturnPart (frame_of c.args.cx.p.now c.args.cx.d.now) c.args.k z)
          c.in_default.is
          c.requires.part in
          tail_left _ c.leave.result None c.requires.fits (start c.requires.scene)
          (return_of_none c.requires.fits _ (none_returned c.requires.fits c.args.k part)) c.leave.ensures.pushed
          (omega arith));
      spends = (let part = subst (λ z. ReturnPart (frame_of c.args.cx.p.now c.args.cx.d.now) c.args.k z)
          c.in_default.is
          c.requires.part in
          let h = part.weight in
          let few = part.copies in
          last_and _ _ _ _ c.leave.result nothing c.leave.ensures.spent (omega arith) (omega arith) (omega arith));
      is = (let part = subst (λ z. ReturnPart (frame_of c.args.cx.p.now c.args.cx.d.now) c.args.k z) c.in_default.is
          c.requires.part in
          IfOk-weaker c.leave.result _ _
          (λ q h x n. states_returned _ c.requires.ordered c.requires.scene.ready.ordered
          (subst (λ z. IsStmt c.args.cx.p.now c.args.k (stmts.Return z)) c.in_default.is n)
          (given_kept c.requires.fits ∙ none_returned c.requires.fits c.args.k part) h) c.leave.ensures.pushed);
    }

pub effect-requires-clause-typed : goal.effect-requires-clause-typed
effect-requires-clause-typed c = c.requires.part.value c.in-Some.a c.in-Some.is

pub effect-requires-clause-room : goal.effect-requires-clause-room
effect-requires-clause-room c =
    let w = ap (or_none (weight_in c.args.cx.p.now)) c.in-Some.is in
    let h = c.requires.part.weight in
    less_room c.requires.room (omega arith)

pub returns-in_ok-effect-in-None : goal.returns-in_ok-effect-in-None
returns-in_ok-effect-in-None c =
    record {
      lowered = (let part = subst (λ z. ReturnPart (frame_of c.args.cx.p.now c.args.cx.d.now) c.args.k z) c.in-Some.is
          c.requires.part in
          let h = part.weight in
          let none = sym (value_returned c.requires.fits c.args.k c.in-Some.a part)
          ∙ sym (c.scalar.ensures c.requires.scene.ready) ∙ c.in-None.is in
          tail_left _ c.leave-in-None.result None c.requires.fits c.in_ok-effect-in-None.ensures.lowered
          (return_of_none c.requires.fits _ none) c.leave-in-None.ensures.pushed (omega arith));
      spends = (let part = subst (λ z. ReturnPart (frame_of c.args.cx.p.now c.args.cx.d.now) c.args.k z) c.in-Some.is
          c.requires.part in
          let h = part.weight in
          let few = part.copies in
          let one = heavy (expression c.args.cx.p.now c.in-Some.a) in
          last_and _ _ _ _ c.leave-in-None.result c.in_ok-effect-in-None.ensures.spends c.leave-in-None.ensures.spent
          (omega arith) (omega arith) (omega arith));
      is = (let part = subst (λ z. ReturnPart (frame_of c.args.cx.p.now c.args.cx.d.now) c.args.k z) c.in-Some.is
          c.requires.part in
          let none = sym (value_returned c.requires.fits c.args.k c.in-Some.a part)
          ∙ sym (c.scalar.ensures c.requires.scene.ready) ∙ c.in-None.is in
          IfOk-weaker c.leave-in-None.result _ _
          (λ q h x n. states_left _ c.requires.ordered c.requires.scene.ready.ordered
          (subst (λ z. IsStmt c.args.cx.p.now c.args.k (stmts.Return z)) c.in-Some.is n)
          (given_kept c.requires.fits ∙ none) c.in_ok-effect-in-None.ensures.is h) c.leave-in-None.ensures.pushed);
    }

pub operand-requires-clause-typed : goal.operand-requires-clause-typed
operand-requires-clause-typed c = c.requires.part.value c.in-Some.a c.in-Some.is

pub operand-requires-clause-room : goal.operand-requires-clause-room
operand-requires-clause-room c =
    let w = ap (or_none (weight_in c.args.cx.p.now)) c.in-Some.is in
    let h = c.requires.part.weight in
    less_room c.requires.room (omega arith)

pub returns-in_ok-v-in-Some-scalar : goal.returns-in_ok-v-in-Some-scalar
returns-in_ok-v-in-Some-scalar c =
    record {
      lowered = (let part = subst (λ z. ReturnPart (frame_of c.args.cx.p.now c.args.cx.d.now) c.args.k z) c.in-Some.is
          c.requires.part in
          let h = part.weight in
          let same = value_returned c.requires.fits c.args.k c.in-Some.a part in
          let some = sym (c.scalar.ensures c.requires.scene.ready) ∙ c.in-Some-scalar.is in
          tail_left _ c.leave-in-Some-scalar.result (Some c.in_ok-v-in-Some-scalar.v) c.requires.fits
          c.in_ok-v-in-Some-scalar.ensures.lowered
          (return_of c.requires.fits _ c.in_ok-v-in-Some-scalar.v c.in-Some.a _ same some
          c.in_ok-v-in-Some-scalar.ensures.has) c.leave-in-Some-scalar.ensures.pushed (omega arith));
      spends = (let part = subst (λ z. ReturnPart (frame_of c.args.cx.p.now c.args.cx.d.now) c.args.k z) c.in-Some.is
          c.requires.part in
          let h = part.weight in
          let few = part.copies in
          let one = heavy (expression c.args.cx.p.now c.in-Some.a) in
          last_and _ _ _ _ c.leave-in-Some-scalar.result c.in_ok-v-in-Some-scalar.ensures.spends
          c.leave-in-Some-scalar.ensures.spent (omega arith) (omega arith) (omega arith));
      is = (let part = subst (λ z. ReturnPart (frame_of c.args.cx.p.now c.args.cx.d.now) c.args.k z) c.in-Some.is
          c.requires.part in
          let same = value_returned c.requires.fits c.args.k c.in-Some.a part in
          let some = sym (c.scalar.ensures c.requires.scene.ready) ∙ c.in-Some-scalar.is in
          IfOk-weaker c.leave-in-Some-scalar.result _ _
          (λ q h x n. states_given _ c.requires.ordered c.requires.scene.ready.ordered
          (subst (λ z. IsStmt c.args.cx.p.now c.args.k (stmts.Return z)) c.in-Some.is n)
          (given_kept c.requires.fits ∙ sym same ∙ some) (record { is = some }) c.in_ok-v-in-Some-scalar.ensures.is h)
          c.leave-in-Some-scalar.ensures.pushed);
    }
