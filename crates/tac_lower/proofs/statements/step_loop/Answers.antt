use Rattle.std.proofs.Common.{ap, arith}
use Rattle.tac_lower.specs.Copied.{copies_in}
use Rattle.tac_lower.specs.Nodes.{weight_in, expression}
use Rattle.tac_lower.specs.Parts.{or_none}
use Rattle.tac_lower.proofs.Placings.{at_most_ok}
use Rattle.tac_lower.proofs.Spending.{nothing, within, last}
use Rattle.tac_lower.proofs.Steps.{heavy, start, at_most, less_room}
use Rattle.std.proofs.lemmas.Result.{IfOk-weaker}
use Rattle.tac_lower.proofs.Stated.{states_stepped, states_unstepped}
use Rattle.tac_lower.proofs.statements.step_loop.Goals as goal

pub returns-in-None : goal.returns-in-None
returns-in-None c =
    record {
      lowered = at_most (start c.requires.scene) (omega arith);
      spends = within nothing (omega arith) (omega arith) (omega arith);
      is = states_unstepped _ c.requires.ordered c.requires.scene.ready.ordered c.in-None.is;
    }

pub effect-requires-clause-typed : goal.effect-requires-clause-typed
effect-requires-clause-typed c = c.requires.typed.each c.in-Some.e c.in-Some.is

pub effect-requires-clause-room : goal.effect-requires-clause-room
effect-requires-clause-room c =
    let w = ap (or_none (weight_in c.args.cx.p.now)) c.in-Some.is in
    less_room c.requires.room (omega arith)

pub returns-in-Some : goal.returns-in-Some
returns-in-Some c =
    record {
      lowered = (let w = ap (or_none (weight_in c.args.cx.p.now)) c.in-Some.is in
          at_most_ok _ _ _ _ _ _ _ _ c.effect.result c.effect.ensures.lowered (omega arith));
      spends = (let w = ap (or_none (weight_in c.args.cx.p.now)) c.in-Some.is in
          let few = ap (or_none (copies_in c.args.cx.p.now)) c.in-Some.is in
          let one = heavy (expression c.args.cx.p.now c.in-Some.e) in
          last _ _ _ _ c.effect.result nothing c.effect.ensures.spends (omega arith) (omega arith) (omega arith));
      is = IfOk-weaker c.effect.result _ _
          (λ q h. states_stepped _ c.requires.ordered c.requires.scene.ready.ordered c.in-Some.is h)
          c.effect.ensures.is;
    }
