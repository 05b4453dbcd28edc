use Rattle.std.proofs.Common.{Some, arith}
use Rattle.std.proofs.lemmas.Option.{slice_get_within}
use Rattle.std.proofs.lemmas.Result.{IfOk-weaker}
use Rattle.tac_lower.specs.Stating.{routine}
use Rattle.tac_lower.proofs.Beginning.{init_value}
use Rattle.tac_lower.proofs.Bodies.{pointer_at, whole_at, whole_scalar}
use Rattle.tac_lower.proofs.Sites.{no_home}
use Rattle.tac_lower.proofs.Placings.{at_most_ok}
use Rattle.tac_lower.specs.Nodes.{expression}
use Rattle.tac_lower.proofs.Spending.{nothing, last, extra_small}
use Rattle.tac_lower.proofs.Steps.{heavy, less_room}
use Rattle.tac_lower.proofs.statements.initialise.Goals as goal

pub effect-requires-clause-room : goal.effect-requires-clause-room
effect-requires-clause-room c = less_room c.requires.room (omega arith)

pub returns-in-None : goal.returns-in-None
returns-in-None c =
    record {
      lowered = at_most_ok _ _ _ _ _ _ _ _ c.effect.result c.effect.ensures.lowered (omega arith);
      spends = last _ _ _ _ c.effect.result nothing c.effect.ensures.spends
          (omega (arith, heavy (expression c.args.cx.p.now c.args.a)))
          (omega (arith, heavy (expression c.args.cx.p.now c.args.a))) (omega arith);
      is = no_home c.args.x c.requires.scene.housed
          (slice_get_within c.args.cx.d.now.vars c.args.x c.requires.lies.0 c.requires.lies.3) (cc);
    }

pub value-requires-clause-to : goal.value-requires-clause-to
value-requires-clause-to c = whole_at c.args.x c.args.offset c.args.a c.in-Some-Temp.t c.in-Some-Temp.field-0-1
    c.requires.scene.housed (cc) c.requires.lies

pub value-requires-clause-room : goal.value-requires-clause-room
value-requires-clause-room c = less_room c.requires.room (omega arith)

pub returns-in-Some-Temp : goal.returns-in-Some-Temp
returns-in-Some-Temp c =
    record {
      lowered = at_most_ok _ _ _ _ _ _ _ _ c.value.result c.value.ensures.lowered (omega arith);
      spends = last _ _ _ _ c.value.result nothing c.value.ensures.spends
          (omega (
            arith,
            heavy (expression c.args.cx.p.now c.args.a),
            extra_small c.args.cx.fixed (Some
                c.in-Some-Temp.t),
          ))
          (omega (
            arith,
            heavy (expression c.args.cx.p.now c.args.a),
            extra_small c.args.cx.fixed (Some c.in-Some-Temp.t),
          )) (omega arith);
      is = IfOk-weaker c.value.result _ _
          (λ q h fits. init_value (routine c.args.cx) c.requires.ordered c.requires.scene.ready.ordered
          c.args.x c.args.offset c.args.a c.args.pos (cc)
          (whole_scalar c.args.x c.args.offset c.args.a c.in-Some-Temp.t c.in-Some-Temp.field-0-1
          c.requires.scene.housed (cc) c.requires.lies fits) h) c.value.ensures.is;
    }

pub initialise_object-requires-clause-base : goal.initialise_object-requires-clause-base
initialise_object-requires-clause-base c = pointer_at c.args.x c.in-Some-Object.field-0-0 c.in-Some-Object.base
    c.requires.scene.housed (cc)

pub returns-in-Some-Object-clause-is : goal.returns-in-Some-Object-clause-is
returns-in-Some-Object-clause-is c = IfOk-weaker c.initialise_object.result _ _
    (λ q h fits. h c.args.x c.in-Some-Object.field-0-0 (cc)) c.initialise_object.ensures.is
