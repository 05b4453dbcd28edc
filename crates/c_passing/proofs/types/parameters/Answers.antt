use Rattle.std.proofs.Common.{subst}
use Rattle.std.proofs.lemmas.List.{take_more, take_all}
use Rattle.c_passing.specs.Numbered.{AreParameters}
use Rattle.c_passing.proofs.Numbering.{no_parameters, parameters_push}
use Rattle.c_passing.proofs.types.parameters.Goals as goal

pub loop-t-init : goal.loop-t-init
loop-t-init c = no_parameters c.args.types.now c.args.into.now c.args.list.now.items

pub loop-t-preserved : goal.loop-t-preserved
loop-t-preserved c =
    rw (take_more c.args.ts.now c.loop-t.t-index 0 c.loop-t-test.true)
    (parameters_push c.args.types.now c.args.into.now _ _ c.loop-t.list.items _ _ c.parameter-of.result
    c.loop-t.invariant
    c.parameter-of.ensures c.in_ok-push.ensures.items)

pub returns : goal.returns
returns c =
    subst (λ ks. AreParameters c.args.types.now c.args.into.now ks c.args.list.now.items c.loop-t.list.items)
    (take_all c.loop-t.t-index c.args.ts.now c.loop-t-test.false) c.loop-t.invariant
