use Rattle.std.proofs.Common.{◌-◌, ◌∙◌, ap}
use Rattle.c_tree.specs.Layout.{bare_of, bare_within}
use Rattle.tac_ir.proofs.BehindConst.{bare_step, bare_zero, there, past}
use Rattle.tac_ir.proofs.signatures.bare.Goals as goal

pub returns-in-None : goal.returns-in-None
returns-in-None c =
    c.loop-left.invariant ∙ bare_step c.args.types.now c.loop-left.left c.loop-left.of c.loop-left-test.true
    ∙ ap (λ o. bare_of o (bare_within (c.loop-left.left - 1) c.args.types.now))
    (past c.args.types.now c.loop-left.of c.in-None.ensures.lookup.0)

pub returns-in-None-inner_of : goal.returns-in-None-inner_of
returns-in-None-inner_of c =
    let go = bare_within (c.loop-left.left - 1) c.args.types.now in
    c.loop-left.invariant ∙ bare_step c.args.types.now c.loop-left.left c.loop-left.of c.loop-left-test.true
    ∙ ap (λ o. bare_of o go) (there c.args.types.now c.loop-left.of c.in-Some.c.now c.in-Some.ensures.lookup.0
    c.in-Some.ensures.lookup.1)
    ∙ c.in-None-inner_of.ensures go

pub loop-left-preserved : goal.loop-left-preserved
loop-left-preserved c =
    let go = bare_within (c.loop-left.left - 1) c.args.types.now in
    c.loop-left.invariant ∙ bare_step c.args.types.now c.loop-left.left c.loop-left.of c.loop-left-test.true
    ∙ ap (λ o. bare_of o go) (there c.args.types.now c.loop-left.of c.in-Some.c.now c.in-Some.ensures.lookup.0
    c.in-Some.ensures.lookup.1)
    ∙ c.in-Some-inner_of.ensures go

pub returns : goal.returns
returns c = c.loop-left.invariant ∙ bare_zero c.args.types.now c.loop-left.left c.loop-left.of c.loop-left-test.false
