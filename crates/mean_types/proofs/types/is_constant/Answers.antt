use Rattle.std.proofs.Common.{◌-◌, ◌∙◌, ap, sym}
use Rattle.obj_mem.specs.Needs.{is_const_of, is_const_within}
use Rattle.mean_types.proofs.Behind.{const_step, const_zero, there, past}
use Rattle.mean_types.proofs.types.is_constant.Goals as goal

pub returns-in-None : goal.returns-in-None
returns-in-None c =
    sym (c.loop-left.invariant ∙ const_step c.args.types.now c.loop-left.left c.loop-left.at c.loop-left-test.true
    ∙ ap (λ o. is_const_of o (is_const_within (c.loop-left.left - 1) c.args.types.now))
    (past c.args.types.now c.loop-left.at c.in-None.ensures.lookup.0))

pub returns-in-Known : goal.returns-in-Known
returns-in-Known c =
    let go = is_const_within (c.loop-left.left - 1) c.args.types.now in
    sym (c.loop-left.invariant ∙ const_step c.args.types.now c.loop-left.left c.loop-left.at c.loop-left-test.true
    ∙ ap (λ o. is_const_of o go) (there c.args.types.now c.loop-left.at c.in-Some.c.now c.in-Some.ensures.lookup.0
    c.in-Some.ensures.lookup.1)
    ∙ c.in-Known.ensures go)

pub loop-left-preserved : goal.loop-left-preserved
loop-left-preserved c =
    let go = is_const_within (c.loop-left.left - 1) c.args.types.now in
    c.loop-left.invariant ∙ const_step c.args.types.now c.loop-left.left c.loop-left.at c.loop-left-test.true
    ∙ ap (λ o. is_const_of o go) (there c.args.types.now c.loop-left.at c.in-Some.c.now c.in-Some.ensures.lookup.0
    c.in-Some.ensures.lookup.1)
    ∙ c.in-As.ensures go

pub returns : goal.returns
returns c = sym (c.loop-left.invariant
    ∙ const_zero c.args.types.now c.loop-left.left c.loop-left.at c.loop-left-test.false)
