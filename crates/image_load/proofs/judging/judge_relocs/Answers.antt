use Rattle.std.proofs.Common.{sym, ◌∙◌, arith}
use Rattle.image_load.proofs.Walk.{at_some, bad_place, bad_bounds, good, done}
use Rattle.image_load.proofs.judging.judge_relocs.Goals as goal

pub returns-then-not-is_place : goal.returns-then-not-is_place
returns-then-not-is_place c =
    sym (bad_place c.args.view.now.relocs c.loop-r.k c.in-Some.r c.args.initial (sym c.in-Some.ensures.value)
    (sym c.if-not-is_place.ensures)) ∙ c.loop-r.invariant

pub returns-then-not-is_capability : goal.returns-then-not-is_capability
returns-then-not-is_capability c =
    sym (bad_bounds c.args.view.now.relocs c.loop-r.k c.in-Some.r c.args.initial (sym c.in-Some.ensures.value)
    (sym c.if-not-is_place.ensures) (sym c.if-not-is_capability.ensures)) ∙ c.loop-r.invariant

pub loop-r-smaller : goal.loop-r-smaller
loop-r-smaller c =
    let h = (at_some c.args.view.now.relocs c.loop-r.k c.in-Some.r (sym c.in-Some.ensures.value)).1 in
    omega (arith, h)

pub loop-r-preserved : goal.loop-r-preserved
loop-r-preserved c =
    sym (good c.args.view.now.relocs c.loop-r.k c.in-Some.r c.args.initial (sym c.in-Some.ensures.value)
    (sym c.if-not-is_place.ensures) (sym c.if-not-is_capability.ensures)) ∙ c.loop-r.invariant

pub returns : goal.returns
returns c = sym (done c.args.view.now.relocs c.loop-r.k c.args.initial (sym c.in_default.ensures.value))
    ∙ c.loop-r.invariant
