use Rattle.std.proofs.Common.{◌-◌, ◌∙◌, ap}
use Rattle.c_tree.specs.Layout.{bare_of, bare_within, extent_of, extent_within}
use Rattle.cap_layout.proofs.Rows.{extent_step}
use Rattle.cap_layout.proofs.Places.{bare_step, bare_zero, there, past, nothing_there, found}
use Rattle.cap_layout.proofs.records.record_at.Goals as goal

pub returns-in-None : goal.returns-in-None
returns-in-None c =
    let go = bare_within (c.loop-left.left - 1) c.args.types.now in
    nothing_there _ _ _
    (c.loop-left.invariant.bare_is ∙ bare_step c.args.types.now c.loop-left.left c.loop-left.of c.loop-left-test.true
    ∙ ap (λ o. bare_of o go) (past c.args.types.now c.loop-left.of c.in-None.ensures.lookup.0))

pub returns-in-None-inner_of : goal.returns-in-None-inner_of
returns-in-None-inner_of c =
    let types = c.args.types.now in
    let go = bare_within (c.loop-left.left - 1) types in
    let at = there types c.loop-left.of c.in-Some.c.now c.in-Some.ensures.lookup.0 c.in-Some.ensures.lookup.1 in
    found types _ _ c.in-Some.c.now c.record_of.result (c.loop-left.left - 1)
    (c.loop-left.invariant.bare_is ∙ bare_step types c.loop-left.left c.loop-left.of c.loop-left-test.true
    ∙ ap (λ o. bare_of o go) at ∙ c.in-None-inner_of.ensures go)
    (c.loop-left.invariant.extent_is ∙ extent_step types c.loop-left.left c.loop-left.of c.loop-left-test.true
    ∙ ap (λ o. extent_of o (extent_within (c.loop-left.left - 1) types)) at)
    c.record_of.ensures

pub loop-left-preserved : goal.loop-left-preserved
loop-left-preserved c =
    let types = c.args.types.now in
    let go = bare_within (c.loop-left.left - 1) types in
    let size = extent_within (c.loop-left.left - 1) types in
    let at = there types c.loop-left.of c.in-Some.c.now c.in-Some.ensures.lookup.0 c.in-Some.ensures.lookup.1 in
    record {
      bare_is = c.loop-left.invariant.bare_is ∙ bare_step types c.loop-left.left c.loop-left.of c.loop-left-test.true
          ∙ ap (λ o. bare_of o go) at ∙ c.in-Some-inner_of.ensures.0 go;
      extent_is = c.loop-left.invariant.extent_is
          ∙ extent_step types c.loop-left.left c.loop-left.of c.loop-left-test.true ∙ ap (λ o. extent_of o size) at
          ∙ c.in-Some-inner_of.ensures.1 size;
    }

pub returns : goal.returns
returns c = nothing_there _ _ _ (c.loop-left.invariant.bare_is
    ∙ bare_zero c.args.types.now c.loop-left.left c.loop-left.of c.loop-left-test.false)
