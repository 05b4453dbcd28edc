use Rattle.std.proofs.Common.{◌-◌, ◌∙◌, arith}
use Rattle.c_tree.specs.Layout.{extent_within}
use Rattle.cap_layout.proofs.Rows.{extent_step, extent_zero, row_none, row_zero, row_at, row_more}
use Rattle.cap_layout.proofs.shapes.core_of.Goals as goal

pub returns-in-Missing : goal.returns-in-Missing
returns-in-Missing c =
    row_none _ _ _ c.loop-left.invariant.row
    (extent_step c.args.types.now c.loop-left.left c.loop-left.of c.loop-left-test.true
    ∙ c.in-Missing.ensures.is (extent_within (c.loop-left.left - 1) c.args.types.now))

pub returns-in-Whole : goal.returns-in-Whole
returns-in-Whole c =
    record {
      deeper = omega (arith, c.loop-left.invariant.within, c.loop-left-test.true);
      small = c.in-Whole.ensures.small;
      row = row_at _ _ _ _ c.loop-left.invariant.row
          (extent_step c.args.types.now c.loop-left.left c.loop-left.of c.loop-left-test.true
          ∙ c.in-Whole.ensures.is (extent_within (c.loop-left.left - 1) c.args.types.now));
    }

pub returns-then-n-eq0 : goal.returns-then-n-eq0
returns-then-n-eq0 c =
    row_zero _ _ (extent_within (c.loop-left.left - 1) c.args.types.now c.in-Part.inner) _ c.in-Part.n
    c.loop-left.invariant.row
    (extent_step c.args.types.now c.loop-left.left c.loop-left.of c.loop-left-test.true
    ∙ c.in-Part.ensures.is (extent_within (c.loop-left.left - 1) c.args.types.now))
    c.if-n-eq0.true

pub loop-left-preserved : goal.loop-left-preserved
loop-left-preserved c =
    let r = row_more _ _ (extent_within (c.loop-left.left - 1) c.args.types.now c.in-Part.inner) _ c.in-Part.n
    c.product-count.result c.loop-left.invariant.row
    (extent_step c.args.types.now c.loop-left.left c.loop-left.of c.loop-left-test.true
    ∙ c.in-Part.ensures.is (extent_within (c.loop-left.left - 1) c.args.types.now))
    (omega (arith, c.if-n-eq0.false)) c.product-count.ensures in
    record {
      within = omega (arith, c.loop-left.invariant.within);
      positive = omega (arith, r.count_is, r.positive);
      small = omega (arith, r.count_is);
      row = r;
    }

pub returns : goal.returns
returns c = row_none _ _ _ c.loop-left.invariant.row
    (extent_zero c.args.types.now c.loop-left.left c.loop-left.of c.loop-left-test.false)
