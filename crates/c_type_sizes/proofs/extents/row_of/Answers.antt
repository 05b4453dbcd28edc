use Rattle.std.proofs.Common.{List, [], arith}
use Rattle.c_tree.specs.Scopes.{TagState}
use Rattle.c_type_sizes.specs.Sizes.{numbered_extent}
use Rattle.cap_layout.proofs.Rows.{row_start, row_more}
use Rattle.c_type_sizes.proofs.extents.row_of.Goals as goal

pub loop-base-init : goal.loop-base-init
loop-base-init c = record {
  positive = omega arith;
  small = omega arith;
  row = λ tags. row_start (numbered_extent tags c.args.types.now c.args.t);
}

pub loop-base-preserved : goal.loop-base-preserved
loop-base-preserved c =
    let row = λ (tags : List TagState). row_more _ _
    (numbered_extent tags c.args.types.now c.in-Part.inner) _ c.in-Part.n c.product-count.result
    (c.loop-base.invariant.row tags) (c.in-Part.ensures.is tags) c.in-Part.ensures.small c.product-count.ensures
    in
    let r = row [] in
    record { positive = omega (arith, r.count_is, r.positive); small = omega (arith, r.count_is); row = row }
