use Rattle.std.proofs.Common.{◌≡◌, length, drop, [], ◌-◌, ◌<◌, arith, refl}
use Rattle.std.proofs.Math.ListN.{drop_of_length-le}
use Rattle.std.proofs.lemmas.List.{get_or_default}
use Rattle.c_expressions.proofs.Arrays.{row_added}
use Rattle.c_expressions.proofs.Keeping.{has_type_same}
use Rattle.c_expressions.proofs.nodes.Nodes.in_rows.Goals as goal

pub loop-left-init : goal.loop-left-init
loop-left-init c =
    let e : drop (length c.args.counts.now) c.args.counts.now ≡ [] =
    drop_of_length-le c.args.counts.now (omega arith) in
    (omega arith, rw e (has_type_same c.args.self.now c.args.t _ c.requires.whole c.requires.there refl))

pub loop-left-preserved : goal.loop-left-preserved
loop-left-preserved c =
    let lt : c.loop-left.left - 1 < length c.args.counts.now = omega arith in (
      omega arith,
      row_added c.args.self.now c.loop-left.self _ c.args.counts.now c.loop-left.left c.loop-left.of _ _ _
          c.loop-left.invariant.1 c.in_ok-of.ensures (omega arith) c.loop-left.invariant.0
          (get_or_default c.args.counts.now (c.loop-left.left - 1) 0 _ lt),
    )
