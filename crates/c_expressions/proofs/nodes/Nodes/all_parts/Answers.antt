use Rattle.std.proofs.Common.{◌<◌, length, arith}
use Rattle.std.proofs.lemmas.List.{get_or_default}
use Rattle.c_expressions.specs.Nodes.{type_in, type_count}
use Rattle.c_expressions.proofs.Agreeing.{below_more, parts_more}
use Rattle.c_expressions.proofs.nodes.Nodes.all_parts.Goals as goal

pub loop-number-preserved : goal.loop-number-preserved
loop-number-preserved c =
    let i = c.loop-number.number-index in
    let lt : i < length c.args.numbers.now = omega arith in
    rw c.in_ok-push.ensures.items (
      below_more (type_count c.args.self.now) _ _ c.loop-number.invariant.0 c.part.ensures.there,
      λ seen h. parts_more (type_in c.args.self.now) seen _ c.args.numbers.now i _ _
          (c.loop-number.invariant.1 seen h) lt (get_or_default c.args.numbers.now i 0 _ lt) (c.part.ensures.is seen h),
    )
