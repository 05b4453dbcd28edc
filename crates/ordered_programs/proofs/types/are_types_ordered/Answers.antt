use Rattle.std.proofs.Common.{length}
use Rattle.c_tree.specs.Views.{Below}
use Rattle.ordered_programs.proofs.Each.{item_read, one_more, all_come}
use Rattle.ordered_programs.proofs.types.are_types_ordered.Goals as goal

pub loop-k-preserved : goal.loop-k-preserved
loop-k-preserved c =
    let xs = c.args.types.now in
    let i = c.loop-k.k in
    let x = c.index-types-k.result in
    one_more (Below (length xs)) xs i x (item_read xs i x c.loop-k-test.true c.index-types-k.is) c.loop-k.invariant
    (c.is_type_ordered.ensures c.if-not-is_type_ordered.false)

pub returns : goal.returns
returns c = λ e. all_come (Below (length c.args.types.now)) c.args.types.now c.loop-k.k c.loop-k-test.false
    c.loop-k.invariant
