use Rattle.std.proofs.Common.{◌∙◌, ap}
use Rattle.obj_mem.specs.Values.{value_of}
use Rattle.mean_operations.proofs.arithmetic.move_by.Goals as goal

pub returns : goal.returns
returns g c =
    let ops = g.B.Operations.meaning c.args.m.now in
    c.offset.ensures ∙ ap (λ k. ops.offset (g.B.Operations.held c.args.m.now) (value_of c.args.x) k)
    (c.steps_of.ensures ops)
