use Rattle.std.proofs.Common.{◌<◌, length, arith}
use Rattle.c_declarators.proofs.Making.{no_types_yet, param_more}
use Rattle.c_declarators.proofs.forming.signature.Goals as goal

pub loop-param-init : goal.loop-param-init
loop-param-init c = rw c.new-types.ensures.items (no_types_yet c.args.nodes.now c.requires.whole)

pub loop-param-preserved : goal.loop-param-preserved
loop-param-preserved c =
    let lt : c.loop-param.param-index < length c.args.params.now = omega arith in
    rw c.in_ok-push.ensures.items (param_more c.args.nodes.now c.loop-param.nodes c.in_signature.new.nodes _
    c.args.params.now c.loop-param.param-index c.in_ok-of.of _ lt c.requires.there c.loop-param.invariant
    c.in_ok-of.ensures)
