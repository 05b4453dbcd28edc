use Rattle.std.proofs.Common.{arith}
use Rattle.c_declarators.proofs.Making.{nothing_made, made_more}
use Rattle.c_declarators.proofs.forming.form.Goals as goal

pub loop-left-init : goal.loop-left-init
loop-left-init c = record {
  in_list = omega arith;
  makes = nothing_made c.args.nodes.now c.args.of c.args.wraps.now c.plainly-formed.result c.requires.whole
      c.requires.there c.plainly-formed.ensures.of c.plainly-formed.ensures.sound;
}

pub loop-left-preserved : goal.loop-left-preserved
loop-left-preserved c = record {
  in_list = omega arith;
  makes = made_more c.args.nodes.now c.loop-left.nodes c.made.new.nodes c.args.wraps.now c.loop-left.left
      c.index-wraps-left.result c.loop-left.formed c.in_ok-formed.formed _
      (omega arith) c.loop-left.invariant.in_list c.index-wraps-left.is c.requires.parts c.loop-left.invariant.makes
      c.in_ok-formed.ensures;
}
