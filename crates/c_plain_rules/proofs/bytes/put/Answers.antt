use Rattle.std.proofs.Common.{◌≡◌, ◌-◌, ◌∙◌, min, length, get_or, arith}
use Rattle.c_plain_parts.proofs.ByteLaws.{next-byte, put-more, put-done}
use Rattle.c_plain_rules.proofs.bytes.put.Goals as goal

pub loop-j-preserved : goal.loop-j-preserved
loop-j-preserved c = record {
  rest = next-byte c.args.x.now.number c.loop-j.j c.loop-j.left c.loop-j.invariant.rest;
  each = put-more c.args.x.now c.args.bytes.now c.loop-j.bytes c.put_byte.new.bytes c.loop-j.j c.loop-j.left
      c.loop-j.invariant.rest c.loop-j.invariant.each c.put_byte.ensures.same c.put_byte.ensures.others;
}

pub returns-clause-each : goal.returns-clause-each
returns-clause-each c = λ k l.
    let x = c.args.x.now in
    let bytes = c.args.bytes.now in
    let e : c.loop-j.j ≡ min x.width (length bytes - x.at) = omega arith in
    c.loop-j.invariant.each k ∙ put-done x c.loop-j.j (length bytes) k (get_or bytes k 0) e l
