use Rattle.std.proofs.Common.{◌≡◌, suc, ◌+◌, ◌-◌, ◌∙◌, arith}
use Rattle.c_plain_parts.proofs.ByteLaws.{significant-step}
use Rattle.c_plain_parts.proofs.bytes.significant.Goals as goal

pub loop-left-preserved : goal.loop-left-preserved
loop-left-preserved c =
    let n : c.args.width - c.loop-left.count ≡ suc (c.args.width - (c.loop-left.count + 1)) = omega arith in
    let s = significant-step (c.args.width - c.loop-left.count)
    (c.args.width - (c.loop-left.count + 1)) c.loop-left.left n c.loop-left-test.true in
    record { rest = c.loop-left.invariant.rest ∙ omega (arith, s); within = omega arith }
