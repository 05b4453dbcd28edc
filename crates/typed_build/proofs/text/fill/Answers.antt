use Rattle.std.proofs.Common.{arith}
use Rattle.typed_build.proofs.Filling.{filled-more}
use Rattle.typed_build.proofs.text.fill.Goals as goal

pub loop-preserved : goal.loop-preserved
loop-preserved c = filled-more c.loop.text.items c.push.new.text.items _ c.args.count c.loop.counter
    (omega (arith, c.loop-test.true)) c.in_ok-push.ensures c.loop.invariant
