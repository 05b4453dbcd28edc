use Rattle.std.proofs.Common.{arith, rules}
use Rattle.std.proofs.lemmas.Grind.{common_steps}
use Rattle.purecap_abi.specs.Placing.{greatest_of}
use Rattle.purecap_abi.proofs.Placing.{greatest_more}
use Rattle.purecap_abi.proofs.frames.greatest.Goals as goal

pub loop-o-init : goal.loop-o-init
unfolding greatest_of
loop-o-init c = search rules

pub loop-o-preserved : goal.loop-o-preserved
loop-o-preserved c =
    let e = greatest_more c.args.locals.now c.loop-o.o-index (record { length = 0; align = 0 }) c.loop-o-test.true in
    grind (arith, common_steps)
