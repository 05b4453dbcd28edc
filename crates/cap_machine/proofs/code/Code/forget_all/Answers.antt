use Rattle.std.proofs.Common.{◌≡◌, length, rules, arith}
use Rattle.cap_machine.proofs.KeptCode.{more_vacant, all_vacant}
use Rattle.cap_machine.proofs.code.Code.forget_all.Goals as goal

pub loop-k-init : goal.loop-k-init
loop-k-init c =
    let count : length c.args.self.now.slots ≡ 1024 = search rules in
    record { count = count; first = λ j lt. absurd (omega arith) }

pub loop-k-preserved : goal.loop-k-preserved
loop-k-preserved c =
    more_vacant c.loop-k.self.slots c.loop-k.k c.vacant.result c.loop-k-test.true c.vacant.ensures c.loop-k.invariant

pub returns : goal.returns
returns c at = all_vacant c.loop-k.self.slots c.loop-k.k at c.loop-k-test.false c.loop-k.invariant
