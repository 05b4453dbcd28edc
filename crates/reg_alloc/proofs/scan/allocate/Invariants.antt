use Rattle.std.proofs.Common.{take}
use Rattle.reg_alloc.specs.Scanned.{HasScanned}
use Rattle.reg_alloc.proofs.scan.allocate.Given as goal

abbrev pub invariant-loop-e : goal.invariant-loop-e
invariant-loop-e l = HasScanned l.live.items l.calls.numbers.items (take l.e-index l.e-items) l.scan
