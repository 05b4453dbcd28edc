use Rattle.std.proofs.Common.{◌≡◌, take}
use Rattle.reg_alloc.specs.Scanned.{entries_from}
use Rattle.reg_alloc.proofs.scan.numbered.Given as goal

abbrev pub invariant-loop-index : goal.invariant-loop-index
invariant-loop-index l = l.entries.items ≡ entries_from 0 (take l.index l.live)
