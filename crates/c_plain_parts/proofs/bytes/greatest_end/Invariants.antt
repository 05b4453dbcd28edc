use Rattle.std.proofs.Common.{◌≡◌, take}
use Rattle.c_plain_parts.specs.Placing.{greatest_end}
use Rattle.c_plain_parts.proofs.bytes.greatest_end.Given as goal

abbrev pub invariant-loop-x : goal.invariant-loop-x
invariant-loop-x l = l.greatest ≡ greatest_end (take l.x-index l.numbers)
