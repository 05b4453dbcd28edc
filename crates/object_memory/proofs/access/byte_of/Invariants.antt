use Rattle.std.proofs.Common.{◌≡◌}
use Rattle.obj_mem.specs.Objects.{byte_of as byte_in}
use Rattle.object_memory.proofs.access.byte_of.Given as goal

abbrev pub invariant-loop-left : goal.invariant-loop-left
invariant-loop-left l = byte_in l.rest l.left ≡ byte_in l.number l.k

abbrev pub decreases-loop-left : goal.decreases-loop-left
decreases-loop-left l = l.left
