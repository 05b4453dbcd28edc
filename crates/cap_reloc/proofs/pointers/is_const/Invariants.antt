use Rattle.std.proofs.Common.{◌≡◌, length}
use Rattle.obj_mem.specs.Needs.{is_const_within}
use Rattle.cap_reloc.proofs.pointers.is_const.Given as goal

abbrev pub invariant-loop-left : goal.invariant-loop-left
invariant-loop-left l = is_const_within l.left l.p.types l.at ≡ is_const_within (length l.p.types) l.p.types l.t

abbrev pub decreases-loop-left : goal.decreases-loop-left
decreases-loop-left l = l.left
